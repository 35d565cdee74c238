-- The answer to C of a text, and where it stands.
use Rattle.std.specs.Prelude.{◌≡◌, ◌++◌, ℕ, Bool, List, length, take, drop, Result, Ok, Err}
use Rattle.std.specs.declared.alloc.AllocError.{AllocError}
use Rattle.nl_attr.specs.declared.order.Order.{Order}
use Rattle.nl_frame.specs.Limits.{Bounds}
use Rattle.rtnl.specs.Shown.{Answer, Answers, datagram_json, datagram_text}
use Rattle.rtnl_c.specs.Codes.{no_memory}
use Rattle.rtnl_c.specs.declared.show.Shown.{Shown}

-- a buffer that has a text at its front, as far as it goes
abbrev pub laid : List ℕ → List ℕ → List ℕ
laid text old = take (length old) text ++ drop (length text) old

-- there is a text of this length
abbrev pub shown : ℕ → Shown
shown len = record { len = len; code = 0 }

-- there is no text, for this reason
abbrev pub unshown : ℕ → Shown
unshown code = record { len = 0; code = code }

-- a text that was made stands in the buffer, and this is its length; or memory ran out, and the buffer is as it was
abbrev pub IsShown : Result Bool AllocError → List ℕ → List ℕ → List ℕ → Shown → Type 0
IsShown (Ok taken) text old new a = (new ≡ laid text old) × (a ≡ shown (length text))
IsShown (Err e) text old new a = (new ≡ old) × (a ≡ unshown no_memory)

-- what is printed of a datagram of this number with this answer
abbrev pub Printed : Type 0
Printed = Order → ℕ → List ℕ → Answer → List ℕ

-- what is printed of the datagram's answer stands in the buffer, and this is its length; or memory ran out, and the buffer is as it was
pub data ShowsAs (printed : Printed) (b : Bounds) (number : ℕ) (d old : List ℕ) : List ℕ → Shown → Type 0 where
  shows : (a : Answer) → Answers b d a
      → ShowsAs printed b number d old (laid (printed b.shape.order number d a) old) (shown (length (printed b.shape.order number d a)))
  refused : ShowsAs printed b number d old old (unshown no_memory)

-- its text
abbrev pub Shows : Bounds → ℕ → List ℕ → List ℕ → List ℕ → Shown → Type 0
Shows = ShowsAs datagram_text

-- its line of JSON
abbrev pub ShowsJson : Bounds → ℕ → List ℕ → List ℕ → List ℕ → Shown → Type 0
ShowsJson = ShowsAs datagram_json
