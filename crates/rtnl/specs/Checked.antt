-- What a check finds of the datagrams of an input.
use Rattle.std.specs.Prelude.{◌≡◌, ◌≤◌, ◌↔◌, ◌++◌, ℕ, List, [], ◌∷◌, length, codes, Bool, true, false, IsTrue, Result, Ok, Err}
use Rattle.std.specs.Fmt.{decimal}
use Rattle.nl_frame.specs.declared.reading.ReadError.{ReadError}
use Rattle.nl_frame.specs.Limits.{Bounds}
use Rattle.nl_frame.specs.Message.{MessageVal}
use Rattle.nl_frame.specs.Layout.{Layout}
use Rattle.nl_frame.specs.Written.{written}
use Rattle.rtnl.specs.Text.{◌⨟◌}
use Rattle.rtnl.specs.Json.{Field, boolean, json_line}
use Rattle.rtnl.specs.Shown.{Refuses, datagram_object, refusal_fields, refusal_text}
use Rattle.rtnl.specs.Runs.{Prints}
use Rattle.rtnl.specs.declared.verdict.Verdict.{Verdict}

-- whether an accepted datagram is canonical, or why it is refused
abbrev pub Finding : Type 0
Finding = Result Bool ReadError

-- within the limit the datagram has a layout, and is or isn't what that is written as; or it is refused so
abbrev pub Finds : Bounds → List ℕ → Finding → Type 0
Finds b d (Ok canonical) = (length d ≤ b.datagram) × ((ms : List MessageVal) × Layout b.shape ms d × (IsTrue canonical ↔ written b.shape.order ms ≡ d))
Finds b d (Err e) = Refuses b d e

-- the datagram of this number
unfoldable pub number_front : ℕ → List ℕ
number_front number = codes "datagram " ⨟ decimal number ⨟ codes " "

-- what stands behind it
unfoldable pub finding_text : Finding → List ℕ
finding_text (Ok true) = codes "canonical\n"
finding_text (Ok false) = codes "accepted\n"
finding_text (Err e) = refusal_text e

-- the line of the datagram of this number
abbrev pub checked_line : ℕ → List ℕ → Finding → List ℕ
checked_line number d finding = number_front number ++ finding_text finding

-- the datagram was accepted
abbrev pub is_accepted : Finding → Bool
is_accepted (Ok _) = true
is_accepted (Err _) = false

-- what a check says of datagrams, and the verdict on them
abbrev pub Checks : Bounds → List (List ℕ) → List ℕ → Verdict → Type 0
Checks b = Prints (Finds b) checked_line is_accepted

-- whether it is canonical, or why it is refused
abbrev pub finding_fields : Finding → List Field
finding_fields (Ok canonical) = (codes "canonical", boolean canonical) ∷ []
finding_fields (Err e) = refusal_fields e

-- the datagram of this number, as a line of JSON
abbrev pub finding_json : ℕ → List ℕ → Finding → List ℕ
finding_json n d finding = json_line (datagram_object n (finding_fields finding))

-- the same of datagrams as lines of JSON
abbrev pub ChecksJson : Bounds → List (List ℕ) → List ℕ → Verdict → Type 0
ChecksJson b = Prints (Finds b) finding_json is_accepted
