-- What is shown of the datagrams of an input.
use Rattle.std.specs.Prelude.{◌<◌, ◌≤◌, ℕ, List, [], ◌∷◌, ◌++◌, length, codes, Bool, true, false, Result, Ok, Err}
use Rattle.json.specs.Json.{Json}
use Rattle.nl_attr.specs.declared.order.Order.{Order}
use Rattle.nl_frame.specs.declared.reading.ReadError.{ReadError}
use Rattle.nl_frame.specs.declared.reading.ReadError.TheVariants.{TooLarge, Layout as Fails, Memory}
use Rattle.nl_frame.specs.Limits.{Bounds}
use Rattle.nl_frame.specs.Message.{MessageVal}
use Rattle.nl_frame.specs.Layout.{Layout}
use Rattle.nl_frame.specs.Heads.{IsFirstFault, whole}
use Rattle.rtnl.specs.Runs.{Prints}
use Rattle.rtnl.specs.Datagrams.{datagram_line, reason_text, refused_line, too_large_line}
use Rattle.rtnl.specs.Json.{Field, array, json_line, number, object, string}
use Rattle.rtnl.specs.Messages.{messages_text}
use Rattle.rtnl.specs.MessagesJson.{messages_json}
use Rattle.rtnl.specs.declared.verdict.Verdict.{Verdict}

-- the messages of a datagram, or why it is refused
abbrev pub Answer : Type 0
Answer = Result (List MessageVal) ReadError

-- the datagram is too large, or within the limit it has this first fault
abbrev pub Refuses : Bounds → List ℕ → ReadError → Type 0
Refuses b d TooLarge = b.datagram < length d
Refuses b d (Fails f) = (length d ≤ b.datagram) × IsFirstFault b.shape (whole d) f.place f.reason
Refuses b d Memory = ⊥

-- within the limit the datagram has this layout, or it is refused so
abbrev pub Answers : Bounds → List ℕ → Answer → Type 0
Answers b d (Ok ms) = (length d ≤ b.datagram) × Layout b.shape ms d
Answers b d (Err e) = Refuses b d e

-- the line of a refusal
abbrev pub refusal_text : ReadError → List ℕ
refusal_text TooLarge = too_large_line
refusal_text (Fails f) = refused_line f.reason f.place
refusal_text Memory = []

-- the messages, or the line of the refusal
abbrev pub answer_text : Order → Answer → List ℕ
answer_text o (Ok ms) = messages_text o ms
answer_text o (Err e) = refusal_text e

-- the datagram of this number
abbrev pub datagram_text : Order → ℕ → List ℕ → Answer → List ℕ
datagram_text o number d a = datagram_line number (length d) ++ answer_text o a

-- the datagram was accepted
abbrev pub is_accepted : Answer → Bool
is_accepted (Ok _) = true
is_accepted (Err _) = false

-- what is shown of datagrams, and the verdict on them
abbrev pub Shows : Bounds → List (List ℕ) → List ℕ → Verdict → Type 0
Shows b = Prints (Answers b) (datagram_text b.shape.order) is_accepted

-- why a datagram is refused
unfoldable pub refusal_fields : ReadError → List Field
refusal_fields TooLarge = (codes "refused", string (codes "too large")) ∷ []
refusal_fields (Fails f) = (codes "refused", string (reason_text f.reason)) ∷ (codes "at", number f.place) ∷ []
refusal_fields Memory = []

-- the size of a datagram and its messages, or why it is refused
abbrev pub answer_fields : Order → ℕ → Answer → List Field
answer_fields o size (Ok ms) = (codes "bytes", number size) ∷ (codes "messages", array (messages_json o ms)) ∷ []
answer_fields o size (Err e) = refusal_fields e

-- the object of a datagram: its number, then these fields
abbrev pub datagram_object : ℕ → List Field → Json
datagram_object n fields = object ((codes "datagram", number n) ∷ fields)

-- the datagram of this number, as a line of JSON
abbrev pub datagram_json : Order → ℕ → List ℕ → Answer → List ℕ
datagram_json o n d a = json_line (datagram_object n (answer_fields o (length d) a))

-- the same of datagrams as lines of JSON
abbrev pub ShowsJson : Bounds → List (List ℕ) → List ℕ → Verdict → Type 0
ShowsJson b = Prints (Answers b) (datagram_json b.shape.order) is_accepted
