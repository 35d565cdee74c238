-- The message at the front of bytes, and the one at an offset of a datagram.
use Rattle.std.specs.Prelude.{◌≡◌, ◌≤◌, ◌<◌, ◌+◌, ℕ, nat_lt, if◌then◌else◌, List, length, drop, Option, Some, None, Result, Ok, Err}
use Rattle.nl_attr.specs.declared.order.Order.{Order}
use Rattle.nl_attr.specs.declared.fault.Fault.{Fault}
use Rattle.nl_attr.specs.declared.fault.Reason.{Reason}
use Rattle.nl_attr.specs.declared.fault.Reason.TheVariants.{ShortBody}
use Rattle.nl_attr.specs.Numbers.{number_of, span_of}
use Rattle.nl_attr.specs.Walk.{broken_length, payload_of}
use Rattle.nl_attr.specs.Heads.{or_else}
use Rattle.nl_frame.specs.declared.form.Form.{Form}
use Rattle.nl_frame.specs.declared.front.Frame.{Frame}
use Rattle.nl_frame.specs.Form.{form_of, least_body}
use Rattle.nl_frame.specs.Header.{header_of}

-- the rule that a body of n bytes breaks, if it is too short for its form
abbrev pub broken_body : ℕ → Form → Option Reason
broken_body n form = if nat_lt n (least_body form) then Some ShortBody else None

module _ (o : Order) where
  -- the form of the body, by the type field of the header
  abbrev pub form_at : List ℕ → Form
  form_at left = form_of (number_of o 2 (drop 4 left))

  -- the bytes behind the header, up to its length field
  abbrev pub payload_at : List ℕ → List ℕ
  payload_at left = payload_of o 16 4 left

  -- how many bytes the message occupies, with its padding as far as it is there
  abbrev pub span_at : List ℕ → ℕ
  span_at left = span_of o 4 left

  -- the rule of lengths that its header breaks, if any: Cut or BadLength
  abbrev pub broken_frame : List ℕ → Option Reason
  broken_frame left = broken_length o 16 4 left

  -- the first rule that the message breaks, if any
  abbrev pub broken_message : List ℕ → Option Reason
  broken_message left = or_else (broken_frame left) (broken_body (length (payload_at left)) (form_at left))

  -- this frame is the message at the front
  pub record IsFrame (left : List ℕ) (f : Frame) : Type 0 where
    pub sound : broken_message left ≡ None
    pub header : f.header ≡ header_of o left
    pub form : f.form ≡ form_at left
    pub span : f.span ≡ span_at left
    pub payload : f.payload.now ≡ payload_at left
    pub rest : f.rest.now ≡ drop (span_at left) left
    pub least : least_body f.form ≤ length f.payload.now
    pub inside : length f.payload.now + 16 ≤ f.span
    pub within : f.span ≤ length left

  -- the answer is the message at the front, or the first rule that it breaks
  abbrev pub GivesFrame : List ℕ → Result Frame Reason → Type 0
  GivesFrame left (Ok f) = IsFrame left f
  GivesFrame left (Err r) = broken_message left ≡ Some r

  -- the answer is the message at this offset, or the rule it breaks; nothing from the end on
  abbrev pub StandsAt : List ℕ → ℕ → Option (Result Frame Fault) → Type 0
  StandsAt bytes place None = length bytes ≤ place
  StandsAt bytes place (Some (Ok f)) = (place < length bytes) × IsFrame (drop place bytes) f
  StandsAt bytes place (Some (Err f)) = (place < length bytes) × (broken_message (drop place bytes) ≡ Some f.reason) × (f.place ≡ place)
