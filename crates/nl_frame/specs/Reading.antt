-- Reading a datagram from left to right: messages or the first error, and the bytes visited.
use Rattle.std.specs.Prelude.{◌+◌, ℕ, ℤ, zero, suc, nat_lt, if◌then◌else◌, List, [], ◌∷◌, length, take, drop, slice_index, Option, Some, None, Ok, Err}
use Rattle.std.specs.Int.{w32, cast_signed}
use Rattle.nl_attr.specs.declared.order.Order.{Order}
use Rattle.nl_attr.specs.declared.fault.Reason.{Reason}
use Rattle.nl_attr.specs.Shape.{Shape}
use Rattle.nl_attr.specs.Numbers.{number_of}
use Rattle.nl_attr.specs.Reading.{Outcome, and_then, map_value, items_of_region}
use Rattle.nl_route.specs.Families.{head_size, context_of, head_of}
use Rattle.nl_frame.specs.declared.header.Header.{Header}
use Rattle.nl_frame.specs.declared.form.Form.{Form}
use Rattle.nl_frame.specs.declared.form.Form.TheVariants as form
use Rattle.nl_route.specs.declared.family.Family.{Family}
use Rattle.nl_frame.specs.Header.{header_of}
use Rattle.nl_frame.specs.Message.{BodyVal, noop, error, done, overrun, object, get, other, MessageVal}
use Rattle.nl_frame.specs.Front.{span_at, payload_at, form_at, broken_message}

-- the signed number in the first four bytes, in two's complement
abbrev pub signed_of : Order → List ℕ → ℤ
signed_of o bytes = cast_signed w32 (number_of o 4 bytes)

-- a DONE of fewer than four bytes has no status
abbrev pub done_at : Order → List ℕ → BodyVal
done_at o payload = if nat_lt (length payload) 4 then done None payload else done (Some (signed_of o payload)) (drop 4 payload)

-- the body in this payload, where its form has no family header
abbrev pub plain_body : Order → Form → List ℕ → BodyVal
plain_body o form.Noop payload = noop payload
plain_body o form.Error payload = error (signed_of o payload) (header_of o (drop 4 payload)) (drop 20 payload)
plain_body o form.Done payload = done_at o payload
plain_body o form.Overrun payload = overrun payload
plain_body o form.Get payload = get (slice_index payload 0) (drop 1 payload)
plain_body o f payload = other payload

-- the message with this header and body
abbrev pub message_of : Header → BodyVal → MessageVal
message_of h body = record { kind = h.kind; flags = h.flags; seq = h.seq; port = h.port; body = body }

-- the error where a header breaks a rule, without visits; else the outcome that is handed in
abbrev pub unless : {A : Type 0} → ℕ → Option Reason → Outcome A → Outcome A
unless place None o = o
unless place (Some r) o = (Err (record { place = place; reason = r }), 0)

module _ (S : Shape) where
  abbrev pub object_body_at : Family → ℕ → List ℕ → Outcome BodyVal
  object_body_at g place payload =
      map_value (object (head_of S.order g (take (head_size g) payload)))
      (items_of_region S (context_of g) 0 (place + head_size g) (drop (head_size g) payload))

  -- the body in the payload at an offset, where that is long enough for its form
  abbrev pub body_at : Form → ℕ → List ℕ → Outcome BodyVal
  body_at (form.Object g) place payload = object_body_at g place payload
  body_at f place payload = (Ok (plain_body S.order f payload), 0)

  -- the message at the front of what is left, where its header breaks no rule
  abbrev pub message_at : ℕ → List ℕ → Outcome MessageVal
  message_at place left = map_value (message_of (header_of S.order left)) (body_at (form_at S.order left) (place + 16) (payload_at S.order left))

  -- The messages from an offset on, at most so many. The datagram's length is enough.
  unfoldable pub messages_at : ℕ → ℕ → List ℕ → Outcome (List MessageVal)
  messages_at zero place left = (Ok [], 0)
  messages_at (suc n) place [] = (Ok [], 0)
  messages_at (suc n) place (b ∷ bs) =
      unless place (broken_message S.order (b ∷ bs))
      (and_then (message_at place (b ∷ bs)) (λ m. map_value (λ ms. m ∷ ms)
      (messages_at n (place + span_at S.order (b ∷ bs)) (drop (span_at S.order (b ∷ bs)) (b ∷ bs)))))

  -- the messages in all that is left
  abbrev pub messages_of : ℕ → List ℕ → Outcome (List MessageVal)
  messages_of place left = messages_at (length left) place left
