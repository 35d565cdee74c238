-- The bytes that messages are written as, and how many they are.
use Rattle.std.specs.Prelude.{◌+◌, ℕ, List, [], ◌∷◌, ◌++◌, length, Some, None}
use Rattle.nl_attr.specs.declared.order.Order.{Order}
use Rattle.nl_attr.specs.Numbers.{aligned}
use Rattle.nl_attr.specs.Written.{with_padding, items_len}
use Rattle.nl_attr.specs.Written as attrs
use Rattle.nl_route.specs.Fields.{signed}
use Rattle.nl_route.specs.Fields as fields
use Rattle.nl_route.specs.Families.{head_size, family_of, fields_of}
use Rattle.nl_frame.specs.declared.header.Header.{Header}
use Rattle.nl_frame.specs.Header.{header_fields}
use Rattle.nl_frame.specs.Message.{BodyVal, noop, error, done, overrun, object, get, other, MessageVal}

-- how many bytes a body is written as, in either order
abbrev pub body_len : BodyVal → ℕ
body_len (noop bs) = length bs
body_len (error code h tail) = 20 + length tail
body_len (done None tail) = length tail
body_len (done (Some z) tail) = 4 + length tail
body_len (overrun bs) = length bs
body_len (object h is) = head_size (family_of h) + items_len is
body_len (get n tail) = 1 + length tail
body_len (other bs) = length bs

-- the header of a message when it is written
abbrev pub header_for : MessageVal → Header
header_for m = record { len = 16 + body_len m.body; kind = m.kind; flags = m.flags; seq = m.seq; port = m.port }

module _ (o : Order) where
  -- the bytes of a body
  abbrev pub body_written : BodyVal → List ℕ
  body_written (noop bs) = bs
  body_written (error code h tail) = fields.written o (signed code ∷ header_fields h) ++ tail
  body_written (done None tail) = tail
  body_written (done (Some z) tail) = fields.written o (signed z ∷ []) ++ tail
  body_written (overrun bs) = bs
  body_written (object h is) = fields.written o (fields_of h) ++ attrs.written o is
  body_written (get n tail) = n ∷ tail
  body_written (other bs) = bs

  -- the bytes of a message: its header, then its body
  abbrev pub message_item : MessageVal → List ℕ
  message_item m = fields.written o (header_fields (header_for m)) ++ body_written m.body

  -- each message with its padding, the last one too
  abbrev pub written : List MessageVal → List ℕ
  written [] = []
  written (m ∷ ms) = with_padding (message_item m) ++ written ms

-- how many bytes are written, in either order
abbrev pub written_len : List MessageVal → ℕ
written_len [] = 0
written_len (m ∷ ms) = aligned (16 + body_len m.body) + written_len ms
