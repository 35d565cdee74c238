-- The header of a message.
use Rattle.std.specs.Prelude.{ℕ, List, [], ◌∷◌, drop}
use Rattle.nl_attr.specs.declared.order.Order.{Order}
use Rattle.nl_attr.specs.Numbers.{number_of}
use Rattle.nl_route.specs.Fields.{Field, number}
use Rattle.nl_frame.specs.declared.header.Header.{Header}

-- nlmsghdr, 16 bytes
abbrev pub header_fields : Header → List Field
header_fields h = number 4 h.len ∷ number 2 h.kind ∷ number 2 h.flags ∷ number 4 h.seq ∷ number 4 h.port ∷ []

-- what is read of the bytes of nlmsghdr
abbrev pub header_of : Order → List ℕ → Header
header_of o bytes = record {
  len = number_of o 4 bytes;
  kind = number_of o 2 (drop 4 bytes);
  flags = number_of o 2 (drop 6 bytes);
  seq = number_of o 4 (drop 8 bytes);
  port = number_of o 4 (drop 12 bytes);
}
