-- An address: its head, ifaddrmsg of linux/if_addr.h, and the numbers of its attributes.
use Rattle.std.specs.Prelude.{ℕ, List, [], ◌∷◌}
use Rattle.nl_attr.specs.declared.order.Order.{Order}
use Rattle.nl_route.specs.declared.ifaddrmsg.AddrHead.{AddrHead}
use Rattle.nl_route.specs.Fields.{Field, byte, number, value_at, read_as}

-- the fields of ifaddrmsg, 8 bytes
abbrev pub addr_fields : AddrHead → List Field
addr_fields h = byte h.family ∷ byte h.prefixlen ∷ byte h.flags ∷ byte h.scope ∷ number 4 h.index ∷ []

-- a head of these fields
abbrev pub addr_with : List Field → AddrHead
addr_with fs = record { family = value_at fs 0; prefixlen = value_at fs 1; flags = value_at fs 2; scope = value_at fs 3; index = value_at fs 4 }

-- what is read of the bytes of ifaddrmsg
abbrev pub addr_of : Order → List ℕ → AddrHead
addr_of = read_as addr_fields addr_with

-- ---- the numbers of its attributes, of linux/if_addr.h

-- the address, or the peer's on a point-to-point link
abbrev pub IFA_ADDRESS : ℕ
IFA_ADDRESS = 1

-- the local address
abbrev pub IFA_LOCAL : ℕ
IFA_LOCAL = 2

-- its label
abbrev pub IFA_LABEL : ℕ
IFA_LABEL = 3

-- the broadcast address
abbrev pub IFA_BROADCAST : ℕ
IFA_BROADCAST = 4

-- its flags, all 32 bits
abbrev pub IFA_FLAGS : ℕ
IFA_FLAGS = 8
