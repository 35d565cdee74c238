-- A link: its head, ifinfomsg of linux/rtnetlink.h, and the numbers of its attributes.
use Rattle.std.specs.Prelude.{ℕ, List, [], ◌∷◌}
use Rattle.nl_attr.specs.declared.order.Order.{Order}
use Rattle.nl_route.specs.declared.ifinfomsg.LinkHead.{LinkHead}
use Rattle.nl_route.specs.Fields.{Field, byte, number, signed, pad, value_at, signed_at, read_as}

-- the fields of ifinfomsg, 16 bytes
abbrev pub link_fields : LinkHead → List Field
link_fields h = byte h.family ∷ pad 1 ∷ number 2 h.hardware ∷ signed h.index ∷ number 4 h.flags ∷ number 4 h.change ∷ []

-- a head of these fields
abbrev pub link_with : List Field → LinkHead
link_with fs = record { family = value_at fs 0; hardware = value_at fs 2; index = signed_at fs 3; flags = value_at fs 4; change = value_at fs 5 }

-- what is read of the bytes of ifinfomsg
abbrev pub link_of : Order → List ℕ → LinkHead
link_of = read_as link_fields link_with

-- ---- the numbers of its attributes, of linux/if_link.h

-- the name of an interface
abbrev pub IFLA_IFNAME : ℕ
IFLA_IFNAME = 3

-- the greatest packet of an interface
abbrev pub IFLA_MTU : ℕ
IFLA_MTU = 4

-- the index of the interface that a port belongs to
abbrev pub IFLA_MASTER : ℕ
IFLA_MASTER = 10

-- the operational state of an interface
abbrev pub IFLA_OPERSTATE : ℕ
IFLA_OPERSTATE = 16

-- the kind of a virtual interface, inside IFLA_LINKINFO
abbrev pub IFLA_INFO_KIND : ℕ
IFLA_INFO_KIND = 1
