-- A neighbour: its head, ndmsg of linux/neighbour.h, and the numbers of its attributes.
use Rattle.std.specs.Prelude.{ℕ, List, [], ◌∷◌}
use Rattle.nl_attr.specs.declared.order.Order.{Order}
use Rattle.nl_route.specs.declared.ndmsg.NeighHead.{NeighHead}
use Rattle.nl_route.specs.Fields.{Field, byte, number, signed, pad, value_at, signed_at, read_as}

-- the fields of ndmsg, 12 bytes
abbrev pub neigh_fields : NeighHead → List Field
neigh_fields h = byte h.family ∷ pad 1 ∷ pad 2 ∷ signed h.ifindex ∷ number 2 h.state ∷ byte h.flags ∷ byte h.sort ∷ []

-- a head of these fields
abbrev pub neigh_with : List Field → NeighHead
neigh_with fs = record { family = value_at fs 0; ifindex = signed_at fs 3; state = value_at fs 4; flags = value_at fs 5; sort = value_at fs 6 }

-- what is read of the bytes of ndmsg
abbrev pub neigh_of : Order → List ℕ → NeighHead
neigh_of = read_as neigh_fields neigh_with

-- ---- the numbers of its attributes, of linux/neighbour.h

-- its network address
abbrev pub NDA_DST : ℕ
NDA_DST = 1

-- its link-layer address
abbrev pub NDA_LLADDR : ℕ
NDA_LLADDR = 2

-- the VLAN of a bridge's entry
abbrev pub NDA_VLAN : ℕ
NDA_VLAN = 5

-- the UDP port of a VXLAN entry
abbrev pub NDA_PORT : ℕ
NDA_PORT = 6

-- the VXLAN network identifier
abbrev pub NDA_VNI : ℕ
NDA_VNI = 7

-- the bridge of a forwarding entry
abbrev pub NDA_MASTER : ℕ
NDA_MASTER = 9
