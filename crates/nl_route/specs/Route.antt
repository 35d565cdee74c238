-- A route: its head, rtmsg of linux/rtnetlink.h, and the numbers of its attributes.
use Rattle.std.specs.Prelude.{ℕ, List, [], ◌∷◌}
use Rattle.nl_attr.specs.declared.order.Order.{Order}
use Rattle.nl_route.specs.declared.rtmsg.RouteHead.{RouteHead}
use Rattle.nl_route.specs.Fields.{Field, byte, number, value_at, read_as}

-- the fields of rtmsg, 12 bytes
abbrev pub route_fields : RouteHead → List Field
route_fields h = byte h.family ∷ byte h.dst_len ∷ byte h.src_len ∷ byte h.tos ∷ byte h.table ∷ byte h.protocol ∷ byte h.scope ∷ byte h.sort ∷ number 4 h.flags ∷ []

-- a head of these fields
abbrev pub route_with : List Field → RouteHead
route_with fs = record { family = value_at fs 0; dst_len = value_at fs 1; src_len = value_at fs 2; tos = value_at fs 3; table = value_at fs 4; protocol = value_at fs 5; scope = value_at fs 6; sort = value_at fs 7; flags = value_at fs 8 }

-- what is read of the bytes of rtmsg
abbrev pub route_of : Order → List ℕ → RouteHead
route_of = read_as route_fields route_with

-- ---- the numbers of its attributes, of linux/rtnetlink.h

-- its destination
abbrev pub RTA_DST : ℕ
RTA_DST = 1

-- its source
abbrev pub RTA_SRC : ℕ
RTA_SRC = 2

-- the index of the input interface
abbrev pub RTA_IIF : ℕ
RTA_IIF = 3

-- the index of the output interface
abbrev pub RTA_OIF : ℕ
RTA_OIF = 4

-- the gateway
abbrev pub RTA_GATEWAY : ℕ
RTA_GATEWAY = 5

-- its priority
abbrev pub RTA_PRIORITY : ℕ
RTA_PRIORITY = 6

-- the preferred source address
abbrev pub RTA_PREFSRC : ℕ
RTA_PREFSRC = 7

-- the routing table, all 32 bits
abbrev pub RTA_TABLE : ℕ
RTA_TABLE = 15
