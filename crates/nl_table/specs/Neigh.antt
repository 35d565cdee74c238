-- Which fields make the key of a neighbour: this project's own choice.
use Rattle.std.specs.Prelude.{ℕ, ◌==◌, if◌then◌else◌, List, [], ◌∷◌, bit_and}
use Rattle.std.specs.Int.{w32, cast_unsigned}
use Rattle.nl_attr.specs.declared.order.Order.{Order}
use Rattle.nl_attr.specs.Tree.{Items}
use Rattle.nl_route.specs.Neigh.{NDA_DST, NDA_LLADDR, NDA_VLAN, NDA_VNI}
use Rattle.nl_route.specs.declared.ndmsg.NeighHead.{NeighHead}
use Rattle.nl_route.specs.Views.{number_view, bytes_view}
use Rattle.nl_table.specs.Keys.{KeyField, byte, number, bytes}
use Rattle.nl_table.specs.Attributes.{or_zero, number_at}

-- the family of the entries of a bridge's forwarding table, of linux/socket.h
abbrev pub AF_BRIDGE : ℕ
AF_BRIDGE = 7

-- the flags that are part of a key: NTF_SELF 0x02, NTF_MASTER 0x04 and NTF_PROXY 0x08 of linux/neighbour.h
abbrev pub IDENTIFYING_FLAGS : ℕ
IDENTIFYING_FLAGS = 0x0e

module _ (o : Order) where
  -- a neighbour of the family AF_BRIDGE, beside what all have: NDA_LLADDR, NDA_VLAN, NDA_VNI
  abbrev pub bridge_key_fields : NeighHead → Items → List KeyField
  bridge_key_fields h is =
      if h.family == AF_BRIDGE
      then bytes (bytes_view NDA_LLADDR is) ∷ number 2 (or_zero (number_view o 2 NDA_VLAN is)) ∷ number 4 (number_at o NDA_VNI is) ∷ []
      else []

  -- a neighbour: ndm_family, ndm_ifindex, of its flags NTF_SELF, NTF_MASTER and NTF_PROXY, NDA_DST
  abbrev pub neigh_key_fields : NeighHead → Items → List KeyField
  neigh_key_fields h is =
      byte h.family ∷ number 4 (cast_unsigned w32 h.ifindex) ∷ byte (bit_and h.flags IDENTIFYING_FLAGS) ∷ bytes (bytes_view NDA_DST is) ∷ bridge_key_fields h is
