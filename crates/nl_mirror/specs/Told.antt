-- What a mirror knows an entry by. An address that a bridge learnt stays one entry of that bridge, whichever port it is behind: of one that moves the kernel tells the
-- new port alone, and of one that goes its port, or the bridge itself.
use Rattle.std.specs.Prelude.{◌==◌, ◌&&◌, Bool, ℕ, if◌then◌else◌, List, bit_and}
use Rattle.std.specs.Int.{w32, cast_signed}
use Rattle.nl_attr.specs.declared.order.Order.{Order}
use Rattle.nl_attr.specs.Tree.{Items}
use Rattle.nl_route.specs.declared.family.Family.{Family}
use Rattle.nl_route.specs.declared.family.Family.TheVariants.{Link, Addr, Route, Neigh, Rule}
use Rattle.nl_route.specs.declared.ndmsg.NeighHead.{NeighHead}
use Rattle.nl_route.specs.Families.{row, any}
use Rattle.nl_route.specs.Neigh.{NDA_MASTER}
use Rattle.nl_table.specs.Attributes.{number_at}
use Rattle.nl_dump.specs.Items.{Item, item_key}
use Rattle.nl_mirror.specs.Notes.{AF_BRIDGE}

-- an entry of a bridge's own forwarding table: a neighbour of AF_BRIDGE without NTF_SELF (0x02)
abbrev pub is_forwarding : NeighHead → Bool
is_forwarding h = (h.family == AF_BRIDGE) && (bit_and h.flags 2 == 0)

module _ (o : Order) where
  -- the head that an entry is known by: that of a forwarding entry has its bridge, NDA_MASTER, for its device
  abbrev pub known_head : (g : Family) → (row g).Head → Items → (row g).Head
  known_head Link h is = h
  known_head Addr h is = h
  known_head Route h is = h
  known_head Neigh h is = if is_forwarding h then record h { ifindex = cast_signed w32 (number_at o NDA_MASTER is) } else h
  known_head Rule h is = h

  -- the item that an entry is known as
  abbrev pub known_as : Item → Item
  known_as (h, is) = (any h.family (known_head h.family h.head is), is)

  -- its key in a mirror
  abbrev pub mirror_key : Item → List ℕ
  mirror_key i = item_key o (known_as i)

-- the key in a mirror of what stands for an item
abbrev pub key_by : {T : Type 0} → (T → Item) → Order → T → List ℕ
key_by f o x = mirror_key o (f x)
