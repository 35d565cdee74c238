-- The message of a neighbour's request: ndmsg and attributes of linux/neighbour.h.
use Rattle.std.specs.Prelude.{ℕ, List, [], ◌∷◌}
use Rattle.nl_attr.specs.declared.order.Order.{Order}
use Rattle.nl_route.specs.declared.family.Family.TheVariants as family
use Rattle.nl_route.specs.declared.ndmsg.NeighHead.{NeighHead}
use Rattle.nl_route.specs.Families.{any}
use Rattle.nl_route.specs.Neigh.{NDA_DST, NDA_LLADDR, NDA_VLAN}
use Rattle.nl_frame.specs.Message.{MessageVal}
use Rattle.nl_request.specs.declared.operation.Operation.{Operation}
use Rattle.nl_request.specs.declared.neigh.NeighRequest.{NeighRequest}
use Rattle.nl_request.specs.Parts.{Part, bytes_part, number_part, request}

-- its head
abbrev pub neigh_head : NeighRequest → NeighHead
neigh_head r = record { family = r.family; ifindex = r.index; state = r.state; flags = r.flags; sort = 0 }

-- its attributes
abbrev pub neigh_parts : NeighRequest → Order → List Part
neigh_parts r o = bytes_part NDA_DST r.destination ∷ bytes_part NDA_LLADDR r.link_address ∷ number_part NDA_VLAN 2 o r.vlan ∷ []

-- the whole message
abbrev pub neigh_message : NeighRequest → Operation → ℕ → Order → MessageVal
neigh_message r op seq o = request op seq (any family.Neigh (neigh_head r)) (neigh_parts r o)
