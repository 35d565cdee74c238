-- The head of a body that a head of the program is.
use Rattle.nl_route.specs.declared.family.Family.TheVariants as family
use Rattle.nl_route.specs.Families.{AnyHead, any}
use Rattle.nl_frame.specs.declared.building.head.FamilyHead.{FamilyHead}
use Rattle.nl_frame.specs.declared.building.head.FamilyHead.TheVariants.{Link, Addr, Route, Neigh, Rule}

abbrev pub any_head : FamilyHead → AnyHead
any_head (Link h) = any family.Link h
any_head (Addr h) = any family.Addr h
any_head (Route h) = any family.Route h
any_head (Neigh h) = any family.Neigh h
any_head (Rule h) = any family.Rule h
