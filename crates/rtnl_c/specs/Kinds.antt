-- The families for which C asks by a message type.
use Rattle.std.specs.Prelude.{Option, Some, None}
use Rattle.nl_route.specs.declared.family.Family.{Family}
use Rattle.nl_route.specs.declared.family.RouteType.{RouteType}

-- the family that a message type is of
abbrev pub family_in : Option RouteType → Option Family
family_in None = None
family_in (Some t) = Some t.family
