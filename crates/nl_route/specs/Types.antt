-- The message types of rtnetlink, RTM_NEWLINK of linux/rtnetlink.h and on, and what each says.
use Rattle.std.specs.Prelude.{ℕ, ◌==◌, if◌then◌else◌, List, [], ◌∷◌, Option, Some, None}
use Rattle.nl_route.specs.declared.family.Family.{Family}
use Rattle.nl_route.specs.declared.family.Family.TheVariants.{Link, Addr, Route, Neigh, Rule}
use Rattle.nl_route.specs.declared.family.RouteType.{RouteType}
use Rattle.nl_route.specs.declared.family.Verb.{Verb}
use Rattle.nl_route.specs.declared.family.Verb.TheVariants.{New, Del, Get, Set}

-- this verb of this family
abbrev pub says : Verb → Family → RouteType
says v g = record { family = g; verb = v }

-- all of them: no other type is a family's
abbrev pub types : List (ℕ × RouteType)
types =
    (16, says New Link) ∷ (17, says Del Link) ∷ (18, says Get Link) ∷ (19, says Set Link)
    ∷ (20, says New Addr) ∷ (21, says Del Addr) ∷ (22, says Get Addr)
    ∷ (24, says New Route) ∷ (25, says Del Route) ∷ (26, says Get Route)
    ∷ (28, says New Neigh) ∷ (29, says Del Neigh) ∷ (30, says Get Neigh)
    ∷ (32, says New Rule) ∷ (33, says Del Rule) ∷ (34, says Get Rule) ∷ []

-- what stands under a number
abbrev pub under : {X : Type 0} → ℕ → List (ℕ × X) → Option X
under n [] = None
under n (r ∷ rs) = if n == r.0 then Some r.1 else under n rs

-- what a message type says, where it is a family's
unfoldable pub route_type : ℕ → Option RouteType
route_type n = under n types
