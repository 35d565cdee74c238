-- How the program finds what a message type says: by a fourth of it, and what is left. No public clause cites this module.
use Rattle.std.specs.Prelude.{ℕ, ◌/◌, ◌%◌, ◌==◌, if◌then◌else◌, List, [], ◌∷◌, Option, Some, None}
use Rattle.nl_route.specs.declared.family.Family.{Family}
use Rattle.nl_route.specs.declared.family.Family.TheVariants.{Link, Addr, Route, Neigh, Rule}
use Rattle.nl_route.specs.declared.family.RouteType.{RouteType}
use Rattle.nl_route.specs.declared.family.Verb.{Verb}
use Rattle.nl_route.specs.declared.family.Verb.TheVariants.{New, Del, Get, Set}
use Rattle.nl_route.specs.Types.{says, under}
use Rattle.nl_route.specs.Families.{has_verb}

-- the families by a fourth of their types
abbrev pub fourths : List (ℕ × Family)
fourths = (4, Link) ∷ (5, Addr) ∷ (6, Route) ∷ (7, Neigh) ∷ (8, Rule) ∷ []

-- the family of the four types from 4 n on
abbrev pub family_of_fourth : ℕ → Option Family
family_of_fourth n = under n fourths

-- what the first of four types asks for, and so on
abbrev pub verb_at : ℕ → Verb
verb_at n = if n == 0 then New else (if n == 1 then Del else (if n == 2 then Get else Set))

-- what a family and a verb say together, where the family has the verb
abbrev pub type_in : Option Family → Verb → Option RouteType
type_in None v = None
type_in (Some g) v = if has_verb g v then Some (says v g) else None

-- what a message type says, by a fourth of it and what is left
abbrev pub by_fourth : ℕ → Option RouteType
by_fourth n = type_in (family_of_fourth (n / 4)) (verb_at (n % 4))
