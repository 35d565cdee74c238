-- The names of message types and of their flags.
use Rattle.std.specs.Prelude.{ℕ, List, [], ◌∷◌, ◌++◌, codes, Option, Some, None}
use Rattle.nl_route.specs.declared.family.RouteType.{RouteType}
use Rattle.nl_route.specs.declared.family.Verb.{Verb}
use Rattle.nl_route.specs.declared.family.Verb.TheVariants as verb
use Rattle.nl_route.specs.Families.{name_of}
use Rattle.nl_route.specs.Types.{route_type}
use Rattle.rtnl.specs.declared.names.types.FlagNames.{FlagNames}
use Rattle.rtnl.specs.declared.names.types.FlagNames.TheVariants.{Common, Get, New, Error}
use Rattle.rtnl.specs.Named.{Named, find_named, name_in}

-- the message types of netlink(7)
unfoldable pub controls : List (Named FlagNames)
controls =
    (1, codes "noop", Common)
    ∷ (2, codes "error", Error)
    ∷ (3, codes "done", Common)
    ∷ (4, codes "overrun", Common) ∷ []

-- the first part of the name of a family's message type
abbrev pub verb_name : Verb → List ℕ
verb_name verb.New = codes "new"
verb_name verb.Del = codes "del"
verb_name verb.Get = codes "get"
verb_name verb.Set = codes "set"

-- which names the flags have of a message type of this verb
abbrev pub verb_flags : Verb → FlagNames
verb_flags verb.New = New
verb_flags verb.Del = Common
verb_flags verb.Get = Get
verb_flags verb.Set = Common

-- the name of a message type that says this of a family
abbrev pub name_for : ℕ → Option RouteType → List ℕ
name_for kind None = name_in (codes "other") (find_named kind controls)
name_for kind (Some t) = verb_name t.verb ++ name_of t.family

-- the name of a message type
unfoldable pub type_name : ℕ → List ℕ
type_name kind = name_for kind (route_type kind)

-- those of a row, or the common ones
abbrev pub flags_in : Option (List ℕ × FlagNames) → FlagNames
flags_in None = Common
flags_in (Some row) = row.1

-- those of a message type, by what it says where it is a family's
abbrev pub flags_for : ℕ → Option RouteType → FlagNames
flags_for kind None = flags_in (find_named kind controls)
flags_for kind (Some t) = verb_flags t.verb

-- which names the flags of a message type have
unfoldable pub type_flags : ℕ → FlagNames
type_flags kind = flags_for kind (route_type kind)
