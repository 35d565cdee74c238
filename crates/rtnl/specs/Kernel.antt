-- The names that the kernel's headers give message types and attributes, and what a head says of the attributes in it.
use Rattle.std.specs.Prelude.{ℕ, ◌++◌, ◌==◌, if◌then◌else◌, List, [], ◌∷◌, Option, Some, None, codes}
use Rattle.std.specs.Borrow.{Bor}
use Rattle.nl_attr.specs.declared.tree.Ctx.{Ctx}
use Rattle.nl_attr.specs.declared.tree.Ctx.TheVariants.{Link, LinkInfo, Addr, Route, Metrics, Neigh, Rule, Plain}
use Rattle.nl_route.specs.declared.family.Family.{Family}
use Rattle.nl_route.specs.declared.family.Family.TheVariants as family
use Rattle.nl_route.specs.declared.family.RouteType.{RouteType}
use Rattle.nl_route.specs.declared.family.Verb.{Verb}
use Rattle.nl_route.specs.declared.family.Verb.TheVariants.{New, Del, Get, Set}
use Rattle.nl_route.specs.Types.{route_type}
use Rattle.nl_values.specs.Known.{message_set, prefix_of as set_prefix}
use Rattle.nl_values.specs.declared.set.Set.{Set as AttributeSet}
use Rattle.rtnl.specs.Attributes.{row_of}
use Rattle.rtnl.specs.Data.{known}
use Rattle.rtnl.specs.Further.{further_rows}
use Rattle.rtnl.specs.Named.{find_named}

-- a name of the program, whose second part stands right behind the first
abbrev pub kernel_name : Bor (List ℕ) × Bor (List ℕ) → List ℕ
kernel_name name = name.0.now ++ name.1.now

-- what the names of the attributes of a context begin with
unfoldable pub prefix_of : Ctx → List ℕ
prefix_of Link = codes "IFLA_"
prefix_of LinkInfo = codes "IFLA_INFO_"
prefix_of Addr = codes "IFA_"
prefix_of Route = codes "RTA_"
prefix_of Metrics = codes "RTAX_"
prefix_of Neigh = codes "NDA_"
prefix_of Rule = codes "FRA_"
prefix_of Plain = codes ""

-- the name in a row, behind this, or what stands for it where there is none
abbrev pub named_in : {T : Type 0} → List ℕ → Option (List ℕ × T) → Option (List ℕ) → Option (List ℕ)
named_in front None other = other
named_in front (Some row) other = Some (front ++ row.0)

-- the name of an attribute: that of its row, or of a further one
abbrev pub attribute_name : Ctx → ℕ → Option (List ℕ)
attribute_name ctx n = named_in (prefix_of ctx) (row_of ctx n) (named_in (prefix_of ctx) (find_named n (further_rows ctx)) None)

-- what the name of a family's message type begins with, and what it ends with
unfoldable pub verb_front : Verb → List ℕ
verb_front New = codes "RTM_NEW"
verb_front Del = codes "RTM_DEL"
verb_front Get = codes "RTM_GET"
verb_front Set = codes "RTM_SET"

unfoldable pub family_end : Family → List ℕ
family_end family.Link = codes "LINK"
family_end family.Addr = codes "ADDR"
family_end family.Route = codes "ROUTE"
family_end family.Neigh = codes "NEIGH"
family_end family.Rule = codes "RULE"

-- the name of a type of netlink itself
unfoldable pub control_name : ℕ → Option (List ℕ)
control_name n =
    if n == 1 then Some (codes "NLMSG_NOOP") else (
    if n == 2 then Some (codes "NLMSG_ERROR") else (
    if n == 3 then Some (codes "NLMSG_DONE") else (
    if n == 4 then Some (codes "NLMSG_OVERRUN") else None)))

-- of a type, by what it says where it is a family's
abbrev pub name_for : ℕ → Option RouteType → Option (List ℕ)
name_for n None = control_name n
name_for n (Some t) = Some (verb_front t.verb ++ family_end t.family)

-- the name of a message type
abbrev pub message_name : ℕ → Option (List ℕ)
message_name n = name_for n (route_type n)

-- a name behind this, if there is one
abbrev pub behind_prefix : List ℕ → List ℕ → Option (List ℕ)
behind_prefix front [] = None
behind_prefix front (c ∷ cs) = Some (front ++ c ∷ cs)

-- the name of an attribute of a set, if it has one
abbrev pub set_name : Option AttributeSet → ℕ → Option (List ℕ)
set_name None n = None
set_name (Some set) n = behind_prefix (set_prefix set) (known (Some set) n).name

abbrev pub or_else : Option (List ℕ) → Option (List ℕ) → Option (List ℕ)
or_else None other = other
or_else (Some name) other = Some name

-- the name of a message type of any kind
abbrev pub any_message_name : ℕ → Option (List ℕ)
any_message_name n = or_else (message_name n) (set_name (Some message_set) n)
