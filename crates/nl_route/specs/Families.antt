-- The families: a row for each.
use Rattle.std.specs.Prelude.{ℕ, ◌+◌, ◌==◌, List, Bool, true, is_some, codes}
use Rattle.nl_attr.specs.declared.order.Order.{Order}
use Rattle.nl_attr.specs.declared.tree.Ctx.{Ctx}
use Rattle.nl_attr.specs.declared.tree.Ctx.TheVariants as ctx
use Rattle.nl_route.specs.declared.family.Family.{Family}
use Rattle.nl_route.specs.declared.family.Family.TheVariants.{Link, Addr, Route, Neigh, Rule}
use Rattle.nl_route.specs.declared.family.Verb.{Verb}
use Rattle.nl_route.specs.declared.family.Verb.TheVariants.{New, Del, Get, Set}
use Rattle.nl_route.specs.declared.ifinfomsg.LinkHead.{LinkHead}
use Rattle.nl_route.specs.declared.ifaddrmsg.AddrHead.{AddrHead}
use Rattle.nl_route.specs.declared.rtmsg.RouteHead.{RouteHead}
use Rattle.nl_route.specs.declared.ndmsg.NeighHead.{NeighHead}
use Rattle.nl_route.specs.declared.fib_rule_hdr.RuleHead.{RuleHead}
use Rattle.nl_route.specs.Fields.{Field}
use Rattle.nl_route.specs.Link.{link_fields, link_of}
use Rattle.nl_route.specs.Addr.{addr_fields, addr_of}
use Rattle.nl_route.specs.Route.{route_fields, route_of}
use Rattle.nl_route.specs.Neigh.{neigh_fields, neigh_of}
use Rattle.nl_route.specs.Rule.{rule_fields, rule_of}
use Rattle.nl_route.specs.Types.{route_type}

-- a family's head and how many bytes it has, its fields, and what is read of bytes; the context of its attributes; its first message type, NEW; and its name
pub record Row : Type 1 where
  pub Head : Type 0
  pub size : ℕ
  pub fields : Head → List Field
  pub of : Order → List ℕ → Head
  pub context : Ctx
  pub new : ℕ
  pub name : List ℕ

-- the row of each family
abbrev pub row : Family → Row
row Link = record { Head = LinkHead; size = 16; fields = link_fields; of = link_of; context = ctx.Link; new = 16; name = codes "link" }
row Addr = record { Head = AddrHead; size = 8; fields = addr_fields; of = addr_of; context = ctx.Addr; new = 20; name = codes "addr" }
row Route = record { Head = RouteHead; size = 12; fields = route_fields; of = route_of; context = ctx.Route; new = 24; name = codes "route" }
row Neigh = record { Head = NeighHead; size = 12; fields = neigh_fields; of = neigh_of; context = ctx.Neigh; new = 28; name = codes "neigh" }
row Rule = record { Head = RuleHead; size = 12; fields = rule_fields; of = rule_of; context = ctx.Rule; new = 32; name = codes "rule" }

-- how many bytes the head of a family has
abbrev pub head_size : Family → ℕ
head_size g = (row g).size

-- the context of the attributes of a family
abbrev pub context_of : Family → Ctx
context_of g = (row g).context

-- the name of a family
abbrev pub name_of : Family → List ℕ
name_of g = (row g).name

-- two families are one where their types are
abbrev pub same_family : Family → Family → Bool
same_family g h = (row g).new == (row h).new

-- the four types of a family stand one after another
abbrev pub place_of : Verb → ℕ
place_of New = 0
place_of Del = 1
place_of Get = 2
place_of Set = 3

-- the message type of a family and a verb
abbrev pub type_of : Family → Verb → ℕ
type_of g v = (row g).new + place_of v

-- a family has all four but SET, which some don't
abbrev pub has_verb : Family → Verb → Bool
has_verb g Set = is_some (route_type (type_of g Set))
has_verb g v = true

-- a head of any family
pub record AnyHead : Type 0 where
  pub family : Family
  pub head : (row family).Head

-- this head, of this family
abbrev pub any : (g : Family) → (row g).Head → AnyHead
any g h = record { family = g; head = h }

-- the family of a head
abbrev pub family_of : AnyHead → Family
family_of h = h.family

-- the fields of a head
abbrev pub fields_of : AnyHead → List Field
fields_of h = (row h.family).fields h.head

-- the head that is read of bytes
abbrev pub head_of : Order → Family → List ℕ → AnyHead
head_of o g bytes = any g ((row g).of o bytes)
