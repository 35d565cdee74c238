-- The requests for which C asks, and the answers of the calls that put them.
use Rattle.std.specs.Prelude.{◌≡◌, ◌≢◌, ◌==◌, ℕ, if◌then◌else◌, List, [], ◌∷◌, ◌++◌, length, take, Bool, Option, Some, None, MatchOption}
use Rattle.std.specs.Bool.{then_some}
use Rattle.std.specs.Borrow.{Bor}
use Rattle.nl_attr.specs.declared.order.Order.{Order}
use Rattle.nl_attr.specs.Shape.{shape_of}
use Rattle.nl_frame.specs.declared.building.refusal.BuildError.{BuildError}
use Rattle.nl_frame.specs.declared.building.refusal.BuildError.TheVariants.{Mismatch}
use Rattle.nl_frame.specs.BuildCodes.{build_code}
use Rattle.nl_frame.specs.Building.{Built, nothing_built, finish}
use Rattle.nl_frame.specs.Calls.{with_message}
use Rattle.nl_frame.specs.Limits.{Bounds, standard_bounds}
use Rattle.nl_frame.specs.Message.{MessageVal}
use Rattle.nl_frame.specs.OneList.{IsTheList}
use Rattle.nl_frame.specs.Written.{written}
use Rattle.nl_request.specs.declared.addr.AddrRequest.{AddrRequest}
use Rattle.nl_request.specs.declared.link.LinkInfo.{LinkInfo}
use Rattle.nl_request.specs.declared.link.LinkRequest.{LinkRequest}
use Rattle.nl_request.specs.declared.neigh.NeighRequest.{NeighRequest}
use Rattle.nl_request.specs.declared.operation.Operation.{Operation}
use Rattle.nl_request.specs.declared.operation.Operation.TheVariants.{Add, Replace, Change, Append, Prepend, Set, Delete}
use Rattle.nl_request.specs.declared.prefix.Prefix.{Prefix}
use Rattle.nl_request.specs.declared.route.RouteRequest.{RouteRequest}
use Rattle.nl_request.specs.declared.rule.RuleRequest.{RuleRequest}
use Rattle.rtnl_c.specs.declared.put.Put.{Put}
use Rattle.rtnl_c.specs.declared.change_requests.addr.AddrFields.{AddrFields}
use Rattle.rtnl_c.specs.declared.change_requests.link.LinkFields.{LinkFields}
use Rattle.rtnl_c.specs.declared.change_requests.neigh.NeighFields.{NeighFields}
use Rattle.rtnl_c.specs.declared.change_requests.route.RouteFields.{RouteFields}
use Rattle.rtnl_c.specs.declared.change_requests.rule.RuleFields.{RuleFields}
use Rattle.rtnl_c.specs.Options.{order_in}
use Rattle.rtnl_c.specs.Put.{not_put, put_of}

-- ---- what is asked for

-- the operation of a number, where one has it
abbrev pub operation_in : ℕ → Option Operation
operation_in n =
    if n == 0 then Some Add else (
    if n == 1 then Some Replace else (
    if n == 2 then Some Change else (
    if n == 3 then Some Append else (
    if n == 4 then Some Prepend else (
    if n == 5 then Some Set else (
    if n == 6 then Some Delete else None))))))

-- bytes, where there is one
abbrev pub bytes_in : Bor (List ℕ) → Option (Bor (List ℕ))
bytes_in b = if length b.now == 0 then None else Some b

-- the prefix of an address, where there is one
abbrev pub prefix_in : Bor (List ℕ) → ℕ → Option Prefix
prefix_in b n = if length b.now == 0 then None else Some (record { address = b; length = n })

-- the kind of a virtual interface, where there is one
abbrev pub info_in : Bor (List ℕ) → Bor (List ℕ) → Option LinkInfo
info_in kind bytes = if length kind.now == 0 then None else Some (record { kind = kind; «data» = bytes_in bytes })

-- ---- the requests

abbrev pub link_in : LinkFields → LinkRequest
link_in f = record {
  index = f.index;
  name = bytes_in f.name;
  up = then_some f.has_up f.up;
  mtu = then_some f.has_mtu f.mtu;
  master = then_some f.has_master f.master;
  link = then_some f.has_link f.link;
  address = bytes_in f.address;
  info = info_in f.kind f.«data»;
}

abbrev pub addr_in : AddrFields → AddrRequest
addr_in f = record {
  family = f.family;
  prefix_length = f.prefix_length;
  scope = f.scope;
  index = f.index;
  flags = f.flags;
  local = f.local;
  peer = bytes_in f.peer;
  broadcast = bytes_in f.broadcast;
  label = bytes_in f.label;
  lifetimes = then_some f.has_lifetimes (record { preferred = f.preferred; valid = f.valid });
}

abbrev pub route_in : RouteFields → RouteRequest
route_in f = record {
  family = f.family;
  destination = prefix_in f.destination f.destination_length;
  source = prefix_in f.source f.source_length;
  tos = f.tos;
  table = f.table;
  protocol = f.protocol;
  scope = f.scope;
  sort = f.sort;
  flags = f.flags;
  gateway = bytes_in f.gateway;
  preferred_source = bytes_in f.preferred_source;
  priority = then_some f.has_priority f.priority;
  oif = then_some f.has_oif f.oif;
  metrics = f.metrics;
  hops = f.hops;
}

abbrev pub neigh_in : NeighFields → NeighRequest
neigh_in f = record {
  family = f.family;
  index = f.index;
  state = f.state;
  flags = f.flags;
  destination = bytes_in f.destination;
  link_address = bytes_in f.link_address;
  vlan = then_some f.has_vlan f.vlan;
}

abbrev pub rule_in : RuleFields → RuleRequest
rule_in f = record {
  family = f.family;
  source = prefix_in f.source f.source_length;
  destination = prefix_in f.destination f.destination_length;
  tos = f.tos;
  table = f.table;
  action = f.action;
  invert = f.invert;
  mark = then_some f.has_mark f.mark;
  mask = then_some f.has_mask f.mask;
  iif = bytes_in f.iif;
  oif = bytes_in f.oif;
  target = then_some f.has_target f.target;
  suppress_prefix_length = then_some f.has_suppress_prefix_length f.suppress_prefix_length;
  priority = then_some f.has_priority f.priority;
}

-- ---- one message in a buffer

-- the standard limits, with numbers in this order
abbrev pub standard_in : Order → Bounds
standard_in o = record standard_bounds { shape = shape_of o standard_bounds.shape.depth }

-- a builder of these limits over a buffer, into which this message alone is put
abbrev pub alone : MessageVal → Order → List ℕ → Built
alone m o out = with_message (nothing_built (standard_in o) out) m

-- how many bytes are put, or why there are none
abbrev pub finished : ℕ → Option BuildError → Put
finished len None = put_of len 0
finished len (Some e) = not_put (build_code e)

-- the buffer is what that builder makes of it, and the answer says how many bytes the datagram has, or why there is none
abbrev pub PutsAlone : MessageVal → Order → List ℕ → List ℕ → Put → Type 0
PutsAlone m o old new a = let b = alone m o old in (new ≡ b.front ++ b.free) × (a ≡ finished (length b.front) (finish b))

-- where it is put, the front of the buffer is the one writing of this one message, and is read again as this message alone
abbrev pub IsAlone : MessageVal → Order → List ℕ → Put → Type 0
IsAlone m o new a = a.code ≡ 0 → let bytes = take a.len new in (bytes ≡ written o (m ∷ [])) × IsTheList (standard_in o) bytes (m ∷ [])

-- ---- what a call puts

-- the message of the operation that is asked for alone, where the number is one's; else nothing is changed
abbrev pub Puts : (Operation → ℕ → Order → MessageVal) → ℕ → ℕ → Bool → List ℕ → List ℕ → Put → Type 0
Puts m asked seq big old new a =
    MatchOption (operation_in asked) ((new ≡ old) × (a ≡ not_put (build_code Mismatch))) (λ op. PutsAlone (m op seq (order_in big)) (order_in big) old new a)

-- where bytes are put, they are the message of this operation, alone
abbrev pub IsPutAlone : (Operation → ℕ → Order → MessageVal) → ℕ → ℕ → Bool → List ℕ → Put → Type 0
IsPutAlone m asked seq big new a = MatchOption (operation_in asked) (a.code ≢ 0) (λ op. IsAlone (m op seq (order_in big)) (order_in big) new a)
