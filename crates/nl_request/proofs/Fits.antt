-- The parts of each request may stand where they are put.
use Rattle.nl_request.proofs.Common.{◌≡◌, ℕ, ◌<◌, nat_lt, if◌then◌else◌, Bool, true, false, List, [], ◌∷◌, ◌++◌, length, map, Option, Some, None, Ok, refl, sym, ap, subst, ◌∙◌, inl, inr, Bor, lit<, NUMBERS, RTA_METRICS, Order, bytes, holds_of, IsMismatchedVal, IsMismatchedHops, IsRangedHops, Built, held, no_flags, top, put, open_attr, close, called, run, calls_of_items, before, not_refused, Part, bytes_part, text_part, number_part, items_of, calls_of_part, IFLA_INFO_DATA, info_part, link_parts, metric_part, metrics_part, hops_of, hops_part, route_parts}
use Rattle.std.specs.List.{AllByRecursion}
use Rattle.nl_attr.specs.declared.tree.AttrFlags.{AttrFlags}
use Rattle.nl_attr.specs.declared.tree.Ctx.{Ctx}
use Rattle.nl_attr.specs.declared.tree.Ctx.TheVariants as ctx
use Rattle.nl_attr.specs.declared.tree.Content.{Content}
use Rattle.nl_attr.specs.declared.tree.Content.TheVariants as content
use Rattle.nl_attr.specs.Numbers.{num}
use Rattle.nl_frame.specs.declared.building.OpenHead.{OpenHead}
use Rattle.nl_frame.specs.Building as building
use Rattle.nl_frame.proofs.Puts.{neither, is_held, has_bytes}
use Rattle.nl_route.specs.Link.{IFLA_INFO_KIND}
use Rattle.nl_request.specs.declared.prefix.Prefix.{Prefix}
use Rattle.nl_request.specs.declared.link.LinkRequest.{LinkRequest}
use Rattle.nl_request.specs.declared.link.LinkInfo.{LinkInfo}
use Rattle.nl_request.specs.declared.addr.AddrRequest.{AddrRequest}
use Rattle.nl_request.specs.declared.addr.Lifetimes.{Lifetimes}
use Rattle.nl_request.specs.declared.route.RouteRequest.{RouteRequest}
use Rattle.nl_request.specs.declared.route.Metric.{Metric}
use Rattle.nl_request.specs.declared.route.NextHop.{NextHop}
use Rattle.nl_request.specs.declared.neigh.NeighRequest.{NeighRequest}
use Rattle.nl_request.specs.declared.rule.RuleRequest.{RuleRequest}
use Rattle.nl_request.specs.Prefixes.{prefix_part}
use Rattle.nl_request.specs.Tables.{table_part}
use Rattle.nl_request.specs.Gateways.{gateway_bytes, gateway_part}
use Rattle.nl_request.specs.Addr.{own_part, lifetimes_part, addr_parts}
use Rattle.nl_request.specs.Neigh.{neigh_parts}
use Rattle.nl_request.specs.Rule.{rule_parts}
use Rattle.nl_request.proofs.Puts.{IsPart, AreParts, matched, ranged}
use Rattle.nl_request.proofs.Runs.{run_both}

-- ---- attributes that hold bytes

-- an attribute of this number holds bytes
record IsLeaf (c : Ctx) (n : ℕ) : Type 0 where
  pub number : n < NUMBERS
  pub holds : holds_of c n no_flags ≡ content.Bytes

module _ (c : Ctx) (n : ℕ) (l : IsLeaf c n) where
  leaf : (bs : List ℕ) → IsPart c (Some (n, bytes bs))
  leaf bs = (l.number, subst (λ (k : Content). IsMismatchedVal (bytes bs) k → ⊥) (sym l.holds) (λ z. z), tt)

  some_bytes : (v : Option (Bor (List ℕ))) → IsPart c (bytes_part n v)
  some_bytes None = tt
  some_bytes (Some b) = leaf b.now

  some_text : (v : Option (Bor (List ℕ))) → IsPart c (text_part n v)
  some_text None = tt
  some_text (Some t) = leaf (t.now ++ 0 ∷ [])

  some_number : (w : ℕ) (o : Order) (v : Option ℕ) → IsPart c (number_part n w o v)
  some_number w o None = tt
  some_number w o (Some x) = leaf (num x w o)

  some_prefix : (v : Option Prefix) → IsPart c (prefix_part n v)
  some_prefix None = tt
  some_prefix (Some p) = leaf p.address.now

  some_unless : (bs : List ℕ) (b : Bool) → IsPart c (if b then None else Some (n, bytes bs))
  some_unless bs true = tt
  some_unless bs false = leaf bs

  some_table : (o : Order) (t : ℕ) → IsPart c (table_part n o t)
  some_table o t = some_unless (num t 4 o) (nat_lt t 256)

-- ---- links

some_info : (i : Option LinkInfo) → IsPart ctx.Link (info_part i)
some_info None = tt
some_info (Some i) =
    let ps : List Part = Some (IFLA_INFO_KIND, bytes i.kind.now) ∷ bytes_part IFLA_INFO_DATA i.«data» ∷ [] in
    let fit : AreParts ctx.LinkInfo ps = (leaf ctx.LinkInfo 1 (record { number = lit< tt; holds = refl }) i.kind.now, (some_bytes ctx.LinkInfo 2 (record { number = lit< tt; holds = refl }) i.«data», tt)) in
    (lit< tt, matched ctx.LinkInfo ps fit, ranged ctx.LinkInfo ps fit)

pub link_fits : (r : LinkRequest) (o : Order) → AreParts ctx.Link (link_parts r o)
link_fits r o = (
  some_bytes ctx.Link 1 (record { number = lit< tt; holds = refl }) r.address,
  (
    some_number ctx.Link 4 (record { number = lit< tt; holds = refl }) 4 o r.mtu,
    (
      some_number ctx.Link 10 (record { number = lit< tt; holds = refl }) 4 o r.master,
      (
        some_number ctx.Link 5 (record { number = lit< tt; holds = refl }) 4 o r.link,
        (
          some_text ctx.Link 3 (record { number = lit< tt; holds = refl }) r.name,
          (some_info r.info, tt),
        ),
      ),
    ),
  ),
)

-- ---- addresses

address_leaf : (n : ℕ) → n < NUMBERS → IsLeaf ctx.Addr n
address_leaf n l = record { number = l; holds = refl }

some_own : (local : List ℕ) (peer : Option (Bor (List ℕ))) → IsPart ctx.Addr (own_part local peer)
some_own local None = leaf ctx.Addr 1 (address_leaf 1 (lit< tt)) local
some_own local (Some p) = tt

some_lifetimes : (o : Order) (l : Option Lifetimes) → IsPart ctx.Addr (lifetimes_part o l)
some_lifetimes o None = tt
some_lifetimes o (Some l) = leaf ctx.Addr 6 (address_leaf 6 (lit< tt)) (num l.preferred 4 o ++ num l.valid 4 o ++ num 0 4 o ++ num 0 4 o)

pub addr_fits : (r : AddrRequest) (o : Order) → AreParts ctx.Addr (addr_parts r o)
addr_fits r o = (
  leaf ctx.Addr 2 (address_leaf 2 (lit< tt)) r.local.now,
  (
    some_bytes ctx.Addr 1 (address_leaf 1 (lit< tt)) r.peer,
    (
      some_bytes ctx.Addr 4 (address_leaf 4 (lit< tt)) r.broadcast,
      (
        some_text ctx.Addr 3 (address_leaf 3 (lit< tt)) r.label,
        (
          some_unless ctx.Addr 8 (address_leaf 8 (lit< tt)) (num r.flags 4 o) (nat_lt r.flags 256),
          (
            some_own r.local.now r.peer,
            (some_lifetimes o r.lifetimes, tt),
          ),
        ),
      ),
    ),
  ),
)

-- ---- neighbours

neighbour_leaf : (n : ℕ) → n < NUMBERS → IsLeaf ctx.Neigh n
neighbour_leaf n l = record { number = l; holds = refl }

pub neigh_fits : (r : NeighRequest) (o : Order) → AreParts ctx.Neigh (neigh_parts r o)
neigh_fits r o = (
  some_bytes ctx.Neigh 1 (neighbour_leaf 1 (lit< tt)) r.destination,
  (
    some_bytes ctx.Neigh 2 (neighbour_leaf 2 (lit< tt)) r.link_address,
    (some_number ctx.Neigh 5 (neighbour_leaf 5 (lit< tt)) 2 o r.vlan, tt),
  ),
)

-- ---- rules

rule_leaf : (n : ℕ) → n < NUMBERS → IsLeaf ctx.Rule n
rule_leaf n l = record { number = l; holds = refl }

pub rule_fits : (r : RuleRequest) (o : Order) → AreParts ctx.Rule (rule_parts r o)
rule_fits r o = (
  some_prefix ctx.Rule 2 (rule_leaf 2 (lit< tt)) r.source,
  (
    some_prefix ctx.Rule 1 (rule_leaf 1 (lit< tt)) r.destination,
    (
      some_number ctx.Rule 10 (rule_leaf 10 (lit< tt)) 4 o r.mark,
      (
        some_number ctx.Rule 16 (rule_leaf 16 (lit< tt)) 4 o r.mask,
        (
          some_text ctx.Rule 3 (rule_leaf 3 (lit< tt)) r.iif,
          (
            some_text ctx.Rule 17 (rule_leaf 17 (lit< tt)) r.oif,
            (
              some_table ctx.Rule 15 (rule_leaf 15 (lit< tt)) o r.table,
              (
                some_number ctx.Rule 4 (rule_leaf 4 (lit< tt)) 4 o r.target,
                (some_number ctx.Rule 14 (rule_leaf 14 (lit< tt)) 4 o r.suppress_prefix_length, (some_number ctx.Rule 6 (rule_leaf 6 (lit< tt)) 4 o r.priority, tt)),
              ),
            ),
          ),
        ),
      ),
    ),
  ),
)

-- ---- routes

-- a metric whose number has 14 bits
abbrev pub IsSmall : Metric → Type 0
IsSmall m = m.number < NUMBERS

metric_leaf : (n : ℕ) → n < NUMBERS → IsLeaf ctx.Metrics n
metric_leaf n l = record { number = l; holds = refl }

each_metric : (o : Order) (ms : List Metric) → AllByRecursion IsSmall ms → AreParts ctx.Metrics (map (metric_part o) ms)
each_metric o [] a = tt
each_metric o (m ∷ ms) a = (leaf ctx.Metrics m.number (metric_leaf m.number a.0) (num m.value 4 o), each_metric o ms a.1)

some_metrics : (o : Order) (ms : List Metric) → AllByRecursion IsSmall ms → IsPart ctx.Route (metrics_part o ms)
some_metrics o [] a = tt
some_metrics o (m ∷ ms) a =
    let ps : List Part = map (metric_part o) (m ∷ ms) in
    let fit : AreParts ctx.Metrics ps = each_metric o (m ∷ ms) a in
    (lit< tt, matched ctx.Metrics ps fit, ranged ctx.Metrics ps fit)

some_gateway : (bs : List ℕ) → IsPart ctx.Route (gateway_part bs)
some_gateway [] = tt
some_gateway (x ∷ xs) = leaf ctx.Route 5 (record { number = lit< tt; holds = refl }) (x ∷ xs)

hops_matched : (hs : List NextHop) → IsMismatchedHops (hops_of hs) → ⊥
hops_matched [] m = m
hops_matched (h ∷ hs) (inl x) = matched ctx.Route (gateway_part (gateway_bytes h.gateway) ∷ []) (some_gateway (gateway_bytes h.gateway), tt) x
hops_matched (h ∷ hs) (inr x) = hops_matched hs x

some_hops : (hs : List NextHop) → IsRangedHops (hops_of hs) → IsPart ctx.Route (hops_part hs)
some_hops [] r = tt
some_hops (h ∷ hs) r = (lit< tt, hops_matched (h ∷ hs), r)

pub route_fits : (r : RouteRequest) (o : Order) → AllByRecursion IsSmall r.metrics.now → IsRangedHops (hops_of r.hops.now) → AreParts ctx.Route (route_parts r o)
route_fits r o a b = (
  some_prefix ctx.Route 1 (record { number = lit< tt; holds = refl }) r.destination,
  (
    some_prefix ctx.Route 2 (record { number = lit< tt; holds = refl }) r.source,
    (
      some_bytes ctx.Route 5 (record { number = lit< tt; holds = refl }) r.gateway,
      (
        some_bytes ctx.Route 7 (record { number = lit< tt; holds = refl }) r.preferred_source,
        (
          some_number ctx.Route 6 (record { number = lit< tt; holds = refl }) 4 o r.priority,
          (
            some_table ctx.Route 15 (record { number = lit< tt; holds = refl }) o r.table,
            (
              some_number ctx.Route 4 (record { number = lit< tt; holds = refl }) 4 o r.oif,
              (
                some_metrics o r.metrics.now a,
                (some_hops r.hops.now b, tt),
              ),
            ),
          ),
        ),
      ),
    ),
  ),
)

-- ---- metrics that aren't refused

held_number : (h : Option OpenHead) (n : ℕ) (f : AttrFlags) → held h n f ≡ Ok content.Bytes → n < NUMBERS
held_number None n f e = absurd (cc)
held_number (Some h) n f e = (is_held h.content n f content.Bytes e).number

put_number : (b : Built) (n : ℕ) (f : AttrFlags) (bs : List ℕ) → (building.put b n f bs).refusal ≡ None → n < NUMBERS
put_number b n f bs e =
    let none = not_refused b _ _ e in
    held_number (top b.heads) n f (has_bytes b (held (top b.heads) n f) (length bs) (neither b.refusal _ none).1).held

each_small : (b : Built) (o : Order) (ms : List Metric) → (run b (calls_of_items (items_of (map (metric_part o) ms)))).refusal ≡ None → AllByRecursion IsSmall ms
each_small b o [] e = tt
each_small b o (m ∷ ms) e =
    let next = called b (put m.number no_flags (num m.value 4 o)) in
    (put_number b m.number no_flags (num m.value 4 o) (before next (calls_of_items (items_of (map (metric_part o) ms))) e), each_small next o ms e)

-- they have numbers of 14 bits
pub metrics_small : (b next : Built) (o : Order) (ms : List Metric) → next ≡ run b (calls_of_part (metrics_part o ms)) → next.refusal ≡ None → AllByRecursion IsSmall ms
metrics_small b next o [] e none = tt
metrics_small b next o (m ∷ ms) e none =
    let opened = called b (open_attr RTA_METRICS no_flags) in
    let cs = calls_of_items (items_of (map (metric_part o) (m ∷ ms))) in
    let ends : (run (run opened cs) (close ∷ [])).refusal ≡ None = ap (λ (x : Built). x.refusal) (sym (e ∙ run_both opened cs (close ∷ []))) ∙ none in
    each_small opened o (m ∷ ms) (before (run opened cs) (close ∷ []) ends)
