-- The lists of a route: its metrics and its next hops.
use Rattle.nl_request.proofs.Common.{◌≡◌, ℕ, ◌+◌, ◌<◌, ◌==◌, false, List, [], ◌∷◌, ◌++◌, length, get_or, drop, map, sym, subst, ap, ◌∙◌, FitsSigned, IsRanged, IsRangedHops, RTA_METRICS, RTA_MULTIPATH, Order, Built, no_flags, open_attr, close, run, calls_of_items, calls_of_hops, items_of, calls_of_part, metric_part, metrics_part, hops_of, hops_part}
use Rattle.std.specs.Int.{w32}
use Rattle.std.proofs.lemmas.List.{drop_more}
use Rattle.nl_frame.specs.Building as building
use Rattle.nl_request.specs.declared.route.Metric.{Metric}
use Rattle.nl_request.specs.declared.route.NextHop.{NextHop}
use Rattle.nl_request.specs.Gateways.{gateway_bytes, gateway_part}
use Rattle.nl_request.proofs.Runs.{run_both}

module _ (b closed : Built) where
  -- the list of metrics is there where one is
  pub some_metrics : (o : Order) (ms : List Metric) → false ≡ (length ms == 0) → closed ≡ run b (open_attr RTA_METRICS no_flags ∷ (calls_of_items (items_of (map (metric_part o) ms)) ++ (close ∷ [])))
      → closed ≡ run b (calls_of_part (metrics_part o ms))
  some_metrics o [] e h = absurd (cc)
  some_metrics o (m ∷ ms) e h = h

  -- and so are next hops
  pub some_hops : (hs : List NextHop) → false ≡ (length hs == 0) → closed ≡ run b (open_attr RTA_MULTIPATH no_flags ∷ (calls_of_hops (hops_of hs) ++ (close ∷ []))) → closed ≡ run b (calls_of_part (hops_part hs))
  some_hops [] e h = absurd (cc)
  some_hops (x ∷ hs) e h = h

-- the first next hop, then the others
pub first_hop : (b : Built) (h : NextHop) (hs : List NextHop) → run b (calls_of_hops (hops_of (h ∷ hs))) ≡ run (run b (calls_of_hops (hops_of (h ∷ [])))) (calls_of_hops (hops_of hs))
first_hop b h hs =
    let opened = building.open_hop b h.flags h.hops h.index in
    let is = calls_of_items (items_of (gateway_part (gateway_bytes h.gateway) ∷ [])) in
    run_both opened is (close ∷ calls_of_hops (hops_of hs)) ∙ ap (λ (x : Built). run x (calls_of_hops (hops_of hs))) (sym (run_both opened is (close ∷ [])))

-- the next hops that are left, once one more is put
pub hop_step : (b next whole : Built) (hs : List NextHop) (i : ℕ) (d : NextHop) → i < length hs → run b (calls_of_hops (hops_of (drop i hs))) ≡ whole → next ≡ run b (calls_of_hops (hops_of (get_or hs i d ∷ [])))
    → run next (calls_of_hops (hops_of (drop (i + 1) hs))) ≡ whole
hop_step b next whole hs i d l e f =
    let more = drop (i + 1) hs in
    ap (λ (x : Built). run x (calls_of_hops (hops_of more))) f ∙ sym (first_hop b (get_or hs i d) more) ∙ ap (λ (ys : List NextHop). run b (calls_of_hops (hops_of ys))) (sym (drop_more hs i d l)) ∙ e

-- the indices of the next hops that are left are in range, and so is that of one before them
pub hop_ranged : (hs : List NextHop) (i : ℕ) (d : NextHop) → i < length hs → FitsSigned w32 (get_or hs i d).index → IsRangedHops (hops_of (drop (i + 1) hs)) → IsRangedHops (hops_of (drop i hs))
hop_ranged hs i d l f r =
    let h = get_or hs i d in
    subst (λ (xs : List NextHop). IsRangedHops (hops_of xs)) (sym (drop_more hs i d l)) (f, gateway_ranged (gateway_bytes h.gateway), r) where
      gateway_ranged : (bs : List ℕ) → IsRanged (items_of (gateway_part bs ∷ []))
      gateway_ranged [] = tt
      gateway_ranged (x ∷ xs) = (tt, tt)
