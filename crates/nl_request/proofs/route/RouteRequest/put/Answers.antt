use Rattle.nl_request.proofs.Common.{◌≡◌, [], ◌∷◌, None, sym, ap, ◌∙◌, refl, Order, any, first_parts, metrics_part, route_head, route_parts, route_message, request, with_message, over, Built, order_of, end, before, hops_part, calls_of_part}
use Rattle.nl_route.specs.declared.family.Family.TheVariants as family
use Rattle.nl_route.specs.declared.rtmsg.RouteHead.{RouteHead}
use Rattle.nl_request.proofs.Puts.{request_holds, on_ok}
use Rattle.nl_request.proofs.Fits.{route_fits, metrics_small}
use Rattle.nl_request.proofs.Runs.{parts_more, parts_run, request_made}
use Rattle.nl_request.proofs.route.RouteRequest.put.Goals as goal

pub returns-clause-built : goal.returns-clause-built
returns-clause-built c =
    let b = over c.args.builder.now c.args.out.now in
    let begun = over c.begin.new.self c.begin.new.out in
    let first = over c.put_first.new.builder c.put_first.new.out in
    let filled = over c.put_hops.new.builder c.put_hops.new.out in
    let r = c.args.self.now in
    let op = c.args.operation in
    let o = c.order-order.result in
    let lists = metrics_part o r.metrics.now ∷ hops_part r.hops.now ∷ [] in
    let put = parts_run first lists filled (over c.put_metrics.new.builder c.put_metrics.new.out, c.put_metrics.ensures.built, (filled, c.put_hops.ensures.built, refl)) in
    let all = parts_more begun first filled (first_parts r o) lists c.put_first.ensures.built put in
    request_made b begun filled (over c.end.new.self c.end.new.out) op _ _ c.args.seq (any family.Route c.head.result) (route_parts r o) c.begin.ensures.built all c.end.ensures.built c.type_of-kind.ensures c.flags.ensures
    ∙ ap (λ (h : RouteHead). with_message b (request op c.args.seq (any family.Route h) (route_parts r o))) c.head.ensures
    ∙ ap (λ (x : Order). with_message b (route_message r op c.args.seq x)) c.order-order.ensures

pub returns-clause-puts : goal.returns-clause-puts
returns-clause-puts c =
    let b = over c.args.builder.now c.args.out.now in
    let r = c.args.self.now in
    on_ok c.end.result c.end.new.self.refusal c.end.ensures.answer (λ none.
    let before_end : c.put_hops.new.builder.refusal ≡ None = before (over c.put_hops.new.builder c.put_hops.new.out) (end ∷ []) (ap (λ (x : Built). x.refusal) (sym c.end.ensures.built) ∙ none) in
    let before_hops : c.put_metrics.new.builder.refusal ≡ None = before (over c.put_metrics.new.builder c.put_metrics.new.out) (calls_of_part (hops_part r.hops.now)) (ap (λ (x : Built). x.refusal) (sym c.put_hops.ensures.built) ∙ before_end) in
    let small = metrics_small (over c.put_first.new.builder c.put_first.new.out) (over c.put_metrics.new.builder c.put_metrics.new.out) c.order-order.result r.metrics.now c.put_metrics.ensures.built before_hops in
    request_holds c.args.operation c.args.seq (any family.Route (route_head r)) (route_parts r (order_of b)) (route_fits r (order_of b) small c.put_hops.ensures.ranged) b (over c.begin.new.self c.begin.new.out) (over c.end.new.self c.end.new.out) c.type_of-kind.ensures c.flags.ensures (ap (any family.Route) c.head.ensures) c.begin.result c.begin.ensures.built c.begin.ensures.answer c.begin.ensures.puts (returns-clause-built c) none)
