use Rattle.std.proofs.Common.{◌≡◌, ap, subst}
use Rattle.nl_attr.specs.declared.order.Order.{Order}
use Rattle.nl_frame.specs.Draft.{Holds, nothing_put}
use Rattle.nl_request.specs.declared.operation.Operation.TheVariants.{Replace}
use Rattle.nl_frame.specs.Calls.{and_message}
use Rattle.nl_frame.specs.Parts.{Parts, over}
use Rattle.nl_request.specs.Route.{route_message}
use Rattle.rtnl_uses.proofs.requests.replace_route.Goals as goal

pub returns : goal.returns
returns c =
    let limits = c.args.limits.now in
    let old = c.new-builder.result in
    let built = over c.put.new.builder c.put.new.out in
    let m = λ (o : Order). route_message c.args.route.now Replace c.args.seq o in
    let same : old.bounds.shape.order ≡ limits.shape.order = ap (λ (p : Parts). p.bounds.shape.order) c.new-builder.ensures.value in
    let holds : Holds limits built (and_message nothing_put (m old.bounds.shape.order)) = c.in_ok-put.ensures.puts nothing_put limits (c.new-builder.ensures.puts c.args.out.now) in
    c.finish.ensures.puts (and_message nothing_put (m limits.shape.order)) limits (subst (λ (o : Order). Holds limits built (and_message nothing_put (m o))) same holds)
