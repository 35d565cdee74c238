use Rattle.nl_frame.proofs.Common.{◌≡◌, ◌+◌, ◌++◌, ◌∷◌, [], map, arith, subst, ap, ◌∙◌, map_push, map_value, IsOutcome, message_of, body_at, message_view}
use Rattle.std.specs.Global.{Vec}
use Rattle.nl_frame.specs.declared.body.Message.{Message}
use Rattle.nl_frame.proofs.Fronts.{sum_small, sum_whole}
use Rattle.nl_frame.proofs.Steps.{body_fails, nothing_left, head_breaks, next}
use Rattle.nl_frame.proofs.reading.read_messages.Goals as goal

pub returns-in-Err-front-clause-outcome : goal.returns-in-Err-front-clause-outcome
returns-in-Err-front-clause-outcome c = head_breaks c.loop-left.invariant c.in-Err-front.reason c.loop-left-test.ensures (rw c.order-order.ensures at c.in-Err-front.ensures)

pub overflow_add-visits : goal.overflow_add-visits
overflow_add-visits c =
    omega (arith, sum_small c.loop-left.invariant.at c.in-Ok-front.frame (rw c.order-order.ensures at c.in-Ok-front.ensures) c.read_message-result.result.visits c.read_message-result.ensures.bound c.depth-limit.ensures.limits.0 c.requires)

pub returns-then-not-keep-clause-bound : goal.returns-then-not-keep-clause-bound
returns-then-not-keep-clause-bound c = sum_whole c.loop-left.invariant.at c.in-Ok-front.frame (rw c.order-order.ensures at c.in-Ok-front.ensures) c.read_message-result.result.visits c.read_message-result.ensures.bound

pub returns-in-Err-result-clause-bound : goal.returns-in-Err-result-clause-bound
returns-in-Err-result-clause-bound c = sum_whole c.loop-left.invariant.at c.in-Ok-front.frame (rw c.order-order.ensures at c.in-Ok-front.ensures) c.read_message-result.result.visits c.read_message-result.ensures.bound

pub returns-in-Err-result-clause-outcome : goal.returns-in-Err-result-clause-outcome
returns-in-Err-result-clause-outcome c =
    let f = c.in-Ok-front.frame in
    let s = c.args.limits.now.shape in
    let gave = subst (λ x. IsOutcome message_view x c.read_message-result.result.visits (map_value (message_of f.header) (body_at s f.form (c.loop-left.place + 16) f.payload.now))) c.in-Err-result.is c.read_message-result.ensures.outcome in
    body_fails c.loop-left.invariant f (rw c.order-order.ensures at c.in-Ok-front.ensures) c.read_message-result.result.visits message_view (λ (v : Vec Message). map message_view v.items) c.in-Err-result.error c.loop-left-test.ensures gave

pub loop-left-preserved : goal.loop-left-preserved
loop-left-preserved c =
    let f = c.in-Ok-front.frame in
    let m = c.in-Ok-result.message in
    let gave = subst (λ x. IsOutcome message_view x c.read_message-result.result.visits (map_value (message_of f.header) (body_at c.args.limits.now.shape f.form (c.loop-left.place + 16) f.payload.now))) c.in-Ok-result.is c.read_message-result.ensures.outcome in
    let pushed : map message_view c.keep.new.list.items ≡ map message_view c.loop-left.list.items ++ message_view m ∷ [] =
    ap (map message_view) (c.keep.ensures c.if-not-keep.false) ∙ map_push message_view c.loop-left.list.items m in
    next c.loop-left.invariant f (rw c.order-order.ensures at c.in-Ok-front.ensures) c.read_message-result.result.visits (map message_view c.keep.new.list.items) (message_view m) c.read_message-result.ensures.bound c.loop-left-test.ensures gave pushed

pub returns-clause-outcome : goal.returns-clause-outcome
returns-clause-outcome c = nothing_left c.loop-left.invariant c.loop-left-test.ensures
