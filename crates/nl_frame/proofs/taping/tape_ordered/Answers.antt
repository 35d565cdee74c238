use Rattle.nl_frame.proofs.Common.{◌≡◌, ℕ, List, Some, length, refl, sym, ap, subst, ◌∙◌, arith, Event, shape_of, put_length, room_on, whole, trail_of, IsTaped}
use Rattle.nl_attr.specs.Taped.{HasRoom, found}
use Rattle.nl_frame.proofs.Fronts.{here_whole, sum_small, sum_whole}
use Rattle.nl_frame.proofs.Steps.{empty, not_empty}
use Rattle.nl_frame.proofs.Tapes.{begins, tells_none, tells_broken, tells_fault, header_breaks, inner_breaks, goes_on}
use Rattle.nl_frame.proofs.taping.tape_ordered.Goals as goal

pub messages-init : goal.messages-init
messages-init g c = (refl, omega arith, begins (shape_of c.args.order c.args.depth) c.args.bytes.now c.args.out.now)

pub tape_message-message-requires-clause-room : goal.tape_message-message-requires-clause-room
tape_message-message-requires-clause-room g c =
    let a = c.args in
    let now = c.messages.invariant.2 in
    let size : length c.messages.out ≡ length a.out.now = ap (length {A = Event}) now.events ∙ put_length 0 _ a.out.now in
    subst (λ (n : ℕ). HasRoom a.room c.messages.count (length c.messages.left.now) n) (sym size)
    (room_on a.room 0 (length a.bytes.now) c.messages.count (length c.messages.left.now) (length a.out.now) (omega (arith, c.messages.invariant.1, now.at.size)) c.requires.room)

pub returns-in-Err-clause-taped : goal.returns-in-Err-clause-taped
returns-in-Err-clause-taped g c =
    let a = c.args in
    let S = shape_of a.order a.depth in
    subst (λ (es : List Event). IsTaped S (trail_of S (whole a.bytes.now)) 0 a.out.now es (record { broken = Some c.header_at_fault.result; count = c.messages.count; visits = c.messages.visits })) (sym c.in-Err.ensures.1)
    (tells_broken c.messages.invariant.2 c.in-Err.reason c.header_at_fault.result (not_empty c.messages.left.now c.messages-test.ensures) c.in-Err.ensures.0 c.header_at_fault.ensures)

pub returns-in-Err-clause-head : goal.returns-in-Err-clause-head
returns-in-Err-clause-head g c = header_breaks c.messages.invariant.2 c.in-Err.reason c.header_at_fault.result (not_empty c.messages.left.now c.messages-test.ensures) c.in-Err.ensures.0 c.header_at_fault.ensures

pub returns-in-Err-clause-bound : goal.returns-in-Err-clause-bound
returns-in-Err-clause-bound g c = here_whole c.messages.invariant.2.at

pub overflow_add-visits : goal.overflow_add-visits
overflow_add-visits g c = omega (arith, sum_small c.messages.invariant.2.at c.in-Ok.taped.frame c.in-Ok.ensures.0 c.in-Ok.taped.counts.visits c.in-Ok.ensures.3 (omega (arith, c.get-limit.ensures.limit, c.get-limit.ensures.value)) c.requires.size)

pub returns-in-Some-clause-taped : goal.returns-in-Some-clause-taped
returns-in-Some-clause-taped g c = tells_fault c.messages.invariant.2 c.in-Ok.taped.frame (not_empty c.messages.left.now c.messages-test.ensures) c.in-Ok.ensures.0 _ (found c.tape_message-message.new.broken c.in-Ok.taped.counts) c.in-Ok.ensures.1 c.in-Some.head c.in-Some.is

pub returns-in-Some-clause-head : goal.returns-in-Some-clause-head
returns-in-Some-clause-head g c = inner_breaks c.messages.invariant.2 c.in-Ok.taped.frame (not_empty c.messages.left.now c.messages-test.ensures) c.in-Ok.ensures.0 c.tape_message-message.new.broken c.in-Some.head c.in-Some.is c.in-Ok.ensures.2

pub returns-in-Some-clause-bound : goal.returns-in-Some-clause-bound
returns-in-Some-clause-bound g c = sum_whole c.messages.invariant.2.at c.in-Ok.taped.frame c.in-Ok.ensures.0 c.in-Ok.taped.counts.visits c.in-Ok.ensures.3

pub messages-preserved : goal.messages-preserved
messages-preserved g c =
    let is = c.in-Ok.ensures in
    (c.in_default.is, omega (arith, c.messages.invariant.1, is.5, is.0.inside), goes_on c.messages.invariant.2 c.in-Ok.taped.frame (not_empty c.messages.left.now c.messages-test.ensures) is.0 _ (found c.tape_message-message.new.broken c.in-Ok.taped.counts) is.1 c.in_default.is is.3 is.4)

pub returns-clause-taped : goal.returns-clause-taped
returns-clause-taped g c = tells_none c.messages.invariant.2 (empty c.messages.left.now c.messages-test.ensures)

pub returns-clause-bound : goal.returns-clause-bound
returns-clause-bound g c = here_whole c.messages.invariant.2.at
