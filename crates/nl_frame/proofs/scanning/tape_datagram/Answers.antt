use Rattle.nl_frame.proofs.Common.{arith, whole}
use Rattle.nl_frame.proofs.Scan.{few_events}
use Rattle.nl_frame.proofs.Outcomes.{says_so, count_of, head_is, scans}
use Rattle.nl_frame.proofs.scanning.tape_datagram.Goals as goal

pub returns-clause-scans : goal.returns-clause-scans
returns-clause-scans c =
    let a = c.args in
    let taped = rw (c.order.ensures, c.depth.ensures.value) at c.tape_messages-taped.ensures in
    let outcome = says_so a.limits.now.shape a.bytes.now _ _ c.tape_messages-taped.result c.answer.result taped.taped c.answer.ensures in
    scans a.limits.now a.bytes.now _ (λ i. omega (arith, c.type_inv.bytes i)) (λ large. omega (arith, large, c.if-bytes-datagram.false, c.datagram.ensures.value)) outcome (head_is c.answer.result c.tape_messages-taped.result.broken _ c.answer.ensures taped.head) taped.bound

pub returns-clause-events : goal.returns-clause-events
returns-clause-events c = λ _. (rw (c.order.ensures, c.depth.ensures.value) at c.tape_messages-taped.ensures.taped).events

pub returns-clause-count : goal.returns-clause-count
returns-clause-count c = let a = c.args in λ _. count_of a.limits.now.shape a.bytes.now _ _ c.tape_messages-taped.result (rw (c.order.ensures, c.depth.ensures.value) at c.tape_messages-taped.ensures.taped)

pub returns-clause-quarter : goal.returns-clause-quarter
returns-clause-quarter c =
    let a = c.args in
    let counted = count_of a.limits.now.shape a.bytes.now _ _ c.tape_messages-taped.result (rw (c.order.ensures, c.depth.ensures.value) at c.tape_messages-taped.ensures.taped) in
    omega (arith, counted, few_events a.limits.now.shape (whole a.bytes.now))
