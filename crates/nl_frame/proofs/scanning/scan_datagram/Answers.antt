use Rattle.std.proofs.Common.{arith}
use Rattle.nl_frame.proofs.Outcomes.{says_so, head_is, scans}
use Rattle.nl_frame.proofs.scanning.scan_datagram.Goals as goal

pub returns : goal.returns
returns c =
    let a = c.args in
    let taped = rw (c.order.ensures, c.depth.ensures.value) at c.scan_messages-taped.ensures in
    let outcome = says_so a.limits.now.shape a.bytes.now _ _ c.scan_messages-taped.result c.answer.result taped.taped c.answer.ensures in
    scans a.limits.now a.bytes.now _ (λ i. omega (arith, c.type_inv.bytes i)) (λ large. omega (arith, large, c.if-bytes-datagram.false, c.datagram.ensures.value)) outcome (head_is c.answer.result c.scan_messages-taped.result.broken _ c.answer.ensures taped.head) taped.bound
