use Rattle.std.proofs.Common.{arith}
use Rattle.nl_dump.proofs.Streaming.{IsSifted, is_sifted, few_items, few_ignored, reads_ok, reads_err}
use Rattle.nl_dump.proofs.events.read_events.Goals.{After-sift-counts}
use Rattle.nl_dump.proofs.events.read_events.Goals as goal

-- what was taped is sifted
sifts : (c : After-sift-counts) → IsSifted c.args.limits.now c.args.dump.now c.args.bytes.now c.args.out.now c.sift-counts.result c.tape_datagram-visits.result.scan.visits c.sift-counts.new.out
sifts c =
    let a = c.args in
    let t = c.tape_datagram-visits in
    is_sifted a.limits.now a.dump.now a.bytes.now a.out.now t.result.scan.result t.result.count t.result.scan.visits c.sift-counts.result t.new.out c.sift-counts.new.out c.in-Ok.is t.ensures.scans.large t.ensures.scans.fits t.ensures.scans.visits t.ensures.count t.ensures.events t.auto.out c.if-out-count.false
    (rw c.order.ensures at c.sift-counts.ensures.found) (rw c.order.ensures at c.sift-counts.ensures.events)

pub taken-requires-clause-items : goal.taken-requires-clause-items
taken-requires-clause-items c =
    let is = sifts (goal.at.taken-requires-clause-items c).After-sift-counts in
    omega (arith, few_items _ _ _ _ _ _ _ is, is.within, c.datagram-limit.ensures.limits)

pub taken-requires-clause-ignored : goal.taken-requires-clause-ignored
taken-requires-clause-ignored c =
    let is = sifts (goal.at.taken-requires-clause-ignored c).After-sift-counts in
    omega (arith, few_ignored _ _ _ _ _ _ _ is, is.within, c.datagram-limit.ensures.limits)

pub returns-else-out-count-clause-reads : goal.returns-else-out-count-clause-reads
returns-else-out-count-clause-reads c =
    let is = sifts (goal.at.returns-else-out-count-clause-reads c).After-sift-counts in
    rw c.taken.ensures (reads_ok _ _ _ _ _ _ _ is)

pub returns-else-out-count-clause-ignored : goal.returns-else-out-count-clause-ignored
returns-else-out-count-clause-ignored c =
    let is = sifts (goal.at.returns-else-out-count-clause-ignored c).After-sift-counts in
    rw c.taken.ensures (few_ignored _ _ _ _ _ _ _ is)

pub returns-in-Err-clause-reads : goal.returns-in-Err-clause-reads
returns-in-Err-clause-reads c =
    let a = c.args in
    let t = c.tape_datagram-visits in
    rw c.refusal.ensures (reads_err a.limits.now a.dump.now a.bytes.now a.out.now t.result.scan.result c.in-Err.error t.result.scan.visits t.new.out c.in-Err.is t.ensures.scans.large t.ensures.scans.first t.ensures.scans.visits (λ large. (t.ensures.untouched large).1) t.ensures.events)
