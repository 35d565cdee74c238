use Rattle.nl_dump.proofs.Common.{arith, found_at}
use Rattle.nl_dump.proofs.Sieve.{goes_on_so}
use Rattle.nl_dump.proofs.events.sift.Goals as goal

pub loop-at-preserved : goal.loop-at-preserved
loop-at-preserved c =
    let a = c.args in
    goes_on_so (found_at a.order a.dump.now a.bytes.now) a.out.now c.loop-at.at c.loop-at.counts c.at_head.result c.keep-counts.result c.loop-at.out c.keep-counts.new.out
    c.loop-at.invariant (omega arith) c.at_head.ensures c.keep-counts.ensures.counted c.keep-counts.ensures.events
