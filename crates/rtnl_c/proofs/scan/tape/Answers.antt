use Rattle.rtnl_c.proofs.Scans.{tapes_so}
use Rattle.rtnl_c.proofs.scan.tape.Goals as goal

pub returns-clause-tapes : goal.returns-clause-tapes
returns-clause-tapes c =
    let t = c.tape_datagram-visits in let s = t.ensures.scans in
    rw (c.refusal-place.ensures) (tapes_so c.args.limits.now c.args.bytes.now c.args.out.now t.new.out t.result.count t.ensures.untouched t.ensures.events t.ensures.count
    t.result.scan.result t.result.scan.visits (s.large, s.fits, s.first, s.visits))
