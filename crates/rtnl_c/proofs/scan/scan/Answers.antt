use Rattle.rtnl_c.proofs.Scans.{scans_so}
use Rattle.rtnl_c.proofs.scan.scan.Goals as goal

pub returns : goal.returns
returns c =
    let d = c.scan_datagram-result in let e = d.ensures in
    rw (c.refusal-place.ensures) (scans_so c.args.limits.now c.args.bytes.now d.result.result d.result.visits (e.large, e.fits, e.first, e.visits))
