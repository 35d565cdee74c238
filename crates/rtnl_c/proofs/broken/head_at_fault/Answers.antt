use Rattle.rtnl_c.proofs.Breaking.{breaks_so}
use Rattle.rtnl_c.proofs.broken.head_at_fault.Goals as goal

pub returns : goal.returns
returns c =
    let e = c.scan_datagram.ensures in
    rw (c.answer.ensures, c.into_result.ensures) (breaks_so c.args.limits.now c.args.bytes.now c.scan_datagram.result.result (e.large, e.fits, e.first, e.head))
