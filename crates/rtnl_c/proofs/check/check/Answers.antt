use Rattle.rtnl_c.proofs.Checks.{checks_so}
use Rattle.rtnl_c.proofs.check.check.Goals as goal

pub returns : goal.returns
returns c =
    let e = c.is_canonical.ensures in
    rw (c.answer.ensures) (checks_so c.args.limits.now c.args.bytes.now c.is_canonical.result (e.large, e.canonical, e.first))
