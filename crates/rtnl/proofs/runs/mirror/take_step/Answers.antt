use Rattle.rtnl.proofs.Common.{refl, began}
use Rattle.rtnl.proofs.runs.mirror.take_step.Goals as goal

pub returns-in_ok-begin-in-Dump : goal.returns-in_ok-begin-in-Dump
returns-in_ok-begin-in-Dump g c =
    let e = c.in_ok-begin-in-Dump.ensures in
    rw c.in-Dump.is (began e.0, e.1, e.2, e.3, e.4, refl)
