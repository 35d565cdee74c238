use Rattle.std.proofs.Common.{Ok, Err, arith, refl, rules}
use Rattle.rtnl.proofs.Json.{more_fields}
use Rattle.rtnl.proofs.Showing.{refuses}
use Rattle.rtnl.proofs.runs.check.CheckJsonPerDatagram.push.Goals as goal

pub returns-in_ok-end-in-Ok : goal.returns-in_ok-end-in-Ok
returns-in_ok-end-in-Ok c = (Ok c.in-Ok.canonical, search rules, grind (arith, more_fields), refl)

pub returns-in_ok-end-in-Err : goal.returns-in_ok-end-in-Err
returns-in_ok-end-in-Err c = (
  Err c.in-Err.error,
  refuses c.args.self.now.limits c.args.bytes.now c.is_canonical.result c.is_canonical.ensures.large c.in-Err.error c.in-Err.is c.in_ok-push_refusal-in-Err.ensures.refusal c.is_canonical.ensures.first,
  grind (arith, more_fields),
  refl,
)
