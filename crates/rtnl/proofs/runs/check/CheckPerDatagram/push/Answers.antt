use Rattle.std.proofs.Common.{Err, refl}
use Rattle.rtnl.specs.Checked.{finding_text}
use Rattle.rtnl.proofs.Showing.{one_more, refuses}
use Rattle.rtnl.proofs.runs.check.CheckPerDatagram.push.Goals as goal

pub returns-in_ok-push_refusal-in-Err : goal.returns-in_ok-push_refusal-in-Err
unfolding finding_text
returns-in_ok-push_refusal-in-Err c = (
  Err c.in-Err.error,
  refuses c.args.self.now.limits c.args.bytes.now c.is_canonical.result c.is_canonical.ensures.large c.in-Err.error c.in-Err.is c.in_ok-push_refusal-in-Err.ensures.refusal c.is_canonical.ensures.first,
  one_more _ _ _ _ _ c.in_ok-push_number.ensures c.in_ok-push_refusal-in-Err.ensures.text,
  refl,
)
