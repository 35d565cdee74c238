use Rattle.std.proofs.Common.{Ok, sym, append-nil, subst}
use Rattle.nl_dump.specs.Steps.{Fed}
use Rattle.rtnl.proofs.runs.table.feed_one.Goals as goal

pub returns-in-Ok : goal.returns-in-Ok
returns-in-Ok g c = (
  Ok c.in-Ok.field-0,
  subst (λ r. Fed c.args.session.now c.args.bytes.now r c.feed.new.self) c.in-Ok.is c.feed.ensures.step,
  tt,
  sym (append-nil (c.args.out.now.items)),
)
