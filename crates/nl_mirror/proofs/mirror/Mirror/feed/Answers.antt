use Rattle.nl_mirror.proofs.Common.{map, subst, message_view}
use Rattle.nl_mirror.specs.Five.{IsRead}
use Rattle.nl_mirror.proofs.mirror.Mirror.feed.Goals as goal

pub returns-in-Ok-hear_each-clause-fed : goal.returns-in-Ok-hear_each-clause-fed
returns-in-Ok-hear_each-clause-fed c =
    (map message_view c.in-Ok.messages.items, subst (IsRead c.args.self.now.settings.limits c.args.bytes.now) c.in-Ok.is c.read-result.ensures.read, c.in-Ok-hear_each.ensures.ok)

pub returns-in-Err-clause-fed : goal.returns-in-Err-clause-fed
returns-in-Err-clause-fed c = (c.refused.ensures, subst (IsRead c.args.self.now.settings.limits c.args.bytes.now) c.in-Err.is c.read-result.ensures.read)
