use Rattle.nl_frame.specs.View.{message_view}
use Rattle.nl_mirror.proofs.Fives.{each, update_before, value_second}
use Rattle.nl_mirror.proofs.mirror.Mirror.hear.Goals as goal

pub returns-clause-heard : goal.returns-clause-heard
returns-clause-heard c =
    each c.overhear-others.result c.hear_own.result c.both.result c.args.self.now c.overhear-others.new.self c.hear_own.new.self (message_view c.args.message)
    c.overhear-others.ensures.heard c.hear_own.ensures.heard c.overhear-others.ensures.memory c.overhear-others.ensures.ends (c.both.ensures.first, c.both.ensures.second) c.hear_own.ensures.room

pub returns-clause-update : goal.returns-clause-update
returns-clause-update c =
    update_before c.overhear-others.result c.hear_own.result c.both.result c.args.self.now c.overhear-others.new.self (message_view c.args.message)
    c.overhear-others.ensures.heard (value_second c.overhear-others.result c.hear_own.result c.both.result (c.both.ensures.first, c.both.ensures.second)) c.hear_own.ensures.update
