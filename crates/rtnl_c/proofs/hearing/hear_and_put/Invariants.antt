use Rattle.rtnl_c.proofs.Telling.{AreBoth}
use Rattle.rtnl_c.proofs.hearing.hear_and_put.Given as goal

abbrev pub invariant-loop-message : goal.invariant-loop-message
invariant-loop-message l = AreBoth l.fn.mirror l.fn.messages.items l.fn.changes l.fn.before l.message-iterator.rest.items l.mirror l.changes l.before l.at l.index
