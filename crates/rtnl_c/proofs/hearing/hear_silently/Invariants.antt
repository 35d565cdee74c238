use Rattle.std.proofs.Common.{List, Result}
use Rattle.nl_mirror.specs.declared.effect.Update.{Update}
use Rattle.nl_mirror.specs.declared.short.Short.{Short}
use Rattle.rtnl_c.proofs.Telling.{AreHeard}
use Rattle.rtnl_c.proofs.hearing.hear_silently.Given as goal

abbrev pub invariant-loop-message : goal.invariant-loop-message
invariant-loop-message l = (rs : List (Result Update Short)) × AreHeard l.fn.mirror l.fn.messages.items l.message-iterator.rest.items rs l.mirror
