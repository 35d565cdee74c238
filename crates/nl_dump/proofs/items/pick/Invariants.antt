use Rattle.nl_frame.specs.View.{message_view}
use Rattle.nl_dump.proofs.Handing.{IsPicking}
use Rattle.nl_dump.proofs.items.pick.Given as goal

abbrev pub invariant-loop-at : goal.invariant-loop-at
invariant-loop-at l = IsPicking message_view l.dump l.fn.messages.items l.messages.items l.at l.counts
