use Rattle.nl_frame.proofs.Common.{drop, map, message_view}
use Rattle.nl_frame.proofs.Extents.{IsMeasuring}
use Rattle.nl_frame.proofs.measuring.measure_messages.Given as goal

abbrev pub invariant-loop-message : goal.invariant-loop-message
invariant-loop-message l = IsMeasuring l.depth (map message_view l.fn.messages) (map message_view (drop l.message-index l.messages)) l.all
