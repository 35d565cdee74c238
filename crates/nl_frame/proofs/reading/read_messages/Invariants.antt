use Rattle.nl_frame.proofs.Common.{length, map, message_view}
use Rattle.nl_frame.proofs.Steps.{IsReading}
use Rattle.nl_frame.proofs.reading.read_messages.Given as goal

abbrev pub invariant-loop-left : goal.invariant-loop-left
invariant-loop-left l = IsReading l.limits.shape l.fn.bytes (map message_view l.list.items) l.visits l.place l.left

abbrev pub decreases-loop-left : goal.decreases-loop-left
decreases-loop-left l = length l.left
