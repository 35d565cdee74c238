use Rattle.nl_dump.proofs.Common.{◌≡◌, found_at, IsFront}
use Rattle.nl_dump.proofs.events.front.Given as goal

abbrev pub invariant-loop-at : goal.invariant-loop-at
invariant-loop-at l = (l.front.events ≡ l.at) × IsFront (found_at l.order l.dump l.bytes) l.out l.front
