use Rattle.nl_dump.specs.Events.{found_at}
use Rattle.nl_dump.proofs.Sieve.{IsSifting}
use Rattle.nl_dump.proofs.events.sift.Given as goal

abbrev pub invariant-loop-at : goal.invariant-loop-at
invariant-loop-at l = IsSifting (found_at l.order l.dump l.bytes) l.fn.out l.at l.counts l.out
