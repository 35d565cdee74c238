use Rattle.nl_attr.proofs.Common.{and_then, more_visits, goes_on, opening_rest, outer_spot}
use Rattle.nl_attr.proofs.Lemmas.Nested.{IsReading, room_of, work}
use Rattle.nl_attr.proofs.stack.nested.read_nested.Given as goal

-- what is left to do gives the whole, and each region lies in the one below it
abbrev pub invariant-regions : goal.invariant-regions
invariant-regions l = IsReading l.shape (room_of (outer_spot l.fn.outermost)) (more_visits l.fn.visits (and_then (opening_rest l.shape l.fn.region l.fn.opening) (goes_on l.shape l.fn.outermost))) l.visits l.stack.items l.top

abbrev pub decreases-regions : goal.decreases-regions
decreases-regions l = work l.stack.items l.top
