use Rattle.nl_attr.proofs.Common.{length, hops_rest, hops_spot}
use Rattle.nl_attr.proofs.Lemmas.Going.{IsGoing}
use Rattle.nl_attr.proofs.stack.next_hops.read_hops.Given as goal

-- what was collected and what is left give the region
abbrev pub invariant-hops : goal.invariant-hops
invariant-hops l = IsGoing l.shape l.initial.visits (hops_rest l.shape l.initial.region) (hops_spot l.initial.region) l.visits (hops_rest l.shape l.region) (hops_spot l.region)

abbrev pub decreases-hops : goal.decreases-hops
decreases-hops l = length l.region.walk.left
