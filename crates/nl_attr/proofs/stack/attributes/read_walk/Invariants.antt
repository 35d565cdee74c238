use Rattle.nl_attr.proofs.Common.{length, list_rest, list_spot, region_at}
use Rattle.nl_attr.proofs.Lemmas.Going.{IsGoing}
use Rattle.nl_attr.proofs.stack.attributes.read_walk.Given as goal

-- what was collected and what is left give the region
abbrev pub invariant-attrs : goal.invariant-attrs
invariant-attrs l =
    let before = region_at l.initial.walk l.initial.list l.base l.level l.ctx in
    let now = region_at l.walk l.list l.base l.level l.ctx in
    IsGoing l.shape l.initial.visits (list_rest l.shape before) (list_spot before) l.visits (list_rest l.shape now) (list_spot now)

abbrev pub decreases-attrs : goal.decreases-attrs
decreases-attrs l = length l.walk.left
