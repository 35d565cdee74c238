use Rattle.nl_attr.proofs.Common.{◌≡◌, [], length, None, head_of, shape_of}
use Rattle.nl_attr.proofs.Lemmas.Taping.{IsTaping}
use Rattle.nl_attr.proofs.taping.regions.open_regions.Given as goal

abbrev pub invariant-heads : goal.invariant-heads
invariant-heads g l =
    (l.broken ≡ None)
    × IsTaping (shape_of l.fn.order l.fn.depth) (head_of l.start) l.count l.fn.out [] (head_of l.top) l.counts l.out

abbrev pub decreases-heads : goal.decreases-heads
decreases-heads g l = length l.top.left.now
