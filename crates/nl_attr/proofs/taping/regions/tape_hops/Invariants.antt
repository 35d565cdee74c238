use Rattle.nl_attr.proofs.Common.{◌≡◌, [], length, None, head_of, shape_of}
use Rattle.nl_attr.proofs.Lemmas.Taping.{IsTaping}
use Rattle.nl_attr.proofs.taping.regions.tape_hops.Given as goal

abbrev pub invariant-hops : goal.invariant-hops
invariant-hops g l =
    (l.broken ≡ None)
    × IsTaping (shape_of l.fn.order l.fn.depth) (head_of l.start) l.count l.fn.out [] (head_of l.hops) l.counts l.out

abbrev pub decreases-hops : goal.decreases-hops
decreases-hops g l = length l.hops.left.now
