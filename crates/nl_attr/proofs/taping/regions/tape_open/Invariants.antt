use Rattle.nl_attr.proofs.Common.{◌≡◌, ◌+◌, length, map, None, head_of}
use Rattle.nl_attr.proofs.Lemmas.Taping.{IsTaping, work}
use Rattle.nl_attr.proofs.taping.regions.tape_open.Given as goal

abbrev pub invariant-heads : goal.invariant-heads
invariant-heads l = (l.broken ≡ None) × IsTaping l.shape (head_of l.start) l.count l.fn.out (map head_of l.stack.items) (head_of l.top) l.counts l.out

abbrev pub decreases-heads : goal.decreases-heads
decreases-heads l = work (map head_of l.stack.items) + length l.top.left.now
