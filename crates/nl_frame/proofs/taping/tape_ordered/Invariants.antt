use Rattle.nl_frame.proofs.Common.{◌≡◌, ◌≤◌, ◌*◌, length, None, shape_of}
use Rattle.nl_frame.proofs.Tapes.{IsTaping}
use Rattle.nl_frame.proofs.taping.tape_ordered.Given as goal

abbrev pub invariant-messages : goal.invariant-messages
invariant-messages g l = (l.broken ≡ None) × (4 * l.count ≤ l.place) × IsTaping (shape_of l.order l.depth) l.fn.bytes l.fn.out l.count l.visits l.place l.left l.out

abbrev pub decreases-messages : goal.decreases-messages
decreases-messages g l = length l.left
