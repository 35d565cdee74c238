use Rattle.nl_attr.proofs.Common.{◌≡◌, ◌≤◌, ◌+◌, ◌-◌, ◌%◌, drop, length, start_of, IsPassing}
use Rattle.nl_attr.proofs.taping.leaves.pass_like.Given as goal

abbrev pub invariant-leaves : goal.invariant-leaves
invariant-leaves l =
    (l.at % 4 ≡ 0) × (l.limit % 4 ≡ 0) × (l.at ≤ l.limit) × (l.behind ≡ (l.limit - l.at + 18446744073709551612) % 18446744073709551616) × (l.limit ≤ length l.bytes) × (length l.out ≡ length l.fn.out)
    × IsPassing l.fn.shape (start_of l.fn.ctx l.level (l.end - length l.bytes) l.bytes) l.fn.count l.fn.out (drop l.at l.bytes) l.count l.out

abbrev pub decreases-leaves : goal.decreases-leaves
decreases-leaves l = l.limit - l.at
