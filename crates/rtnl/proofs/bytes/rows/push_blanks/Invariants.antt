use Rattle.std.proofs.Common.{◌≡◌, ◌++◌, replicate}
use Rattle.rtnl.proofs.bytes.rows.push_blanks.Given as goal

-- what is written and what is left give the whole
abbrev pub invariant-loop-left : goal.invariant-loop-left
invariant-loop-left l = l.out.items ++ replicate l.left 32 ≡ l.initial.out.items ++ replicate l.fn.count 32

abbrev pub decreases-loop-left : goal.decreases-loop-left
decreases-loop-left l = l.left
