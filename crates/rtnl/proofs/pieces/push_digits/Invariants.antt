use Rattle.rtnl.proofs.Common.{◌≡◌, ◌++◌, length, encode_lower}
use Rattle.rtnl.proofs.pieces.push_digits.Given as goal

-- what is written and what is left give the whole
abbrev pub invariant-loop-rest : goal.invariant-loop-rest
invariant-loop-rest l = l.out.items ++ encode_lower l.rest ≡ l.initial.out.items ++ encode_lower l.bytes

abbrev pub decreases-loop-rest : goal.decreases-loop-rest
decreases-loop-rest l = length l.rest
