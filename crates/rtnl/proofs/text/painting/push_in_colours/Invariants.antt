use Rattle.std.proofs.Common.{◌≡◌, ◌++◌, length}
use Rattle.rtnl.specs.Painted.{painted}
use Rattle.rtnl.proofs.text.painting.push_in_colours.Given as goal

-- what is written and what is left to write is the whole
abbrev pub invariant-loop-end : goal.invariant-loop-end
invariant-loop-end l = l.out.items ++ painted l.left ≡ l.initial.out.items ++ painted l.text

abbrev pub decreases-loop-end : goal.decreases-loop-end
decreases-loop-end l = length l.left
