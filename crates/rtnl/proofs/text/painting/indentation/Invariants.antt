use Rattle.rtnl.proofs.Common.{◌≡◌, ℕ, ◌-◌, ◌≤◌, ◌<◌, get_or, length, true, is_space}
use Rattle.rtnl.proofs.text.painting.indentation.Given as goal

-- what is gone over is blanks
abbrev pub invariant-loop-length : goal.invariant-loop-length
invariant-loop-length l =
    record { within : l.length ≤ length l.line; blanks : (k : ℕ) → k < l.length → is_space (get_or l.line k 0) ≡ true }

abbrev pub decreases-loop-length : goal.decreases-loop-length
decreases-loop-length l = length l.line - l.length
