use Rattle.nl_attr.proofs.Common.{length, opening_rest}
use Rattle.nl_attr.proofs.Lemmas.Filling.{IsOpened}
use Rattle.nl_attr.proofs.stack.read_on.Given as goal

-- the region that opens, and what is left behind it, give what was to be read
abbrev pub invariant-items : goal.invariant-items
invariant-items l = IsOpened l.shape l.fn.visits (opening_rest l.shape l.fn.region l.fn.first) l.visits l.region l.opening

abbrev pub decreases-items : goal.decreases-items
decreases-items l = length l.region.walk.left
