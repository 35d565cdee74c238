use Rattle.nl_frame.proofs.Scan.{one_sum, some_sum}
use Rattle.nl_frame.proofs.laws.one_sum.Goals as goal

pub returns : goal.returns
returns c = record { some = some_sum; only = one_sum }
