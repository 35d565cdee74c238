use Rattle.nl_frame.proofs.Scan.{visits_bound}
use Rattle.nl_frame.proofs.laws.visits_are_bounded.Goals as goal

pub returns : goal.returns
returns c = visits_bound
