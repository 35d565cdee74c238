use Rattle.nl_frame.proofs.Scan.{one_first_fault}
use Rattle.nl_frame.proofs.laws.one_first_fault.Goals as goal

pub returns : goal.returns
returns c = one_first_fault
