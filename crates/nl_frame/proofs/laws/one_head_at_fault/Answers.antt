use Rattle.nl_frame.proofs.Scan.{one_head_at_fault}
use Rattle.nl_frame.proofs.laws.one_head_at_fault.Goals as goal

pub returns : goal.returns
returns c = one_head_at_fault
