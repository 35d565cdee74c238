use Rattle.nl_frame.proofs.Firsts.{layout_or_fault}
use Rattle.nl_frame.proofs.laws.layout_or_fault.Goals as goal

pub returns : goal.returns
returns c = layout_or_fault
