use Rattle.nl_mirror.proofs.Rooms.{full_is_said as is_said}
use Rattle.nl_mirror.proofs.laws.full_is_said.Goals as goal

pub returns : goal.returns
returns c = is_said
