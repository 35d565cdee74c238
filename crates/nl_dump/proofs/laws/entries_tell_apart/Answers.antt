use Rattle.nl_dump.proofs.Telling.{tell_apart}
use Rattle.nl_dump.proofs.laws.entries_tell_apart.Goals as goal

pub returns : goal.returns
returns c = tell_apart
