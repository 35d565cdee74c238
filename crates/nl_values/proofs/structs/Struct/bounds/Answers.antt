use Rattle.nl_values.specs.Known.{bounds_of}
use Rattle.nl_values.proofs.structs.Struct.bounds.Goals as goal

pub returns : goal.returns
unfolding bounds_of
returns c = c.bounds_in.ensures
