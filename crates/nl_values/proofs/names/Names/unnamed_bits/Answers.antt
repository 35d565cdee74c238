use Rattle.nl_values.specs.Known.{unnamed_of}
use Rattle.nl_values.proofs.names.Names.unnamed_bits.Goals as goal

pub returns : goal.returns
unfolding unnamed_of
returns c = c.unnamed_in.ensures
