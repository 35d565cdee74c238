use Rattle.nl_values.specs.Known.{names_prefix_of}
use Rattle.nl_values.proofs.Ascii.{values}
use Rattle.nl_values.proofs.names.Names.prefix.Goals as goal

pub names_prefix_in-requires : goal.names_prefix_in-requires
names_prefix_in-requires c = record { ascii = values }

pub returns : goal.returns
unfolding names_prefix_of
returns c = c.names_prefix_in.ensures
