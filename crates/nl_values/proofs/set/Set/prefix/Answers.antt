use Rattle.nl_values.specs.Known.{prefix_of}
use Rattle.nl_values.proofs.Ascii.{attributes}
use Rattle.nl_values.proofs.set.Set.prefix.Goals as goal

pub prefix_in-requires : goal.prefix_in-requires
prefix_in-requires c = record { ascii = attributes }

pub returns : goal.returns
unfolding prefix_of
returns c = c.prefix_in.ensures
