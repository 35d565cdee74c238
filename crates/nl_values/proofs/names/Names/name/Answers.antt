use Rattle.nl_values.specs.Known.{name_of}
use Rattle.nl_values.proofs.Ascii.{values}
use Rattle.nl_values.proofs.names.Names.name.Goals as goal

pub value_name_in-requires : goal.value_name_in-requires
value_name_in-requires c = record { ascii = values }

pub returns : goal.returns
unfolding name_of
returns c = c.value_name_in.ensures
