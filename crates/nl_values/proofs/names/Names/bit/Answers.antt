use Rattle.nl_values.specs.Known.{bits_of}
use Rattle.nl_values.proofs.Ascii.{values}
use Rattle.nl_values.proofs.names.Names.bit.Goals as goal

pub bit_in-requires : goal.bit_in-requires
bit_in-requires c = record { ascii = values }

pub returns : goal.returns
unfolding bits_of
returns c = c.bit_in.ensures
