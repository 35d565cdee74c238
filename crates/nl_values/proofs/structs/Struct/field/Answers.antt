use Rattle.nl_values.specs.Known.{fields_of}
use Rattle.nl_values.proofs.Ascii.{fields}
use Rattle.nl_values.proofs.structs.Struct.field.Goals as goal

pub field_in-requires : goal.field_in-requires
field_in-requires c = record { ascii = fields }

pub returns : goal.returns
unfolding fields_of
returns c = c.field_in.ensures
