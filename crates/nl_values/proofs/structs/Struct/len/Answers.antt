use Rattle.std.proofs.Common.{◌∙◌, ap, length, sym}
use Rattle.std.proofs.lemmas.List.{length-map}
use Rattle.nl_values.specs.Known.{fields_of}
use Rattle.nl_values.proofs.structs.Struct.len.Goals as goal

pub returns : goal.returns
unfolding fields_of
returns c = ap length c.fields_in.ensures ∙ sym (length-map _ _)
