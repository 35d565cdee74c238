use Rattle.std.proofs.Common.{◌∙◌, ap, length, sym}
use Rattle.std.proofs.lemmas.List.{length-map}
use Rattle.nl_values.specs.Known.{bits_of}
use Rattle.nl_values.proofs.names.Names.len.Goals as goal

pub returns : goal.returns
unfolding bits_of
returns c = ap length c.rows_in.ensures ∙ sym (length-map _ _)
