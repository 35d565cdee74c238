use Rattle.nl_attr.specs.Heads.{heads}
use Rattle.nl_attr.proofs.Lemmas.Grammars.{one_first_fault}
use Rattle.nl_attr.proofs.Lemmas.Scan.{laws}
use Rattle.nl_attr.proofs.laws.one_first_fault.Goals as goal

pub returns : goal.returns
returns c = λ S. one_first_fault (heads S) (laws S)
