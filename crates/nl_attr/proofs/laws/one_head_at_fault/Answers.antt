use Rattle.nl_attr.proofs.Common.{refl, facts_of, heads}
use Rattle.nl_attr.proofs.Lemmas.Grammars.{one_broken}
use Rattle.nl_attr.proofs.Lemmas.Scan.{laws}
use Rattle.nl_attr.proofs.laws.one_head_at_fault.Goals as goal

pub returns : goal.returns
unfolding heads
returns c = λ S s b d. one_broken (heads S) (laws S) s (facts_of S.order) b d (λ r h. refl)
