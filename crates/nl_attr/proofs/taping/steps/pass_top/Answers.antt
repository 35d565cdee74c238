use Rattle.nl_attr.specs.Region.{head_of}
use Rattle.nl_attr.proofs.Lemmas.Leaves.{skips_none}
use Rattle.nl_attr.proofs.taping.steps.pass_top.Goals as goal

pub returns-in-Hops-clause-skips : goal.returns-in-Hops-clause-skips
returns-in-Hops-clause-skips c = let a = c.args in skips_none a.shape (head_of a.region) a.counts.now a.out.now
