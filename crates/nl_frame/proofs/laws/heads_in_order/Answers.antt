use Rattle.nl_attr.proofs.Lemmas.Grammars.{all, each, end_is, in_order}
use Rattle.nl_frame.specs.Heads.{header, heads}
use Rattle.nl_frame.proofs.Scan.{laws}
use Rattle.nl_frame.proofs.laws.heads_in_order.Goals as goal

pub returns-clause-each : goal.returns-clause-each
unfolding heads
returns-clause-each c = λ S r. each (heads S) (laws S) (header r)

pub returns-clause-order : goal.returns-clause-order
unfolding heads
returns-clause-order c = λ S r. in_order (heads S) (laws S) (header r)

pub returns-clause-end : goal.returns-clause-end
returns-clause-end c = λ S r. end_is (heads S) (laws S) (header r)

pub returns-clause-all : goal.returns-clause-all
unfolding heads
returns-clause-all c = λ S r. all (heads S) (laws S) (header r)
