use Rattle.nl_attr.proofs.Common.{ap, arith, Counts}
use Rattle.nl_attr.proofs.Lemmas.Leaves.{less, skips}
use Rattle.nl_attr.proofs.taping.steps.pass_front.Goals as goal

pub overflow_sub-bytes : goal.overflow_sub-bytes
overflow_sub-bytes c = (less c.args.region c.args.ctx c.args.counts.now c.pass_leaves-passed.result c.requires.parts c.pass_leaves-passed.ensures).0

pub overflow_cast-result : goal.overflow_cast-result
overflow_cast-result c = omega (arith, (less c.args.region c.args.ctx c.args.counts.now c.pass_leaves-passed.result c.requires.parts c.pass_leaves-passed.ensures).0, c.requires.size)

pub overflow_sub-result : goal.overflow_sub-result
overflow_sub-result c = omega (arith, (less c.args.region c.args.ctx c.args.counts.now c.pass_leaves-passed.result c.requires.parts c.pass_leaves-passed.ensures).0)

pub returns-clause-skips : goal.returns-clause-skips
returns-clause-skips c = skips c.args.region c.args.ctx c.args.counts.now c.pass_leaves-passed.result c.requires.parts c.pass_leaves-passed.ensures c.pass.new.self c.pass.ensures

pub returns-clause-size : goal.returns-clause-size
returns-clause-size c = (less c.args.region c.args.ctx c.args.counts.now c.pass_leaves-passed.result c.requires.parts c.pass_leaves-passed.ensures).0

pub returns-clause-place : goal.returns-clause-place
returns-clause-place c = omega (arith, (less c.args.region c.args.ctx c.args.counts.now c.pass_leaves-passed.result c.requires.parts c.pass_leaves-passed.ensures).0)

pub returns-clause-count : goal.returns-clause-count
returns-clause-count c = omega (arith, (less c.args.region c.args.ctx c.args.counts.now c.pass_leaves-passed.result c.requires.parts c.pass_leaves-passed.ensures).1, ap (λ (t : Counts). t.count) c.pass.ensures)

pub returns-clause-visits : goal.returns-clause-visits
returns-clause-visits c = omega (arith, (less c.args.region c.args.ctx c.args.counts.now c.pass_leaves-passed.result c.requires.parts c.pass_leaves-passed.ensures).0, ap (λ (t : Counts). t.visits) c.pass.ensures)
