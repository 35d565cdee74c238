use Rattle.nl_attr.proofs.Common.{arith, shape_of}
use Rattle.nl_attr.proofs.Lemmas.Scanned.{scans_so, fits_of, first_of, none_of, visits_of_scan}
use Rattle.nl_attr.proofs.scanning.scan_list_ordered.Goals as goal

pub returns-clause-outcome : goal.returns-clause-outcome
returns-clause-outcome c = let a = c.args in scans_so (shape_of a.order a.depth) a.ctx a.level a.base a.bytes.now _ _ _ c.tape_list-taped.result c.answer.result c.tape_list-taped.ensures.taped c.answer.ensures

pub returns-clause-fits : goal.returns-clause-fits
returns-clause-fits c = let a = c.args in fits_of (shape_of a.order a.depth) a.ctx a.level a.base a.bytes.now c.answer.result c.tape_list-taped.result.visits (λ i. omega (arith, c.type_inv.bytes i)) (returns-clause-outcome c)

pub returns-clause-first : goal.returns-clause-first
returns-clause-first c = let a = c.args in first_of (shape_of a.order a.depth) a.ctx a.level a.base a.bytes.now c.answer.result c.tape_list-taped.result.visits (returns-clause-outcome c)

pub returns-clause-none : goal.returns-clause-none
returns-clause-none c = let a = c.args in none_of (shape_of a.order a.depth) a.ctx a.level a.base a.bytes.now c.answer.result c.tape_list-taped.result.visits (returns-clause-outcome c)

pub returns-clause-visits : goal.returns-clause-visits
returns-clause-visits c = let a = c.args in visits_of_scan (shape_of a.order a.depth) a.ctx a.level a.base a.bytes.now c.answer.result c.tape_list-taped.result.visits (returns-clause-outcome c)
