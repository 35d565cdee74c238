use Rattle.nl_attr.proofs.Common.{arith, shape_of, found}
use Rattle.nl_attr.proofs.Lemmas.Taping.{taped_bound, taped_few, taped_quarter, taped_untouched}
use Rattle.nl_attr.proofs.taping.tape_attrs_in.Goals as goal

pub tape_region-requires-clause-fits : goal.tape_region-requires-clause-fits
tape_region-requires-clause-fits c =
    let q = c.requires in
    record {
      level = q.level;
      size = q.size;
      place = q.place;
      count = omega (arith, q.count, q.size);
      room = q.room;
    }

pub returns-clause-bound : goal.returns-clause-bound
returns-clause-bound c = let a = c.args in taped_bound (shape_of a.order a.depth) a.ctx a.level a.base a.bytes.now a.count a.out.now c.tape_region.new.out (found c.tape_region.new.broken c.tape_region.result) c.tape_region.ensures

pub returns-clause-count : goal.returns-clause-count
returns-clause-count c = taped_few c.tape_region.ensures

pub returns-clause-untouched : goal.returns-clause-untouched
returns-clause-untouched c = taped_untouched c.tape_region.ensures

pub returns-clause-quarter : goal.returns-clause-quarter
returns-clause-quarter c = taped_quarter c.tape_region.ensures
