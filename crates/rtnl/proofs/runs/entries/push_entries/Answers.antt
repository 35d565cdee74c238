use Rattle.rtnl.proofs.Common.{◌++◌, length, map, ap, arith, seen, entries_text}
use Rattle.rtnl.proofs.Entries.{no_more, one_entry, pair}
use Rattle.rtnl.proofs.runs.entries.push_entries.Goals as goal

pub loop-entry-init : goal.loop-entry-init
loop-entry-init g c =
    let gives = c.into_iter-entry-iterator.ensures.into_iter_gives in
    record {
      text = ap (λ es. c.args.out.now.items ++ entries_text g.F.ReportFormat.report c.args.order 1 (map (pair g.T.TableItem.item) es)) gives.0;
      within = omega (arith, gives.2);
    }

pub overflow_add-number : goal.overflow_add-number
overflow_add-number g c = omega (arith, c.loop-entry.invariant.within)

pub loop-entry-preserved : goal.loop-entry-preserved
loop-entry-preserved g c =
    let now = c.loop-entry.invariant in
    let all = c.args.out.now.items ++ entries_text g.F.ReportFormat.report c.args.order 1 (seen g.T.TableItem.item c.args.table.now).entries in
    record {
      text = one_entry g.T.TableItem.item _ _ _ _ _ _ _ _ _ all c.in-Some.ensures.steps now.text c.in_ok-push_entry.ensures;
      within = omega (arith, now.within, ap length c.in-Some.ensures.steps);
    }

pub returns : goal.returns
returns g c = no_more g.T.TableItem.item _ _ _ _ _ _ c.in-None.ensures.steps.0 c.loop-entry.invariant.text
