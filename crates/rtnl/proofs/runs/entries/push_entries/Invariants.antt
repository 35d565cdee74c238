use Rattle.rtnl.proofs.Common.{◌≡◌, ◌++◌, ◌+◌, ◌≤◌, ◌^◌, length, map, seen, entries_text}
use Rattle.rtnl.proofs.Entries.{pair}
use Rattle.rtnl.proofs.runs.entries.push_entries.Given as goal

-- what is written and what is left give the whole
abbrev pub invariant-loop-entry : goal.invariant-loop-entry
invariant-loop-entry g l =
    record {
      text : l.out.items ++ entries_text g.F.ReportFormat.report l.order l.number (map (pair g.T.TableItem.item) l.entry-iterator)
          ≡ l.initial.out.items ++ entries_text g.F.ReportFormat.report l.order 1 (seen g.T.TableItem.item l.table).entries;
      within : l.number + length l.entry-iterator ≤ 2 ^ 32;
    }
