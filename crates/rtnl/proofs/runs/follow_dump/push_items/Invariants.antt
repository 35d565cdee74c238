use Rattle.rtnl.proofs.Common.{◌≡◌, ◌+◌, ◌++◌, drop, map, message_view}
use Rattle.rtnl.specs.Tabled.{bodies_text}
use Rattle.rtnl.proofs.runs.follow_dump.push_items.Given as goal

-- what is written and what is left give the whole
abbrev pub invariant-loop-item : goal.invariant-loop-item
invariant-loop-item g l =
    record {
      written : l.out.items ++ bodies_text (λ m. m.body) g.F.ReportFormat.report l.order (l.number + 1) (map message_view (drop l.item-index l.items))
          ≡ l.initial.out.items ++ bodies_text (λ m. m.body) g.F.ReportFormat.report l.order (l.before + 1) (map message_view l.items);
      number : l.number ≡ l.before + l.item-index;
    }
