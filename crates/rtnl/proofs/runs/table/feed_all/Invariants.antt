use Rattle.std.proofs.Common.{◌≡◌, ◌≤◌, ◌++◌, List, drop, length}
use Rattle.rtnl.specs.Tabled.{Answered, FeedsSome, refusals_text}
use Rattle.rtnl.proofs.runs.table.feed_all.Given as goal

-- the first datagrams were fed, and the lines of the refused ones are written
abbrev pub invariant-loop-index : goal.invariant-loop-index
invariant-loop-index g l =
    (l.index ≤ length l.datagrams)
    × ((fed : List Answered) × FeedsSome l.initial.session l.datagrams fed (drop l.index l.datagrams) l.session
    × (length fed ≡ l.index) × (l.out.items ≡ l.initial.out.items ++ refusals_text g.F.ReportFormat.report fed))
