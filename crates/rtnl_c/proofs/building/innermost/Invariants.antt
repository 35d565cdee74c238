use Rattle.rtnl_c.proofs.Common.{◌≡◌, ◌≤◌, ◌-◌, List, length, AreOpen, top, AreKept, OpenHead}
use Rattle.rtnl_c.proofs.building.innermost.Given as goal

abbrev pub invariant-loop-index : goal.invariant-loop-index
invariant-loop-index l =
    (l.index ≤ l.kept.count) × (l.kept.count ≤ 33)
    × ((hs : List OpenHead) × (l.index ≡ length hs) × AreKept l.kept.starts l.kept.contents hs × AreOpen l.kept.depth l.kept.len hs × (top hs ≡ l.head))

abbrev pub decreases-loop-index : goal.decreases-loop-index
decreases-loop-index l = l.kept.count - l.index
