use Rattle.rtnl.proofs.Common.{◌≡◌, ◌++◌, [], length, map, lists_after, marks_from, marks_of, attr_list_view, marks_in}
use Rattle.rtnl.proofs.bytes.view.view_events.Given as goal

abbrev pub decreases-loop-event : goal.decreases-loop-event
decreases-loop-event l = length l.left

-- what was seen and what is left give the whole
abbrev pub invariant-loop-event : goal.invariant-loop-event
invariant-loop-event l =
    (marks_in l.pieces.items ++ marks_from l.order l.bytes (map attr_list_view l.lists.items) l.depth l.left ≡ marks_of l.order l.bytes l.fn.events)
    × (lists_after l.order l.bytes (map attr_list_view l.lists.items) l.left ≡ lists_after l.order l.bytes [] l.fn.events)
