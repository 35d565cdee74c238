-- Of the events so far, the attributes that name the interface are counted.
use Rattle.std.proofs.Common.{◌≡◌, ◌≤◌, take, count_by}
use Rattle.rtnl_uses.proofs.Handed.{names}
use Rattle.rtnl_uses.proofs.streams.count_through.Given as goal

abbrev pub invariant-loop-event : goal.invariant-loop-event
invariant-loop-event l =
    (l.count ≤ l.event-index)
    × (l.count ≡ count_by (names l.datagram l.interface l.order) (take l.event-index l.event-items))
