use Rattle.rtnl.proofs.Common.{◌≡◌, ◌+◌, length, row_printed, part_view}
use Rattle.rtnl.proofs.ByteRows.{IsLeft}
use Rattle.rtnl.proofs.bytes.rows.push_part.Given as goal

abbrev pub invariant-loop-rest : goal.invariant-loop-rest
invariant-loop-rest l =
    IsLeft (row_printed l.fn.how.format l.fn.how.order l.fn.how.number) (part_view l.fn.part) l.initial.out.items l.is_first l.place l.rest l.out.items
    × (l.place + length l.rest ≡ l.fn.part.place + length l.fn.part.bytes.now)

abbrev pub decreases-loop-rest : goal.decreases-loop-rest
decreases-loop-rest l = length l.rest
