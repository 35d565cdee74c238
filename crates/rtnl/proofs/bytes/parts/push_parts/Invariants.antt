use Rattle.rtnl.proofs.Common.{◌≡◌, ◌+◌, drop, length, parts_by, row_printed, marks_in}
use Rattle.rtnl.proofs.ByteRows.{AreLeft}
use Rattle.rtnl.proofs.bytes.parts.push_parts.Given as goal

-- what is written and what is left give the whole
abbrev pub invariant-loop-piece : goal.invariant-loop-piece
invariant-loop-piece l =
    AreLeft (row_printed l.fn.how.format l.fn.how.order l.fn.how.number)
    (parts_by l.fn.start l.fn.bytes l.fn.refusal (marks_in l.pieces)) l.initial.out.items
    (parts_by l.place l.rest l.refusal (marks_in (drop l.piece-index l.pieces))) l.out.items
    × (l.place + length l.rest ≡ l.fn.start + length l.fn.bytes)
