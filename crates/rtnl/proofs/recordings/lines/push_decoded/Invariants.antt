use Rattle.std.proofs.Common.{◌≡◌, ◌++◌, List, ℕ}
use Rattle.std.specs.Slice.Iter.{chunks_rest, chunks_size}
use Rattle.rtnl.proofs.Decoded.{Leads}
use Rattle.rtnl.proofs.recordings.lines.push_decoded.Given as goal

-- the bytes that were appended are those of the pieces so far
abbrev pub invariant-loop-piece : goal.invariant-loop-piece
invariant-loop-piece l =
    (goal.iterator-loop-piece).can_next l.piece-iterator
    × (goal.iterator-loop-piece).is_finite l.piece-iterator
    × (chunks_size l.piece-iterator ≡ 256)
    × ((done : List ℕ) × (l.bytes.items ≡ l.initial.bytes.items ++ done) × Leads l.digits done (chunks_rest l.piece-iterator))
