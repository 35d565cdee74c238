use Rattle.std.proofs.Common.{◌≡◌, ◌≤◌, length, map, take}
use Rattle.rtnl.proofs.recordings.recording.Datagrams.to_vecs.Given as goal

-- the first datagrams have a vector each
abbrev pub invariant-loop-index : goal.invariant-loop-index
invariant-loop-index l = (l.index ≤ length l.self) × (map (λ d. d.items) l.vectors.items ≡ take l.index l.self)
