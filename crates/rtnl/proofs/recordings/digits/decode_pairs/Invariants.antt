use Rattle.rtnl.proofs.Common.{◌≡◌, ◌*◌, ◌<◌, take, drop, prepend}
use Rattle.hex.specs.Hex.{decode_pairs}
use Rattle.rtnl.proofs.recordings.digits.decode_pairs.Given as goal

-- where all were digits so far, the bytes of the pairs so far lead
abbrev pub invariant-loop-i : goal.invariant-loop-i
invariant-loop-i l =
    l.highest < 16 → decode_pairs 0 l.digits ≡ prepend (take l.i l.bytes) (decode_pairs (2 * l.i) (drop (2 * l.i) l.digits))
