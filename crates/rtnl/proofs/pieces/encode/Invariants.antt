use Rattle.rtnl.proofs.Common.{◌≡◌, ◌*◌, ◌++◌, take, drop, encode_lower}
use Rattle.rtnl.proofs.pieces.encode.Given as goal

-- what is written and what is left give the whole
abbrev pub invariant-loop-i : goal.invariant-loop-i
invariant-loop-i l =
    take (2 * l.i) l.digits ++ encode_lower (drop l.i l.bytes) ≡ encode_lower l.bytes
