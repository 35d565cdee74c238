use Rattle.rtnl.proofs.Common.{◌≡◌, ◌++◌, drop, flat_map, cell}
use Rattle.rtnl.proofs.bytes.rows.push_cells.Given as goal

-- what is written and what is left give the whole
abbrev pub invariant-loop-byte : goal.invariant-loop-byte
invariant-loop-byte l = l.out.items ++ flat_map cell (drop l.byte-index l.bytes) ≡ l.initial.out.items ++ flat_map cell l.bytes
