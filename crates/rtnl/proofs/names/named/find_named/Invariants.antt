use Rattle.rtnl.proofs.Common.{◌≡◌, drop, map, find_named, named_view}
use Rattle.rtnl.proofs.names.named.find_named.Given as goal

-- the number is sought in the rows that are left
abbrev pub invariant-loop-key : goal.invariant-loop-key
invariant-loop-key g l = find_named l.number (map named_view (drop l.key-index l.rows)) ≡ find_named l.number (map named_view l.fn.rows)
