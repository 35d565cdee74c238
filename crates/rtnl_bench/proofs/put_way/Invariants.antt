use Rattle.std.proofs.Common.{◌≤◌, length}
use Rattle.rtnl_bench.proofs.put_way.Given as goal

abbrev pub invariant-loop-at : goal.invariant-loop-at
invariant-loop-at l = record { fits : l.builder.len ≤ length l.out }
