-- The numbers of the refusals.
use Rattle.std.specs.Prelude.{ℕ}
use Rattle.rtnl.specs.declared.error.RunError.{RunError}
use Rattle.rtnl.specs.declared.error.RunError.TheVariants.{BadLine, ReadFault, WriteFault, Memory}

-- the number of each reason for which a run stops
abbrev pub run_code : RunError → ℕ
run_code Memory = 13
run_code (BadLine _) = 14
run_code ReadFault = 15
run_code WriteFault = 16
