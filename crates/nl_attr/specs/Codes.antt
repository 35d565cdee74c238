-- The numbers of the refusals.
use Rattle.std.specs.Prelude.{ℕ}
use Rattle.nl_attr.specs.declared.fault.Reason.{Reason}
use Rattle.nl_attr.specs.declared.fault.Reason.TheVariants.{Cut, BadLength, ShortBody, TooLong, TooDeep}
use Rattle.nl_attr.specs.declared.fault.Fault.{Fault}
use Rattle.nl_attr.specs.declared.fault.ListError.{ListError}
use Rattle.nl_attr.specs.declared.fault.ListError.TheVariants.{Layout, Memory}
use Rattle.nl_attr.specs.declared.fault.WriteError.{WriteError}
use Rattle.nl_attr.specs.declared.fault.WriteError.TheVariants as unwritten

-- of a broken rule
abbrev pub reason_code : Reason → ℕ
reason_code Cut = 1
reason_code BadLength = 2
reason_code ShortBody = 3
reason_code TooLong = 4
reason_code TooDeep = 5

-- a fault has its reason's
abbrev pub fault_code : Fault → ℕ
fault_code f = reason_code f.reason

-- of a list that was not read
abbrev pub list_code : ListError → ℕ
list_code (Layout f) = fault_code f
list_code Memory = 13

-- of a list that was not written
abbrev pub write_code : WriteError → ℕ
write_code unwritten.Mismatch = 11
write_code unwritten.TooDeep = 5
write_code unwritten.TooLong = 4
write_code unwritten.Memory = 13
