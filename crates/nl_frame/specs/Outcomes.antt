-- What a call answers that reads a datagram, and the numbers of refusals.
use Rattle.std.specs.Prelude.{◌≡◌, ℕ, List, length, Result, Ok, Err}
use Rattle.nl_attr.specs.declared.fault.Fault.{Fault}
use Rattle.nl_attr.specs.declared.fault.ListError.{ListError}
use Rattle.nl_attr.specs.declared.fault.ListError.TheVariants as unlisted
use Rattle.nl_attr.specs.declared.fault.WriteError.{WriteError as FirstRefusal}
use Rattle.nl_attr.specs.declared.fault.WriteError.TheVariants as first
use Rattle.nl_attr.specs.Shape.{Shape}
use Rattle.nl_attr.specs.Codes.{fault_code}
use Rattle.nl_frame.specs.declared.reading.ReadError.{ReadError}
use Rattle.nl_frame.specs.declared.reading.ReadError.TheVariants.{TooLarge, Layout, Memory}
use Rattle.nl_frame.specs.declared.writing.WriteError.{WriteError}
use Rattle.nl_frame.specs.declared.writing.WriteError.TheVariants as unwritten
use Rattle.nl_frame.specs.Heads.{Visits, whole}

-- a fault of the layout, and no other error
abbrev pub IfFault : ReadError → (Fault → Type 0) → Type 0
IfFault TooLarge P = Unit {0}
IfFault (Layout f) P = P f
IfFault Memory P = Unit {0}

-- the visits of a datagram: all where it was read, else those up to the fault; none where it is too large
abbrev pub VisitsUpTo : {X : Type 0} → Shape → List ℕ → Result X ReadError → ℕ → Type 0
VisitsUpTo S d (Ok x) v = Visits S (whole d) (length d) v
VisitsUpTo S d (Err TooLarge) v = v ≡ 0
VisitsUpTo S d (Err (Layout f)) v = Visits S (whole d) f.place v
VisitsUpTo S d (Err Memory) v = Unit {0}

-- a refusal of attributes, as one of a datagram
abbrev pub read_error : ListError → ReadError
read_error (unlisted.Layout f) = Layout f
read_error unlisted.Memory = Memory

-- the numbers of the refusals
abbrev pub read_code : ReadError → ℕ
read_code (Layout f) = fault_code f
read_code TooLarge = 6
read_code Memory = 13

-- a refusal of attributes, as one of messages
abbrev pub write_error : FirstRefusal → WriteError
write_error first.Mismatch = unwritten.Mismatch
write_error first.TooDeep = unwritten.TooDeep
write_error first.TooLong = unwritten.TooLong
write_error first.Memory = unwritten.Memory

-- of messages that were not written
abbrev pub write_code : WriteError → ℕ
write_code unwritten.Mismatch = 11
write_code unwritten.TooDeep = 5
write_code unwritten.TooLong = 4
write_code unwritten.TooLarge = 6
write_code unwritten.Memory = 13
