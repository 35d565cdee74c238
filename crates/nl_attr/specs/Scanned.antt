-- How the answer of a scan, which keeps nothing, stands to the outcome of a reading.
use Rattle.std.specs.Prelude.{◌≡◌, ℕ, Option, Some, None, Result, Ok, Err}
use Rattle.nl_attr.specs.declared.fault.Fault.{Fault}
use Rattle.nl_attr.specs.declared.fault.Tally.{Tally}
use Rattle.nl_attr.specs.Shape.{Shape}
use Rattle.nl_attr.specs.Heads.{Head}
use Rattle.nl_attr.specs.Visits.{Visits}
use Rattle.nl_attr.specs.Reading.{Outcome}

-- an outcome without what was read
abbrev pub without : {A : Type 0} → Outcome A → Outcome (Unit {0})
without (Ok x, v) = (Ok tt, v)
without (Err f, v) = (Err f, v)

-- a result without its value, and the visits, are this outcome without what was read
abbrev pub HasEnd : {X Y : Type 0} → Result X Fault → ℕ → Outcome Y → Type 0
HasEnd (Ok x) v o = without o ≡ (Ok tt, v)
HasEnd (Err f) v o = without o ≡ (Err f, v)

-- whether all is accepted or which fault is met, and the visits, are those of this outcome
abbrev pub Scans : {X Y : Type 0} → Tally X Fault → Outcome Y → Type 0
Scans t o = HasEnd t.result t.visits o

-- the visits of the heads from start on: up to this end where all is accepted, else up to the fault
abbrev pub SeesUpTo : {X : Type 0} → Shape → Head → ℕ → Result X Fault → ℕ → Type 0
SeesUpTo S start end (Ok x) v = Visits S start end v
SeesUpTo S start end (Err f) v = Visits S start f.place v

-- it is refused for this fault, or accepted where there is none
abbrev pub Ends : {X : Type 0} → Option Fault → Result X Fault → Type 0
Ends None (Ok x) = Unit {0}
Ends None (Err f) = ⊥
Ends (Some g) (Ok x) = ⊥
Ends (Some g) (Err f) = f ≡ g
