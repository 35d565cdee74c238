-- How the answer of a call stands to the outcome of a reading.
use Rattle.std.specs.Prelude.{◌≡◌, ℕ, Result, Ok, Err}
use Rattle.nl_attr.specs.declared.fault.ListError.{ListError}
use Rattle.nl_attr.specs.declared.fault.ListError.TheVariants.{Layout, Memory}
use Rattle.nl_attr.specs.declared.fault.Fault.{Fault}
use Rattle.nl_attr.specs.declared.fault.Tally.{Tally}
use Rattle.nl_attr.specs.Shape.{Shape}
use Rattle.nl_attr.specs.Heads.{Head}
use Rattle.nl_attr.specs.Visits.{Visits}
use Rattle.nl_attr.specs.Reading.{Outcome}

-- a result, seen by view, and the visits are this outcome, unless memory ran out
abbrev pub IsOutcome : {X Y : Type 0} → (X → Y) → Result X ListError → ℕ → Outcome Y → Type 0
IsOutcome view (Ok x) v o = o ≡ (Ok (view x), v)
IsOutcome view (Err (Layout f)) v o = o ≡ (Err f, v)
IsOutcome view (Err Memory) v o = Unit {0}

-- the same of a result with its visits
abbrev pub HasOutcome : {X Y : Type 0} → (X → Y) → Tally X ListError → Outcome Y → Type 0
HasOutcome view t o = IsOutcome view t.result t.visits o

-- a fault of the layout, unless memory ran out
abbrev pub IfLayout : ListError → (Fault → Type 0) → Type 0
IfLayout (Layout f) P = P f
IfLayout Memory P = Unit {0}

-- the visits of the heads from start on: up to this end where all was read, else up to the fault
abbrev pub VisitsUpTo : {X : Type 0} → Shape → Head → ℕ → Result X ListError → ℕ → Type 0
VisitsUpTo S start end (Ok x) v = Visits S start end v
VisitsUpTo S start end (Err (Layout f)) v = Visits S start f.place v
VisitsUpTo S start end (Err Memory) v = Unit {0}
