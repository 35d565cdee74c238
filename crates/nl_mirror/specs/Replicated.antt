-- What a replica of one table is, and one call of it.
use Rattle.std.specs.Prelude.{◌==◌, ◌&&◌, not, ℕ, Bool, true, false, if◌then◌else◌, List, [], ◌∷◌, ◌++◌, length, Option, Some, None}
use Rattle.nl_attr.specs.declared.order.Order.{Order}
use Rattle.nl_mirror.specs.declared.change.Change.{Change}
use Rattle.nl_mirror.specs.declared.stale.Stale.{Stale}
use Rattle.nl_mirror.specs.declared.stale.Stale.TheVariants.{NeverDumped, Full}
use Rattle.nl_mirror.specs.Changes.{Held, nothing, tell, tell_all}

-- how many entries it may hold, and how many changes may wait; the table; that of the dump that runs, and what was told since it began; whether one runs; whether
-- something was lost since it began; why something of the table is missing since the last good dump began, or that there was none
pub record Replicated (T : Type 0) : Type 0 where
  pub order : Order
  pub limit : ℕ
  pub waiting : ℕ
  pub table : Held T
  pub coming : Held T
  pub since : List (Change T)
  pub dumps : Bool
  pub lost : Bool
  pub why : Option Stale

-- the first reason stays
abbrev pub first_of : Option Stale → Stale → Stale
first_of (Some first) later = first
first_of None later = later

module _ {T : Type 0} where
  -- a new replica: it holds nothing, and was never dumped
  abbrev pub new_replica : Order → ℕ → ℕ → Replicated T
  new_replica order limit waiting =
      record { order = order; limit = limit; waiting = waiting; table = nothing; coming = nothing; since = []; dumps = false; lost = false; why = Some NeverDumped }

  -- why the table can't be trusted: something of it is missing, or it had no place for an entry
  abbrev pub stale_of : Replicated T → Option Stale
  stale_of m = if m.table.missed == 0 then m.why else Some (first_of m.why Full)

  -- a dump runs, and as many changes wait for its end as may
  abbrev pub is_full : Replicated T → Bool
  is_full m = m.dumps && (length m.since == m.waiting)

  -- a dump begins
  abbrev pub begun : Replicated T → Replicated T
  begun m = record m { coming = nothing; dumps = true; lost = false }

  -- something is lost
  abbrev pub with_loss : Stale → Replicated T → Replicated T
  with_loss why m = record m { lost = true; why = Some (first_of m.why why) }

  -- a change waits while a dump runs, and is told to the table else
  abbrev pub taken : (T → List ℕ) → Replicated T → Change T → Replicated T
  taken key m c = if m.dumps then record m { since = m.since ++ c ∷ [] } else record m { table = tell key m.limit m.table c }

  -- where the dump was whole and nothing was lost since it began, its table takes the place of the other
  abbrev pub renewed : Replicated T → Bool → Replicated T
  renewed m whole = if whole && not m.lost then record m { table = m.coming; why = None } else m

  -- then the changes that waited are told to the table
  abbrev pub settled : (T → List ℕ) → Replicated T → Replicated T
  settled key m = record m { table = tell_all key m.limit m.table m.since; since = []; dumps = false }
