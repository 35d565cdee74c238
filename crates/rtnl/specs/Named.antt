-- Tables of numbers, each with its name and what else is known of it.
use Rattle.std.specs.Prelude.{ℕ, ◌==◌, if◌then◌else◌, List, [], ◌∷◌, Option, Some, None}
use Rattle.std.specs.Borrow.{Bor}

-- a number, its name, and what else is known of it
abbrev pub Named : Type 0 → Type 0
Named T = ℕ × List ℕ × T

-- a row of the program
abbrev pub named_view : {T : Type 0} → ℕ × Bor (List ℕ) × T → Named T
named_view row = (row.0, row.1.now, row.2)

-- the first row of a number
abbrev pub find_named : {T : Type 0} → ℕ → List (Named T) → Option (List ℕ × T)
find_named number [] = None
find_named number (row ∷ rows) = if row.0 == number then Some (row.1, row.2) else find_named number rows

-- the name that was found, or another
abbrev pub name_in : {T : Type 0} → List ℕ → Option (List ℕ × T) → List ℕ
name_in other None = other
name_in other (Some row) = row.0
