-- A text in parts. For private clauses.
use Rattle.std.specs.Prelude.{ℕ, List}
use Rattle.std.specs.Global.{Vec}
use Rattle.std.specs.List.{flat_map}

-- the parts of a text, one behind the other
abbrev pub joined : List (Vec ℕ) → List ℕ
joined parts = flat_map (λ part. part.items) parts
