-- The bytes that a payload stands for.
use Rattle.std.specs.Prelude.{ℕ, ◌≤◌, List, take}
use Rattle.nl_attr.specs.declared.payload.Store.{Store}
use Rattle.nl_attr.specs.declared.payload.Store.TheVariants.{Inline, Heap}

-- the first bytes of a buffer in place, or those of a vector
abbrev pub stored : Store → List ℕ
stored (Inline len buffer) = take len buffer
stored (Heap v) = v.items

-- a length is within its buffer
abbrev pub IsStored : Store → Type 0
IsStored (Inline len buffer) = len ≤ 23
IsStored (Heap v) = Unit {0}
