-- What calls of a source or a sink do to its known bytes and to its counts.
use Rattle.std.specs.Prelude.{◌≡◌, ℕ, ◌+◌, ◌-◌, ◌<◌, ◌≤◌, ◌^◌, ◌⊎◌, min, List, [], ◌∷◌, ◌++◌, Option, Some, None, Result, Ok, Err, length, take}
use Rattle.std.specs.Io.KnownBytes.{Appends, Consumes, IsAtEnd}
use Rattle.rtnl.specs.declared.streams.errors.IoFailed.{IoFailed}

-- one more, up to the greatest count
abbrev pub one_more : ℕ → ℕ
one_more count = min (count + 1) (2 ^ 64 - 1)

-- a call over a slice of this size moved no byte of some
abbrev pub MovesNone : Result ℕ IoFailed → ℕ → Type 0
MovesNone (Ok count) size = (count ≡ 0) × (0 < size)
MovesNone (Err e) size = ⊥

-- known bytes lose at most n bytes of their front
abbrev pub ConsumesAtMost : ℕ → Option (List ℕ) → Option (List ℕ) → Type 0
ConsumesAtMost n old new = (bytes : List ℕ) × Consumes old new bytes × (length bytes ≤ n)

-- known bytes lose more than n bytes of their front
abbrev pub ConsumesMoreThan : ℕ → Option (List ℕ) → Option (List ℕ) → Type 0
ConsumesMoreThan n old new = (bytes : List ℕ) × Consumes old new bytes × (n < length bytes)

-- known bytes grow by a prefix of a text
abbrev pub AppendsPrefix : Option (List ℕ) → Option (List ℕ) → List ℕ → Type 0
AppendsPrefix old new text = (count : ℕ) × Appends old new (take count text)

-- a source was read to its end, and none of its calls failed
abbrev pub IsRead : {S : Type 0} → (S → Option (List ℕ)) → (S → Type 0) → (S → ℕ) → S → S → Type 0
IsRead left is_ended failures old new = is_ended new × IsAtEnd (left new) × (failures new ≡ failures old)

-- one call failed, and none was without a byte; or one was without a byte, the last one, and none failed
abbrev pub StopsOnce : {W : Type 0} → (W → Type 0) → (W → ℕ) → (W → ℕ) → W → W → Type 0
StopsOnce is_stalled stalls failures old new =
    ((failures new ≡ one_more (failures old)) × (stalls new ≡ stalls old))
    ⊎ (is_stalled new × (stalls new ≡ one_more (stalls old)) × (failures new ≡ failures old))

-- known items grow by these, the newest last
abbrev pub Gains : {A : Type 0} → Option (List A) → Option (List A) → List A → Type 0
Gains None new items = Unit {0}
Gains (Some old) None items = ⊥
Gains (Some old) (Some new) items = new ≡ old ++ items

-- one read: what the sink had taken when it came, where it says that, and the bytes that it moved
pub record Read : Type 0 where
  pub written : Option (List ℕ)
  pub moved : List ℕ

-- the bytes that a call over this buffer moved
abbrev pub moved_by : Result ℕ IoFailed → List ℕ → List ℕ
moved_by (Ok count) buffer = take count buffer
moved_by (Err _) buffer = []

-- known reads grow by one
abbrev pub AddsRead : Option (List Read) → Option (List Read) → Option (List ℕ) → Result ℕ IoFailed → List ℕ → Type 0
AddsRead old new written result buffer = Gains old new (record { written = written; moved = moved_by result buffer } ∷ [])

-- the bytes that reads moved, one after another
abbrev pub all_moved : List Read → List ℕ
all_moved [] = []
all_moved (read ∷ reads) = read.moved ++ all_moved reads
