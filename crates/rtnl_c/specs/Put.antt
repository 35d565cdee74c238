-- Bytes that C is answered in its buffer.
use Rattle.std.specs.Prelude.{◌≡◌, ◌≤◌, ◌<◌, ◌++◌, ℕ, List, length, drop, Option, Some, None}
use Rattle.rtnl_c.specs.declared.put.Put.{Put}
use Rattle.rtnl_c.specs.Codes.{no_room}

abbrev pub put_of : ℕ → ℕ → Put
put_of len code = record { len = len; code = code }

-- there are no bytes, for this reason
abbrev pub not_put : ℕ → Put
not_put code = put_of 0 code

-- where the buffer has room for these bytes they stand at its front, and the rest is as it was; where it has less, all of it is as it was
abbrev pub IsPut : List ℕ → List ℕ → List ℕ → Put → Type 0
IsPut bytes old new a =
    (length bytes ≤ length old → (new ≡ bytes ++ drop (length bytes) old) × (a ≡ put_of (length bytes) 0))
    × (length old < length bytes → (new ≡ old) × (a ≡ put_of (length bytes) no_room))

-- what was found was put, or nothing was found
abbrev pub PutsFound : Option (List ℕ) → ℕ → List ℕ → List ℕ → Put → Type 0
PutsFound None code old new a = (a ≡ not_put code) × (new ≡ old)
PutsFound (Some bytes) code old new a = IsPut bytes old new a
