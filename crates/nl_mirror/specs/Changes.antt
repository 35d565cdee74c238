-- What a table holds once some changes were told to it.
use Rattle.std.specs.Prelude.{◌≡◌, ℕ, ◌+◌, ◌-◌, ◌^◌, nat_lt, if◌then◌else◌, List, [], ◌∷◌, ◌++◌, length, min, bytes_eq}
use Rattle.std.specs.Map.{set_value}
use Rattle.indexmap.specs.IndexMap.{swap_remove_entry}
use Rattle.nl_table.specs.Content.{Content, holds_key}
use Rattle.nl_mirror.specs.declared.change.Change.{Change}
use Rattle.nl_mirror.specs.declared.change.Change.TheVariants.{Now, Gone}

-- the entries of a table, each with its key, and how many it had no place for
pub record Held (T : Type 0) : Type 0 where
  pub entries : List (List ℕ × T)
  pub missed : ℕ

module _ {T : Type 0} where
  -- no entry, and none missed
  abbrev pub nothing : Held T
  nothing = record { entries = []; missed = 0 }

  -- what a table holds
  abbrev pub held_of : Content T → Held T
  held_of c = record { entries = c.entries; missed = c.missed }

  -- an entry is so now: it takes the place of the one with its key, or else goes last, where there are fewer than the limit
  abbrev pub put : ℕ → Held T → List ℕ → T → Held T
  put limit h k v =
      if holds_key k h.entries then record h { entries = set_value (bytes_eq k) h.entries v } else (
      if nat_lt (length h.entries) limit then record h { entries = h.entries ++ (k, v) ∷ [] } else record h { missed = min (h.missed + 1) (2 ^ 64 - 1) })

  module _ (key : T → List ℕ) (limit : ℕ) where
    -- one change is told: NEW puts, and DEL removes, by the key; the last entry takes the place of one that is removed
    abbrev pub tell : Held T → Change T → Held T
    tell h (Now x) = put limit h (key x) x
    tell h (Gone x) = record h { entries = swap_remove_entry (bytes_eq (key x)) h.entries }

    -- these are told, one after another
    abbrev pub tell_all : Held T → List (Change T) → Held T
    tell_all h [] = h
    tell_all h (c ∷ cs) = tell_all (tell h c) cs

  -- a table keeps its byte order and its limit
  abbrev pub SameLimits : Content T → Content T → Type 0
  SameLimits before after = (after.order ≡ before.order) × (after.limit ≡ before.limit)
