-- What a map is once a value is written through an entry of it.
use Rattle.std.proofs.Common.{◌≡◌, ℕ, ◌≤◌, ◌<◌, nat_lt, Bool, List, [], ◌∷◌, length, refl, sym, ◌∙◌, subst, arith}
use Rattle.std.proofs.lemmas.Grind.{common_steps}
use Rattle.std.proofs.lemmas.Bool.Decides.{nat_tests}
use Rattle.std.specs.List.{list_any, position_or_len}
use Rattle.std.specs.Map.{keys_of}
use Rattle.std.specs.declared.cmp.PartialEq as eq
use Rattle.std.specs.declared.hash.Hash as hash
use Rattle.std.specs.declared.hash.Hasher as hasher
use Rattle.std.specs.declared.hash.BuildHasher as builder
use Rattle.indexmap.specs.declared.map.entry.Entry.TheVariants.{Occupied, Vacant}
use Rattle.indexmap.specs.declared.map.entry.Entry.{Entry}
use Rattle.indexmap.specs.declared.map.entry.OccupiedEntry.{OccupiedEntry}
use Rattle.indexmap.specs.Entry.{entry_index, entry_map, map_with_value, IsEntryFor, IsWritten}
use Rattle.indexmap.specs.IndexMap.{IndexMap, KeepsRoom, index_map_len, insert_entry, spare}

-- a key is held exactly where its place is among those of the entries
pub place-held : {T : Type 0} (test : List ℕ → Bool) (es : List (List ℕ × T)) → nat_lt (position_or_len test (keys_of es)) (length es) ≡ list_any test (keys_of es)
place-held test [] = refl
place-held test (e ∷ es) = grind (arith, common_steps, nat_tests, place-held test es)

module _ {K V S A H : Type 0} {g : eq.Ghosts K} {h : hash.Ghosts K} {b : builder.Ghosts S H} {w : hasher.Ghosts H} where
  -- a key that is held takes a value without room
  pub room_of_held : (old final : IndexMap K V S) (e : Entry K V S A H g h b w) (d : OccupiedEntry K V S A H g h b w) (v : V) → KeepsRoom old (entry_map e) → entry_index e < index_map_len (entry_map e)
      → IsWritten e v (Occupied d) → final ≡ d.map.now → spare old ≤ spare final
  unfolding map_with_value entry_index
  room_of_held old final (Occupied o) d v room within wrote is = subst (λ (m : IndexMap K V S). spare old ≤ spare m) (sym (is ∙ wrote.1)) room.0
  room_of_held old final (Vacant e) d v room within wrote is = let no : ⊥ = omega (arith, within) in absurd no

  -- the entries are those after an insertion
  pub entries_written : (same : K → K → Bool) (old final : IndexMap K V S) (k : K) (e : Entry K V S A H g h b w) (d : OccupiedEntry K V S A H g h b w) (v : V) → IsEntryFor same old k e → IsWritten e v (Occupied d) → final ≡ d.map.now
      → final.entries ≡ insert_entry same old.entries k v
  entries_written same old final k e d v for_key wrote is = subst (λ (m : IndexMap K V S). m.entries ≡ insert_entry same old.entries k v) (sym (is ∙ wrote.1)) (for_key.1 v)

  -- and so many more, or as many
  pub len_written : (final : IndexMap K V S) (n : ℕ) (e : Entry K V S A H g h b w) (d : OccupiedEntry K V S A H g h b w) (v : V) → ((u : V) → index_map_len (map_with_value e u) ≡ n) → IsWritten e v (Occupied d) → final ≡ d.map.now
      → index_map_len final ≡ n
  len_written final n e d v len wrote is = subst (λ (m : IndexMap K V S). index_map_len m ≡ n) (sym (is ∙ wrote.1)) (len v)
