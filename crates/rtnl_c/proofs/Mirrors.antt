-- A table of a mirror by what its entries stand for.
use Rattle.rtnl_c.proofs.Common.{position, bytes_eq, Family, written, place_of, entry_message, entry_bytes, seen, table_of, ◌≡◌, ℕ, List, [], ◌∷◌, map, option_map, slice_get, ap, keys_of, keys_of-map_values, Content, Item}
use Rattle.nl_mirror.specs.Changes.{held_of}
use Rattle.nl_mirror.specs.Hearing.{Following, in_items}

module _ {T : Type 0} (f : T → Item) (g : Following T) where
  -- its keys are the same
  pub keys_held : (key : List ℕ) → place_of key (table_of (in_items f g)) ≡ position (bytes_eq key) (keys_of g.replica.table.entries)
  keys_held key = ap (position (bytes_eq key)) (keys_of-map_values f g.replica.table.entries)

  -- and its entries are written the same
  pub entry_held : (k : Family) (t : Content T) → held_of t ≡ g.replica.table → t.order ≡ g.replica.order → (i : ℕ) → entry_bytes i k (seen f t) ≡ entry_bytes i k (table_of (in_items f g))
  entry_held k t held order i j = option_map (λ (e : List ℕ × Item). written (order j) (entry_message k e.1 ∷ [])) (slice_get (map (λ (e : List ℕ × T). (e.0, f e.1)) (held j).entries) i)
