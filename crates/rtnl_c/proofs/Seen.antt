-- A table by what its entries stand for: the size and the keys are the same.
use Rattle.rtnl_c.proofs.Common.{items_len, row, head_size, any, item_of, Order, Family, written, length-map, sized, size_of, place_of, entry_message, entry_bytes, message_bytes, position, bytes_eq, nothing_there, PutsFound, ◌≡◌, ◌∙◌, ◌+◌, ℕ, List, [], ◌∷◌, length, Option, Some, None, option_map, slice_get, ap, sym, subst, refl, Object, slice_get-map, keys_of-map_values, Content, Item, seen, keys_of}
use Rattle.std.proofs.lemmas.List.{append-nil}
use Rattle.nl_attr.specs.Tree.{Items}
use Rattle.nl_attr.specs.View.{attrs_view}
use Rattle.rtnl_c.specs.declared.put.Put.{Put}
use Rattle.rtnl_c.specs.Entries.{PutsEntry, PutsMessage, puts}

module _ {T : Type 0} (f : T → Item) (t : Content T) where
  pub size_seen : size_of (seen f t) ≡ sized (length t.entries) t.missed t.limit
  size_seen = ap (λ n. sized n t.missed t.limit) (length-map t.entries (λ e. (e.0, f e.1)))

  pub keys_seen : (key : List ℕ) → place_of key (seen f t) ≡ position (bytes_eq key) (keys_of t.entries)
  keys_seen key = ap (position (bytes_eq key)) (keys_of-map_values f t.entries)

-- an entry's message as the program writes it is that of what the entry stands for
module _ {T : Type 0} (f : T → Item) (k : Family) (image : Order → T → List ℕ) (same : (o : Order) (x : T) → image o x ≡ written o (entry_message k (f x) ∷ [])) where
  by_entry : (o : Order) (e : Option (List ℕ × T)) → option_map (λ e. image o e.1) e ≡ option_map (λ (e : List ℕ × Item). written o (entry_message k e.1 ∷ [])) (option_map (λ e. (e.0, f e.1)) e)
  by_entry o None = refl
  by_entry o (Some e) = ap Some (same o e.1)

  pub entry_seen : (t : Content T) (i : ℕ) → option_map (λ e. image t.order e.1) (slice_get t.entries i) ≡ entry_bytes i k (seen f t)
  entry_seen t i = by_entry t.order (slice_get t.entries i) ∙ sym (ap (option_map (λ (e : List ℕ × Item). written t.order (entry_message k e.1 ∷ []))) (slice_get-map (λ e. (e.0, f e.1)) t.entries i))

-- a family's message with nothing behind it
pub one_message : (o : Order) (k : Family) (h : (row k).Head) (is : Items) → message_bytes o k (head_size k + items_len is) ((row k).fields h) is ≡ written o (entry_message k (any k h, is) ∷ [])
one_message o k h is = sym (append-nil (message_bytes o k (head_size k + items_len is) ((row k).fields h) is))

module _ (k : Family) where
  abbrev image : Order → Object (row k).Head → List ℕ
  image o b = message_bytes o k (head_size k + items_len (attrs_view b.attrs.items)) ((row k).fields b.head) (attrs_view b.attrs.items)

  -- what is put of an entry is put of what it stands for, in the table of the family
  pub puts_seen : (t : Content (Object (row k).Head)) (i : ℕ) (at : Family → Content Item) → entry_bytes i k (seen (item_of k) t) ≡ entry_bytes i k (at k)
      → (kind : Family) → kind ≡ k → {old new : List ℕ} {a : Put} → PutsMessage (option_map (λ e. image t.order e.1) (slice_get t.entries i)) old new a → PutsEntry i (at kind) kind old new a
  puts_seen t i at stands kind is {old} {new} {a} h =
      subst (λ (g : Family). PutsEntry i (at g) g old new a) (sym is)
      (subst (λ (b : Option (List ℕ)). PutsMessage b old new a) (entry_seen (item_of k) k image (λ o b. one_message o k b.head (attrs_view b.attrs.items)) t i ∙ stands) h)

-- what was put of the entry at an index, or that there is none
module _ {T : Type 0} (image : T → List ℕ) where
  pub put_at : (e : Option (List ℕ × T)) (x : Option T) → x ≡ option_map (λ e. e.1) e → {old new : List ℕ} {a : Put} → PutsFound (option_map image x) nothing_there old new a
      → PutsMessage (option_map (λ e. image e.1) e) old new a
  put_at None x is {old} {new} {a} h = puts new a (subst (λ (o : Option T). PutsFound (option_map image o) nothing_there old new a) is h)
  put_at (Some e) x is {old} {new} {a} h = puts new a (subst (λ (o : Option T). PutsFound (option_map image o) nothing_there old new a) is h)
