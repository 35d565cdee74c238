-- What is told to a replica is told to what its entries stand for.
use Rattle.nl_mirror.proofs.Common.{◌≡◌, ◌==◌, ℕ, ◌&&◌, not, Bool, true, false, cond, nat_lt, min, Option, Some, None, position, arith, ◌+◌, ◌-◌, ◌^◌, List, [], ◌∷◌, ◌++◌, map, length, bytes_eq, refl, sym, ap, ◌∙◌, list_any, keys_of, set_value, swap_remove, map-append, length-map, holds_key, Change, Now, Gone, Held, put, tell, tell_all, Replicated, is_full, settled, Event, begins, brings, ends, tells, overflows, loses, fails, Moves, change_seen, held_seen, replica_seen, event_seen}
use Rattle.std.specs.Option.{option_map_or}
use Rattle.indexmap.specs.IndexMap.{swap_remove_entry}
use Rattle.indexmap.proofs.SetLemmas.{map-swap_remove}
use Rattle.std.proofs.lemmas.Map.Made.{keys_of-map_values}

module _ {S T : Type 0} (f : S → T) where
  set_seen : (test : List ℕ → Bool) (es : List (List ℕ × S)) (v : S)
      → set_value test (map (λ (e : List ℕ × S). (e.0, f e.1)) es) (f v) ≡ map (λ (e : List ℕ × S). (e.0, f e.1)) (set_value test es v)
  set_seen test [] v = refl
  set_seen test (e ∷ es) v = by (test e.0) (set_seen test es v)
    where
      by : (b : Bool) → set_value test (map (λ (e : List ℕ × S). (e.0, f e.1)) es) (f v) ≡ map (λ (e : List ℕ × S). (e.0, f e.1)) (set_value test es v)
          → cond b ((e.0, f v) ∷ map (λ (e : List ℕ × S). (e.0, f e.1)) es) ((e.0, f e.1) ∷ set_value test (map (λ (e : List ℕ × S). (e.0, f e.1)) es) (f v))
          ≡ map (λ (e : List ℕ × S). (e.0, f e.1)) (cond b ((e.0, v) ∷ es) (e ∷ set_value test es v))
      by true r = refl
      by false r = ap (λ l. (e.0, f e.1) ∷ l) r

  remove_seen : (test : List ℕ → Bool) (es : List (List ℕ × S))
      → swap_remove_entry test (map (λ (e : List ℕ × S). (e.0, f e.1)) es) ≡ map (λ (e : List ℕ × S). (e.0, f e.1)) (swap_remove_entry test es)
  remove_seen test [] = refl
  remove_seen test (e ∷ es) =
      ap (λ l. option_map_or (λ i. swap_remove (map g (e ∷ es)) i (g e)) (position test l) (map g (e ∷ es))) (keys_of-map_values f (e ∷ es))
      ∙ by (position test (keys_of (e ∷ es))) refl
    where
      g : List ℕ × S → List ℕ × T
      g e = (e.0, f e.1)

      by : (r : Option ℕ) → position test (keys_of (e ∷ es)) ≡ r → option_map_or (λ i. swap_remove (map g (e ∷ es)) i (g e)) (position test (keys_of (e ∷ es))) (map g (e ∷ es))
          ≡ map g (swap_remove_entry test (e ∷ es))
      by None h =
          ap (λ o. option_map_or (λ i. swap_remove (map g (e ∷ es)) i (g e)) o (map g (e ∷ es))) h
          ∙ sym (ap (λ o. map g (option_map_or (λ i. swap_remove (e ∷ es) i e) o (e ∷ es))) h)
      by (Some i) h =
          ap (λ o. option_map_or (λ i. swap_remove (map g (e ∷ es)) i (g e)) o (map g (e ∷ es))) h
          ∙ sym (map-swap_remove g (e ∷ es) i e (omega arith))
          ∙ sym (ap (λ o. map g (option_map_or (λ n. swap_remove (e ∷ es) n e) o (e ∷ es))) h)

  put_seen : (limit : ℕ) (h : Held S) (k : List ℕ) (v : S) → put limit (held_seen f h) k (f v) ≡ held_seen f (put limit h k v)
  put_seen limit h k v =
      let held : holds_key k (held_seen f h).entries ≡ holds_key k h.entries = ap (list_any (bytes_eq k)) (keys_of-map_values f h.entries) in
      let long : length (held_seen f h).entries ≡ length h.entries = length-map h.entries (λ (e : List ℕ × S). (e.0, f e.1)) in
      by (holds_key k (held_seen f h).entries) (holds_key k h.entries) held (length (held_seen f h).entries) (length h.entries) long
    where
      choose : (a b : Bool) → cond a (record (held_seen f h) { entries = set_value (bytes_eq k) (held_seen f h).entries (f v) })
          (cond b (record (held_seen f h) { entries = (held_seen f h).entries ++ (k, f v) ∷ [] }) (record (held_seen f h) { missed = min (h.missed + 1) (2 ^ 64 - 1) }))
          ≡ held_seen f (cond a (record h { entries = set_value (bytes_eq k) h.entries v })
          (cond b (record h { entries = h.entries ++ (k, v) ∷ [] }) (record h { missed = min (h.missed + 1) (2 ^ 64 - 1) })))
      choose true b = ap (λ (l : List (List ℕ × T)). record (held_seen f h) { entries = l }) (set_seen (bytes_eq k) h.entries v)
      choose false true = ap (λ (l : List (List ℕ × T)). record (held_seen f h) { entries = l }) (sym (map-append (λ (e : List ℕ × S). (e.0, f e.1)) h.entries ((k, v) ∷ [])))
      choose false false = refl

      by : (a b : Bool) → a ≡ b → (m n : ℕ) → m ≡ n
          → cond a (record (held_seen f h) { entries = set_value (bytes_eq k) (held_seen f h).entries (f v) })
          (cond (nat_lt m limit) (record (held_seen f h) { entries = (held_seen f h).entries ++ (k, f v) ∷ [] }) (record (held_seen f h) { missed = min (h.missed + 1) (2 ^ 64 - 1) }))
          ≡ held_seen f (cond b (record h { entries = set_value (bytes_eq k) h.entries v })
          (cond (nat_lt n limit) (record h { entries = h.entries ++ (k, v) ∷ [] }) (record h { missed = min (h.missed + 1) (2 ^ 64 - 1) })))
      by a b e m n l =
          ap (λ c. cond c (record (held_seen f h) { entries = set_value (bytes_eq k) (held_seen f h).entries (f v) })
          (cond (nat_lt m limit) (record (held_seen f h) { entries = (held_seen f h).entries ++ (k, f v) ∷ [] }) (record (held_seen f h) { missed = min (h.missed + 1) (2 ^ 64 - 1) }))) e
          ∙ ap (λ n. cond b (record (held_seen f h) { entries = set_value (bytes_eq k) (held_seen f h).entries (f v) })
          (cond (nat_lt n limit) (record (held_seen f h) { entries = (held_seen f h).entries ++ (k, f v) ∷ [] }) (record (held_seen f h) { missed = min (h.missed + 1) (2 ^ 64 - 1) }))) l
          ∙ choose b (nat_lt n limit)

  -- as many wait
  pub full_seen : (m : Replicated S) → is_full (replica_seen f m) ≡ is_full m
  full_seen m = ap (λ n. m.dumps && (n == m.waiting)) (length-map m.since (change_seen f))

  module _ (mine : S → List ℕ) (theirs : T → List ℕ) (same : (x : S) → theirs (f x) ≡ mine x) where
    tell_seen : (limit : ℕ) (h : Held S) (c : Change S) → tell theirs limit (held_seen f h) (change_seen f c) ≡ held_seen f (tell mine limit h c)
    tell_seen limit h (Now x) = ap (λ k. put limit (held_seen f h) k (f x)) (same x) ∙ put_seen limit h (mine x) x
    tell_seen limit h (Gone x) =
        ap (λ k. record (held_seen f h) { entries = swap_remove_entry (bytes_eq k) (held_seen f h).entries }) (same x)
        ∙ ap (λ (l : List (List ℕ × T)). record (held_seen f h) { entries = l }) (remove_seen (bytes_eq (mine x)) h.entries)

    tell_all_seen : (limit : ℕ) (h : Held S) (cs : List (Change S)) → tell_all theirs limit (held_seen f h) (map (change_seen f) cs) ≡ held_seen f (tell_all mine limit h cs)
    tell_all_seen limit h [] = refl
    tell_all_seen limit h (c ∷ cs) =
        ap (λ (h : Held T). tell_all theirs limit h (map (change_seen f) cs)) (tell_seen limit h c) ∙ tell_all_seen limit (tell mine limit h c) cs

    -- an event of a replica is one of the replica of what its entries stand for
    pub moves_seen : (m : Replicated S) (e : Event S) (n : Replicated S) → Moves mine m e n → Moves theirs (replica_seen f m) (event_seen f e) (replica_seen f n)
    moves_seen m begins n s = (s.0, ap (replica_seen f) s.1)
    moves_seen m (brings x) n s = (
      s.0,
      ap (replica_seen f) s.1 ∙ ap (λ (c : Held T). record (replica_seen f m) { coming = c })
          (sym (ap (λ k. put m.limit (held_seen f m.coming) k (f x)) (same x) ∙ put_seen m.limit m.coming (mine x) x)),
    )
    moves_seen m (ends whole) n s = (s.0, ap (replica_seen f) s.1 ∙ by (whole && not m.lost))
      where
        by : (b : Bool) → replica_seen f (record (settled mine (cond b (record m { table = m.coming; why = None }) m)) { coming = n.coming })
            ≡ record (settled theirs (cond b (record (replica_seen f m) { table = held_seen f m.coming; why = None }) (replica_seen f m))) { coming = held_seen f n.coming }
        by true = ap (λ (h : Held T). record (replica_seen f m) { table = h; coming = held_seen f n.coming; since = []; dumps = false; why = None }) (sym (tell_all_seen m.limit m.coming m.since))
        by false = ap (λ (h : Held T). record (replica_seen f m) { table = h; coming = held_seen f n.coming; since = []; dumps = false }) (sym (tell_all_seen m.limit m.table m.since))
    moves_seen m (tells c) n s = (full_seen m ∙ s.0, ap (replica_seen f) s.1 ∙ by m.dumps)
      where
        by : (b : Bool) → replica_seen f (cond b (record m { since = m.since ++ c ∷ [] }) (record m { table = tell mine m.limit m.table c }))
            ≡ cond b (record (replica_seen f m) { since = map (change_seen f) m.since ++ change_seen f c ∷ [] }) (record (replica_seen f m) { table = tell theirs m.limit (held_seen f m.table) (change_seen f c) })
        by true = ap (λ (l : List (Change T)). record (replica_seen f m) { since = l }) (map-append (change_seen f) m.since (c ∷ []))
        by false = ap (λ (h : Held T). record (replica_seen f m) { table = h }) (sym (tell_seen m.limit m.table c))
    moves_seen m overflows n s = (full_seen m ∙ s.0, ap (replica_seen f) s.1)
    moves_seen m (loses why) n s = ap (replica_seen f) s
    moves_seen m fails n s = (s.0, ap (replica_seen f) s.1, s.2)
