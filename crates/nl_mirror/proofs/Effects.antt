-- What changes make of a table, as it is answered.
use Rattle.nl_mirror.proofs.Common.{◌≡◌, ◌==◌, ◌&&◌, ℕ, nat_lt, Bool, true, false, cond, Option, Some, None, is_some, unwrap_or, option_map, position, length, bytes_eq, List, ◌∷◌, map, Result, Ok, Err, refl, sym, ap, ◌∙◌, true≢false, arith, IfErr, IfOk, length-map, position_or_len, keys_of, lookup, Item, Content, Exchanges, Change, Now, Gone, Short, Stale, Held, of_now, of_gone, exchanged_effect, effect, effect_in, effect_of, effect_seen, by_doubt, MovesAll, Replicated, is_full, change_seen, held_seen, replica_seen, shortage, key_by, mirror_key}
use Rattle.std.proofs.lemmas.Bool.{ltb-false, ltb-true}
use Rattle.std.proofs.lemmas.Map.Made.{keys_of-map_values, lookup-map_values}
use Rattle.nl_table.specs.declared.put.Exchanged.{Exchanged}
use Rattle.nl_table.specs.declared.put.Exchanged.TheVariants.{Replaced, Added, Missed}
use Rattle.nl_table.proofs.Maps.{held-lookup}
use Rattle.nl_mirror.specs.declared.effect.Effect.{Effect}
use Rattle.nl_mirror.specs.declared.effect.Effect.TheVariants as effects
use Rattle.nl_mirror.specs.declared.short.Short.TheVariants as short
use Rattle.nl_mirror.proofs.Lifting.{full_seen}
use Rattle.nl_mirror.proofs.Hearings.{no_waiting}

-- a place that is found is that of the key
place_is : {K : Type 0} (t : K → Bool) (xs : List K) (i : ℕ) → position t xs ≡ Some i → i ≡ position_or_len t xs
place_is {K} t xs i found = by (nat_lt (position_or_len t xs) (length xs)) found
  where
    by : (b : Bool) → cond b (Some (position_or_len t xs)) None ≡ Some i → i ≡ position_or_len t xs
    by true h = sym (ap (λ o. unwrap_or o i) h)
    by false h = absurd (true≢false (sym (ap is_some h)))

none_is : {X : Type 0} (o : Option X) → is_some o ≡ false → o ≡ None
none_is (Some x) h = absurd (true≢false h)
none_is None h = refl

module _ {T : Type 0} (k : List ℕ) (before : Content T) where
  -- an exchange says what a NEW makes of a table
  pub exchange_is : (v : T) (r : Exchanged T) (after : Content T) → Exchanges before k v r after
      → exchanged_effect r ≡ of_now (lookup (bytes_eq k) before.entries) (position_or_len (bytes_eq k) (keys_of before.entries)) (length before.entries) before.limit
  exchange_is v (Replaced i x) after s =
      ap (λ (j : ℕ). effects.Changed j x) s.1.0 ∙ sym (ap (λ o. of_now o (position_or_len (bytes_eq k) (keys_of before.entries)) (length before.entries) before.limit) s.1.1)
  exchange_is v (Added i) after s =
      ap (λ (j : ℕ). effects.Added j) s.1 ∙ room (nat_lt (length before.entries) before.limit) refl
      ∙ sym (ap (λ o. of_now o (position_or_len (bytes_eq k) (keys_of before.entries)) (length before.entries) before.limit) new)
    where
      new : lookup (bytes_eq k) before.entries ≡ None
      new = none_is (lookup (bytes_eq k) before.entries) (held-lookup (bytes_eq k) before.entries ∙ s.0.0)

      added : Effect T
      added = effects.Added (length before.entries)

      room : (b : Bool) → nat_lt (length before.entries) before.limit ≡ b → added ≡ cond b (effects.Added (length before.entries)) effects.Nothing
      room true e = refl
      room false e = let no : ⊥ = omega (arith, ltb-false (length before.entries) before.limit e, s.0.1) in absurd no
  exchange_is v Missed after s =
      full (nat_lt (length before.entries) before.limit) refl
      ∙ sym (ap (λ o. of_now o (position_or_len (bytes_eq k) (keys_of before.entries)) (length before.entries) before.limit) new)
    where
      new : lookup (bytes_eq k) before.entries ≡ None
      new = none_is (lookup (bytes_eq k) before.entries) (held-lookup (bytes_eq k) before.entries ∙ s.0.0)

      nothing : Effect T
      nothing = effects.Nothing

      full : (b : Bool) → nat_lt (length before.entries) before.limit ≡ b → nothing ≡ cond b (effects.Added (length before.entries)) nothing
      full false e = refl
      full true e = let no : ⊥ = omega (arith, ltb-true (length before.entries) before.limit e, s.0.1) in absurd no

-- what a change makes of a table is seen through what its entries stand for
module _ {S T : Type 0} (f : S → T) where
  now_seen : (o : Option S) (place n limit : ℕ) → effect_seen f (of_now o place n limit) ≡ of_now (option_map f o) place n limit
  now_seen (Some x) place n limit = refl
  now_seen None place n limit = by (nat_lt n limit)
    where
      by : (b : Bool) → effect_seen f (cond b (effects.Added n) effects.Nothing) ≡ cond b (effects.Added n) effects.Nothing
      by true = refl
      by false = refl

  gone_seen : (o : Option S) (place : ℕ) → effect_seen f (of_gone o place) ≡ of_gone (option_map f o) place
  gone_seen (Some x) place = refl
  gone_seen None place = refl

  module _ (mine : S → List ℕ) (theirs : T → List ℕ) (same : (x : S) → theirs (f x) ≡ mine x) where
    effect_is_seen : (limit : ℕ) (h : Held S) (c : Change S) → effect_seen f (effect mine limit h c) ≡ effect theirs limit (held_seen f h) (change_seen f c)
    effect_is_seen limit h (Now x) = now_seen (lookup (bytes_eq (mine x)) h.entries) (position_or_len (bytes_eq (mine x)) (keys_of h.entries)) (length h.entries) limit ∙ through
      where
        g : List ℕ × S → List ℕ × T
        g e = (e.0, f e.1)

        through : of_now (option_map f (lookup (bytes_eq (mine x)) h.entries)) (position_or_len (bytes_eq (mine x)) (keys_of h.entries)) (length h.entries) limit
            ≡ of_now (lookup (bytes_eq (theirs (f x))) (map g h.entries)) (position_or_len (bytes_eq (theirs (f x))) (keys_of (map g h.entries))) (length (map g h.entries)) limit
        through =
            ap (λ o. of_now o (position_or_len (bytes_eq (mine x)) (keys_of h.entries)) (length h.entries) limit) (sym (lookup-map_values f (bytes_eq (mine x)) h.entries))
            ∙ ap (λ ks. of_now (lookup (bytes_eq (mine x)) (map g h.entries)) (position_or_len (bytes_eq (mine x)) ks) (length h.entries) limit) (sym (keys_of-map_values f h.entries))
            ∙ ap (λ n. of_now (lookup (bytes_eq (mine x)) (map g h.entries)) (position_or_len (bytes_eq (mine x)) (keys_of (map g h.entries))) n limit) (sym (length-map h.entries g))
            ∙ ap (λ k. of_now (lookup (bytes_eq k) (map g h.entries)) (position_or_len (bytes_eq k) (keys_of (map g h.entries))) (length (map g h.entries)) limit) (sym (same x))
    effect_is_seen limit h (Gone x) = gone_seen (lookup (bytes_eq (mine x)) h.entries) (position_or_len (bytes_eq (mine x)) (keys_of h.entries)) ∙ through
      where
        g : List ℕ × S → List ℕ × T
        g e = (e.0, f e.1)

        through : of_gone (option_map f (lookup (bytes_eq (mine x)) h.entries)) (position_or_len (bytes_eq (mine x)) (keys_of h.entries))
            ≡ of_gone (lookup (bytes_eq (theirs (f x))) (map g h.entries)) (position_or_len (bytes_eq (theirs (f x))) (keys_of (map g h.entries)))
        through =
            ap (λ o. of_gone o (position_or_len (bytes_eq (mine x)) (keys_of h.entries))) (sym (lookup-map_values f (bytes_eq (mine x)) h.entries))
            ∙ ap (λ ks. of_gone (lookup (bytes_eq (mine x)) (map g h.entries)) (position_or_len (bytes_eq (mine x)) ks)) (sym (keys_of-map_values f h.entries))
            ∙ ap (λ k. of_gone (lookup (bytes_eq k) (map g h.entries)) (position_or_len (bytes_eq k) (keys_of (map g h.entries)))) (sym (same x))

    pub effect_in_seen : (m : Replicated S) (c : Change S) → effect_seen f (effect_in mine m c) ≡ effect_in theirs (replica_seen f m) (change_seen f c)
    effect_in_seen m c = by m.dumps
      where
        by : (b : Bool) → effect_seen f (cond b effects.Waits (effect mine m.limit m.table c)) ≡ cond b effects.Waits (effect theirs m.limit (held_seen f m.table) (change_seen f c))
        by true = refl
        by false = effect_is_seen m.limit m.table c

-- what is told beside the dump that runs
pub beside_effect : {T E : Type 0} (item : T → Item) (r : Result (Effect T) E) (m : Replicated T) (c : Change T) (o : Option (Change Item)) → Some (change_seen item c) ≡ o
    → IfOk r (λ e. e ≡ effect_in (key_by item m.order) m c) → IfOk r (λ e. effect_seen item e ≡ effect_of o (replica_seen item m))
beside_effect item (Ok e) m c o is s =
    ap (effect_seen item) s ∙ effect_in_seen item (key_by item m.order) (mirror_key m.order) (λ x. refl) m c ∙ ap (λ o. effect_of o (replica_seen item m)) is
beside_effect item (Err x) m c o is s = tt

-- a dump runs where as many wait as may
dumps_full : {T : Type 0} (m : Replicated T) → is_full m ≡ true → m.dumps ≡ true
dumps_full m = by m.dumps (length m.since == m.waiting)
  where
    by : (b c : Bool) → (b && c) ≡ true → b ≡ true
    by true c s = refl
    by false c s = s

-- what finds no room would wait
pub beside_room : {T A : Type 0} (item : T → Item) (r : Result A Short) (m n : Replicated T) (c : Change T) (d : Option Stale) (o : Option (Change Item)) → Some (change_seen item c) ≡ o
    → IfErr r (λ e. MovesAll (key_by item m.order) m (shortage e ∷ by_doubt d) n)
    → IfErr r (λ e. e ≡ short.Waiting → (effect_of o (replica_seen item m) ≡ effects.Waits) × (is_full (replica_seen item m) ≡ true))
beside_room item (Ok x) m n c d o is s = tt
beside_room item (Err short.Memory) m n c d o is s = λ w. no_waiting (sym w)
beside_room {T} item (Err short.Waiting) m n c d o is s = λ w. (
  sym (ap (λ o. effect_of o (replica_seen item m)) is)
      ∙ ap (λ b. cond b waits (effect (mirror_key m.order) m.limit (replica_seen item m).table (change_seen item c))) (dumps_full m s.1.0),
  full_seen item m ∙ s.1.0,
)
  where
    waits : Effect Item
    waits = effects.Waits

-- and where there is room it was memory
pub beside_memory : {T A : Type 0} (item : T → Item) (r : Result A Short) (m : Replicated T) → IfErr r (λ e. e ≡ short.Memory → is_full m ≡ false)
    → IfErr r (λ e. e ≡ short.Memory → is_full (replica_seen item m) ≡ false)
beside_memory item (Ok x) m s = tt
beside_memory item (Err e) m s = λ same. full_seen item m ∙ s same
