-- What a table that changes were told to has under a key.
use Rattle.nl_mirror.proofs.Common.{◌≡◌, ℕ, ◌+◌, ◌-◌, ◌^◌, Bool, true, false, cond, min, nat_lt, List, [], ◌∷◌, ◌++◌, map, take, zero, suc, length, bytes_eq, Option, Some, None, IsSome, position, slice_get, get_or, ◌<◌, refl, sym, ap, ◌∙◌, subst, arith, keys_of, set_value, lookup, map-append, holds_key, Change, Now, Gone, Held, nothing, put, tell, tell_all}
use Rattle.std.specs.List.{list_any, IsDistinct}
use Rattle.std.proofs.lemmas.Option.{slice_get-get_or}
use Rattle.indexmap.specs.IndexMap.{swap_remove_entry}
use Rattle.indexmap.proofs.MapLemmas.{Found-position, swap_remove_entry-found, swap_remove_entry-missing}
use Rattle.indexmap.proofs.RemoveLemmas.{none_out, swap_out}
use Rattle.std.proofs.lemmas.Grind.{common_steps}
use Rattle.std.proofs.lemmas.Map.{lookup-set_value, keys-set_value}
use Rattle.std.proofs.lemmas.Map.Keys.{IsDistinct-push}
use Rattle.std.proofs.lemmas.Cmp.{nat_list_eq_equiv}
use Rattle.std.proofs.lemmas.Slice.Eq.{bytes_eq-Decides}
use Rattle.nl_table.proofs.FirstKeys.{bytes_eq-sym}
use Rattle.nl_table.proofs.Maps.{held-lookup}
use Rattle.nl_mirror.specs.Converging.{last_told, Converges}

module _ {T : Type 0} where
  lookup_pushed : (k q : List ℕ) (v : T) (es : List (List ℕ × T)) → list_any (bytes_eq k) (keys_of es) ≡ false
      → lookup (bytes_eq q) (es ++ (k, v) ∷ []) ≡ cond (bytes_eq q k) (Some v) (lookup (bytes_eq q) es)
  lookup_pushed k q v [] n = refl
  lookup_pushed k q v (e ∷ es) n = grind (arith, common_steps, lookup_pushed k q v es, bytes_eq-Decides q e.0, bytes_eq-Decides q k, bytes_eq-Decides k e.0)

  distinct_pushed : (k : List ℕ) (v : T) (es : List (List ℕ × T)) → list_any (bytes_eq k) (keys_of es) ≡ false → IsDistinct bytes_eq (keys_of es) → IsDistinct bytes_eq (keys_of (es ++ (k, v) ∷ []))
  distinct_pushed k v es n d = subst (IsDistinct bytes_eq) (sym (map-append (λ (p : List ℕ × T). p.0) es ((k, v) ∷ []))) (IsDistinct-push nat_list_eq_equiv (keys_of es) k d n)

  lookup_set : (k q : List ℕ) (v : T) (es : List (List ℕ × T)) → list_any (bytes_eq k) (keys_of es) ≡ true
      → lookup (bytes_eq q) (set_value (bytes_eq k) es v) ≡ cond (bytes_eq q k) (Some v) (lookup (bytes_eq q) es)
  lookup_set k q v es h =
      lookup-set_value nat_list_eq_equiv (bytes_eq k) (nat_list_eq_equiv.congr k) q v es (found h) ∙ ap (λ b. cond b (Some v) (lookup (bytes_eq q) es)) (bytes_eq-sym k q)
    where
      found : list_any (bytes_eq k) (keys_of es) ≡ true → IsSome (lookup (bytes_eq k) es)
      found h = grind (arith, common_steps, held-lookup (bytes_eq k) es)

  -- of a removal, what is found then, and that no key is there twice
  removed : (k : List ℕ) (es : List (List ℕ × T)) → IsDistinct bytes_eq (keys_of es)
      → ((q : List ℕ) → lookup (bytes_eq q) (swap_remove_entry (bytes_eq k) es) ≡ cond (bytes_eq q k) None (lookup (bytes_eq q) es)) × IsDistinct bytes_eq (keys_of (swap_remove_entry (bytes_eq k) es))
  removed k es d = by (position (bytes_eq k) (keys_of es)) refl
    where
      turned : (q : List ℕ) → cond (bytes_eq k q) None (lookup (bytes_eq q) es) ≡ cond (bytes_eq q k) None (lookup (bytes_eq q) es)
      turned q = ap (λ b. cond b None (lookup (bytes_eq q) es)) (bytes_eq-sym k q)

      by : (r : Option ℕ) → position (bytes_eq k) (keys_of es) ≡ r
          → ((q : List ℕ) → lookup (bytes_eq q) (swap_remove_entry (bytes_eq k) es) ≡ cond (bytes_eq q k) None (lookup (bytes_eq q) es)) × IsDistinct bytes_eq (keys_of (swap_remove_entry (bytes_eq k) es))
      by None h =
          let same = swap_remove_entry-missing (bytes_eq k) es h in
          let out = none_out bytes_eq nat_list_eq_equiv (bytes_eq k) (nat_list_eq_equiv.congr k) es (swap_remove_entry (bytes_eq k) es) h same in
          (λ q. out.0 q ∙ turned q, subst (λ l. IsDistinct bytes_eq (keys_of l)) (sym same) d)
      by (Some i) h =
          let p = found_at es i (within es i h) in
          let same = swap_remove_entry-found (bytes_eq k) es i p.0 h in
          let out = swap_out bytes_eq nat_list_eq_equiv (bytes_eq k) (nat_list_eq_equiv.congr k) es i p.0 h p.1 d (swap_remove_entry (bytes_eq k) es) same in
          (λ q. out.updated.0 q ∙ turned q, out.unique)
        where
          within : (es : List (List ℕ × T)) (i : ℕ) → position (bytes_eq k) (keys_of es) ≡ Some i → i < length es
          within es i h = (Found-position (bytes_eq k) es i h).within

          found_at : (es : List (List ℕ × T)) (i : ℕ) → i < length es → (p : List ℕ × T) × (slice_get es i ≡ Some p)
          found_at [] i lt = absurd (omega arith)
          found_at (e ∷ es) i lt = (get_or (e ∷ es) i e, slice_get-get_or (e ∷ es) i e lt)

  -- where nothing was missed, an entry was put under its key
  pub record Tells (q : List ℕ) (before : Held T) (o : Option T) (after : Held T) : Type 0 where
    pub finds : lookup (bytes_eq q) after.entries ≡ o
    pub distinct : IsDistinct bytes_eq (keys_of after.entries)
    pub none : before.missed ≡ 0

  put_finds : (limit : ℕ) (h : Held T) (k q : List ℕ) (v : T) → IsDistinct bytes_eq (keys_of h.entries) → (put limit h k v).missed ≡ 0
      → Tells q h (cond (bytes_eq q k) (Some v) (lookup (bytes_eq q) h.entries)) (put limit h k v)
  put_finds limit h k q v d m = by (holds_key k h.entries) refl (nat_lt (length h.entries) limit) m
    where
      by : (a : Bool) → holds_key k h.entries ≡ a → (b : Bool)
          → (cond a (record h { entries = set_value (bytes_eq k) h.entries v }) (cond b (record h { entries = h.entries ++ (k, v) ∷ [] }) (record h { missed = min (h.missed + 1) (2 ^ 64 - 1) }))).missed ≡ 0
          → Tells q h (cond (bytes_eq q k) (Some v) (lookup (bytes_eq q) h.entries))
          (cond a (record h { entries = set_value (bytes_eq k) h.entries v }) (cond b (record h { entries = h.entries ++ (k, v) ∷ [] }) (record h { missed = min (h.missed + 1) (2 ^ 64 - 1) })))
      by true e b m = record { finds = lookup_set k q v h.entries e; distinct = subst (IsDistinct bytes_eq) (sym (keys-set_value (bytes_eq k) h.entries v)) d; none = m }
      by false e true m = record { finds = lookup_pushed k q v h.entries e; distinct = distinct_pushed k v h.entries e d; none = m }
      by false e false m = absurd (omega (arith, m))

module _ {T : Type 0} (key : T → List ℕ) (limit : ℕ) where
  tell_finds : (h : Held T) (c : Change T) (q : List ℕ) → IsDistinct bytes_eq (keys_of h.entries) → (tell key limit h c).missed ≡ 0
      → Tells q h (last_told key q (c ∷ []) (lookup (bytes_eq q) h.entries)) (tell key limit h c)
  tell_finds h (Now x) q d m = put_finds limit h (key x) q x d m
  tell_finds h (Gone x) q d m = let out = removed (key x) h.entries d in record { finds = out.0 q; distinct = out.1; none = m }

  last_step : (q : List ℕ) (c : Change T) (cs : List (Change T)) (o : Option T) → last_told key q (c ∷ cs) o ≡ last_told key q cs (last_told key q (c ∷ []) o)
  last_step q (Now x) cs o = refl
  last_step q (Gone x) cs o = refl

  -- changes that missed nothing missed nothing at first
  none_before : (h : Held T) (cs : List (Change T)) → (tell_all key limit h cs).missed ≡ 0 → h.missed ≡ 0
  none_before h [] m = m
  none_before h (Now x ∷ cs) m = put_none (none_before (tell key limit h (Now x)) cs m)
    where
      put_none : (put limit h (key x) x).missed ≡ 0 → h.missed ≡ 0
      put_none m = by (holds_key (key x) h.entries) (nat_lt (length h.entries) limit) m
        where
          by : (a b : Bool)
              → (cond a (record h { entries = set_value (bytes_eq (key x)) h.entries x }) (cond b (record h { entries = h.entries ++ (key x, x) ∷ [] }) (record h { missed = min (h.missed + 1) (2 ^ 64 - 1) }))).missed ≡ 0
              → h.missed ≡ 0
          by true b m = m
          by false true m = m
          by false false m = absurd (omega (arith, m))
  none_before h (Gone x ∷ cs) m = none_before (tell key limit h (Gone x)) cs m

  pub all_found : (h : Held T) (cs : List (Change T)) (q : List ℕ) → IsDistinct bytes_eq (keys_of h.entries) → (tell_all key limit h cs).missed ≡ 0
      → lookup (bytes_eq q) (tell_all key limit h cs).entries ≡ last_told key q cs (lookup (bytes_eq q) h.entries)
  all_found h [] q d m = refl
  all_found h (c ∷ cs) q d m =
      let here = tell_finds h c q d (none_before (tell key limit h c) cs m) in
      all_found (tell key limit h c) cs q here.distinct m ∙ ap (last_told key q cs) here.finds ∙ sym (last_step q c cs (lookup (bytes_eq q) h.entries))

  last-append : (q : List ℕ) (cs ds : List (Change T)) (o : Option T) → last_told key q (cs ++ ds) o ≡ last_told key q ds (last_told key q cs o)
  last-append q [] ds o = refl
  last-append q (Now x ∷ cs) ds o = last-append q cs ds (cond (bytes_eq q (key x)) (Some x) o)
  last-append q (Gone x ∷ cs) ds o = last-append q cs ds (cond (bytes_eq q (key x)) None o)

  -- what was told first of some changes is told again by all of them
  again : (q : List ℕ) (n : ℕ) (cs : List (Change T)) (o : Option T) → last_told key q cs (last_told key q (take n cs) o) ≡ last_told key q cs o
  again q zero cs o = refl
  again q (suc n) [] o = refl
  again q (suc n) (Now x ∷ cs) o = by (bytes_eq q (key x)) (again q n cs o)
    where
      by : (b : Bool) → last_told key q cs (last_told key q (take n cs) o) ≡ last_told key q cs o → last_told key q cs (cond b (Some x) (last_told key q (take n cs) (cond b (Some x) o))) ≡ last_told key q cs (cond b (Some x) o)
      by true r = refl
      by false r = r
  again q (suc n) (Gone x ∷ cs) o = by (bytes_eq q (key x)) (again q n cs o)
    where
      by : (b : Bool) → last_told key q cs (last_told key q (take n cs) o) ≡ last_told key q cs o → last_told key q cs (cond b None (last_told key q (take n cs) (cond b None o))) ≡ last_told key q cs (cond b None o)
      by true r = refl
      by false r = r

  pub converges : Converges key limit
  unfolding IsDistinct
  converges start cs items amid m q =
      let a = amid q in
      all_found nothing (map Now items ++ cs) q tt m ∙ last-append q (map Now items) cs None ∙ ap (last_told key q cs) a.1 ∙ again q a.0 cs (start q)
