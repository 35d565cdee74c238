-- Extents of parts, put together.
use Rattle.nl_attr.proofs.Common.{◌≡◌, ℕ, zero, suc, ◌+◌, ◌-◌, ◌<◌, ◌≤◌, Bool, true, false, cond, ltb, ◌||◌, List, [], ◌∷◌, length, drop, get_or, Option, Some, None, refl, sym, ap, subst, ◌∙◌, arith, add_assoc, le-ltb, lt-ltb, ltb-true, ltb-false, IfSome, LONGEST_REGION, Ctx, Route, Extent, Items, no_items, item, HopItems, no_hops, hop, holds_of, region_len, empty_extent, join, extent_of_item, extent_of_val, extent_of, extent_of_hops}
use Rattle.std.proofs.Math.Seq.{drop-cons, drop-nil}

abbrev pub IsWithin : Option ℕ → Type 0
IsWithin None = Unit {0}
IsWithin (Some n) = n ≤ LONGEST_REGION

lt_cases : (n : ℕ) → IsWithin (cond (ltb LONGEST_REGION n) None (Some n))
lt_cases n = elim (ltb LONGEST_REGION n) as (λ b. ltb LONGEST_REGION n ≡ b → IsWithin (cond b None (Some n))) [ true ↦ λ e. tt | false ↦ λ e. ltb-false _ _ e ] refl

pub region_within : (a b : Option ℕ) → IsWithin (region_len a b)
region_within None b = tt
region_within (Some a) None = tt
region_within (Some a) (Some b) = lt_cases (a + b)

pub region_zero : (b : Option ℕ) → IsWithin b → region_len (Some 0) b ≡ b
region_zero None h = refl
region_zero (Some b) h = let e : ltb LONGEST_REGION (0 + b) ≡ false = le-ltb LONGEST_REGION (0 + b) (omega (arith, h)) in rw e (ap (λ n. Some n) (omega arith))

pub region_last : (b : Option ℕ) → IsWithin b → region_len b (Some 0) ≡ b
region_last None h = refl
region_last (Some b) h = let e : ltb LONGEST_REGION (b + 0) ≡ false = le-ltb LONGEST_REGION (b + 0) (omega (arith, h)) in rw e (ap (λ n. Some n) (omega arith))

pub region_assoc : (a b c : Option ℕ) → region_len (region_len a b) c ≡ region_len a (region_len b c)
region_assoc None b c = refl
region_assoc (Some a) None c = refl
region_assoc (Some a) (Some b) None = elim (ltb LONGEST_REGION (a + b)) as (λ t. region_len (cond t None (Some (a + b))) None ≡ None) [ true ↦ refl | false ↦ refl ]
region_assoc (Some a) (Some b) (Some c) = three (ltb LONGEST_REGION (a + b)) (ltb LONGEST_REGION (b + c)) refl refl where
  three : (s t : Bool) → ltb LONGEST_REGION (a + b) ≡ s → ltb LONGEST_REGION (b + c) ≡ t → region_len (cond s None (Some (a + b))) (Some c) ≡ region_len (Some a) (cond t None (Some (b + c)))
  three true true e f = refl
  three true false e f = let g : ltb LONGEST_REGION (a + (b + c)) ≡ true = lt-ltb LONGEST_REGION (a + (b + c)) (omega (arith, ltb-true _ _ e)) in rw g refl
  three false true e f = let g : ltb LONGEST_REGION (a + b + c) ≡ true = lt-ltb LONGEST_REGION (a + b + c) (omega (arith, ltb-true _ _ f)) in rw g refl
  three false false e f = ap (λ n. cond (ltb LONGEST_REGION n) None (Some n)) (add_assoc a b c)

extent_is : (d f : Bool) (a b : Option ℕ) → d ≡ f → a ≡ b → ◌≡◌ {A = Extent} (record { deep = d; len = a }) (record { deep = f; len = b })
extent_is d f a b p q = cc

or_assoc : (a b c : Bool) → ((a || b) || c) ≡ (a || (b || c))
or_assoc true b c = refl
or_assoc false b c = refl

or_false : (a : Bool) → (a || false) ≡ a
or_false true = refl
or_false false = refl

pub join_assoc : (a b c : Option Extent) → join (join a b) c ≡ join a (join b c)
join_assoc None b c = refl
join_assoc (Some a) None c = refl
join_assoc (Some a) (Some b) None = refl
join_assoc (Some a) (Some b) (Some c) = ap (λ e. Some e) (extent_is _ _ _ _ (or_assoc a.deep b.deep c.deep) (region_assoc a.len b.len c.len))

join_within : (a b : Option Extent) → IfSome (join a b) (λ e. IsWithin e.len)
join_within None b = tt
join_within (Some a) None = tt
join_within (Some a) (Some b) = region_within a.len b.len

pub list_within : (is : Items) (ctx : Ctx) (room : ℕ) → IfSome (extent_of is ctx room) (λ e. IsWithin e.len)
list_within no_items ctx room = omega arith
list_within (item n flags v more) ctx room = join_within (cond (ltb 16383 n) None (extent_of_item 4 (extent_of_val v (holds_of ctx n flags) room))) (extent_of more ctx room)

pub hops_within : (hs : HopItems) (room : ℕ) → IfSome (extent_of_hops hs room) (λ e. IsWithin e.len)
hops_within no_hops room = omega arith
hops_within (hop flags count index attrs more) room = join_within (extent_of_item 8 (extent_of attrs Route (room - 1))) (extent_of_hops more room)

pub join_empty : (b : Option Extent) → IfSome b (λ e. IsWithin e.len) → join (Some empty_extent) b ≡ b
join_empty None h = refl
join_empty (Some b) h = ap (λ e. Some e) (extent_is _ _ _ _ refl (region_zero b.len h))

pub join_last : (e : Extent) → IsWithin e.len → join (Some e) (Some empty_extent) ≡ Some e
join_last e h = ap (λ x. Some x) (extent_is _ _ _ _ (or_false e.deep) (region_last e.len h))

-- one more part in front of the rest
pub joined_on : (all e new : Extent) (rest whole part : Option Extent) → part ≡ join (Some e) rest → Some new ≡ join (Some all) (Some e) → join (Some all) part ≡ whole → join (Some new) rest ≡ whole
joined_on all e new rest whole part p q h = ap (λ x. join x rest) q ∙ join_assoc (Some all) (Some e) rest ∙ ap (join (Some all)) (sym p) ∙ h

pub joined_within : (all e new : Extent) → Some new ≡ join (Some all) (Some e) → IsWithin new.len
joined_within all e new q = subst (λ o. IfSome o (λ x. IsWithin x.len)) (sym q) (join_within (Some all) (Some e))

-- the elements from a place on are the one there and those behind it
pub from_place : {A : Type 0} (xs : List A) (i : ℕ) (x : A) → i < length xs → x ≡ get_or xs i x → drop i xs ≡ x ∷ drop (i + 1) xs
from_place xs i x h e = let f : suc i ≡ i + 1 = omega arith in drop-cons xs i x h ∙ ap (λ y. y ∷ drop (suc i) xs) (sym e) ∙ ap (λ n. x ∷ drop n xs) f

pub past_end : {A : Type 0} (xs : List A) (i : ℕ) → length xs ≤ i → drop i xs ≡ []
past_end [] i h = drop-nil i
past_end (x ∷ xs) zero h = absurd (omega arith)
past_end (x ∷ xs) (suc i) h = past_end xs i (omega arith)
