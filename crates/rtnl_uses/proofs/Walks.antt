-- What a walk over attributes has given so far, and that it ends with its fault.
use Rattle.std.proofs.Common.{◌≡◌, ◌+◌, ◌≤◌, ◌==◌, ℕ, List, [], ◌∷◌, ◌++◌, length, map, count_by, cond, Bool, true, Some, Result, Ok, Err, refl, sym, ap, subst, ◌∙◌, eq-eqb, length-drop, arith}
use Rattle.std.proofs.Math.Nat.{min-le_right}
use Rattle.std.proofs.lemmas.List.{map_push}
use Rattle.std.proofs.lemmas.List.Sums.{sum_by_push}
use Rattle.std.specs.Iterator.{Yields, Drains}
use Rattle.nl_attr.specs.declared.fault.Fault.{Fault}
use Rattle.nl_attr.specs.declared.walk.attrs.Part.{Part}
use Rattle.nl_attr.specs.Numbers.{aligned, len_of, span_of}
use Rattle.nl_attr.specs.Walk.{Region, GivesPart}

went_on : (s t u : Region) (xs : List (Result Part Fault)) (x : Result Part Fault) → Yields GivesPart s xs t → GivesPart t (Some x) u → Yields GivesPart s (xs ++ x ∷ []) u
went_on s t u [] x y g = (u, subst (λ (r : Region). GivesPart r (Some x) u) (sym y) g, refl)
went_on s t u (_ ∷ xs) x y g = (y.0, y.1, went_on y.0 t u xs x y.2 g)

-- behind a fault nothing comes
pub ends_at_fault : (s t u : Region) (xs : List (Result Part Fault)) (f : Fault) → Yields GivesPart s xs t → GivesPart t (Some (Err f)) u → Drains GivesPart s (xs ++ Err f ∷ [])
ends_at_fault s t u xs f y g = (u, (u, went_on s t u xs (Err f) y g, (ap (λ (r : Region). r.left) g.3, refl)))

-- what is left behind an attribute lies in the bytes, as what was left before it
pub stays_within : (r s : Region) (p : Part) (size : ℕ) → GivesPart r (Some (Ok p)) s → r.place + length r.left ≤ size → s.place + length s.left ≤ size
stays_within r s p size g within =
    let n = span_of r.order 2 r.left in
    rw g.3 (omega (arith, within, length-drop n r.left, min-le_right (aligned (len_of r.order 2 r.left)) (length r.left)))

-- what came is attributes, of which so many have this number
abbrev pub Counts : List (Result Part Fault) → ℕ → ℕ → Type 0
Counts came number count = (parts : List Part) × (came ≡ map (λ p. Ok p) parts) × (count ≡ count_by (λ p. p.number == number) parts)

count_push : (q : Part → Bool) (xs : List Part) (x : Part) → count_by q (xs ++ x ∷ []) ≡ count_by q xs + cond (q x) 1 0
count_push q xs x = sum_by_push _ xs x

pub counts_one_more : (came : List (Result Part Fault)) (number count : ℕ) (p : Part) → p.number ≡ number → Counts came number count → Counts (came ++ Ok p ∷ []) number (count + 1)
counts_one_more came number count p e k =
    let test : (p.number == number) ≡ true = eq-eqb _ _ e in
    (k.0 ++ p ∷ [], ap (λ x. x ++ Ok p ∷ []) k.1 ∙ sym (map_push (λ q. Ok q) k.0 p), rw count_push (grind arith))

pub counts_no_more : (came : List (Result Part Fault)) (number count : ℕ) (p : Part) → (p.number ≡ number → ⊥) → Counts came number count → Counts (came ++ Ok p ∷ []) number count
counts_no_more came number count p e k =
    (k.0 ++ p ∷ [], ap (λ x. x ++ Ok p ∷ []) k.1 ∙ sym (map_push (λ q. Ok q) k.0 p), rw count_push (grind arith))
