-- A fourth of a message type, and what is left, say what the table of types does.
use Rattle.std.proofs.Common.{◌≡◌, ℕ, ◌*◌, ◌/◌, ◌%◌, ◌≤◌, Bool, true, false, ◌&&◌, ltb, List, [], ◌∷◌, map, get_or, None, refl, sym, ap, ◌∙◌, inl, inr, arith}
use Rattle.std.specs.List.{list_all, range_with_len}
use Rattle.std.proofs.Math.Nat.{le-div_iff_mul-le}
use Rattle.std.proofs.lemmas.Bool.{cases_lt, ne_eqb, ltb-true}
use Rattle.std.proofs.lemmas.List.FromFn.{get_or-map-range_with_len}
use Rattle.nl_route.specs.Types.{types, under, route_type}
use Rattle.nl_route.specs.Parts.{fourths, verb_at, type_in, by_fourth}

-- a fourth of each family's types is below this
abbrev end : ℕ
end = 9

-- computed for each type below four times that
low_agree : map route_type (range_with_len 0 (end * 4)) ≡ map by_fourth (range_with_len 0 (end * 4))
unfolding route_type
low_agree = refl

-- nothing stands under a number that is above all others
none_above : {X : Type 0} (m n : ℕ) (rs : List (ℕ × X)) → list_all (λ r. ltb r.0 m) rs ≡ true → m ≤ n → under n rs ≡ None
none_above m n [] e l = refl
none_above {X} m n (r ∷ rs) e l = by (ltb r.0 m) refl e (λ f. none_above m n rs f l)
  where
    by : (b : Bool) → ltb r.0 m ≡ b → (b && list_all (λ (s : ℕ × X). ltb s.0 m) rs) ≡ true → (list_all (λ (s : ℕ × X). ltb s.0 m) rs ≡ true → under n rs ≡ None) → under n (r ∷ rs) ≡ None
    by true is e none = rw (ne_eqb n r.0 (λ same. omega (arith, same, ltb-true r.0 m is, l))) (none e)
    by false is e none = cc

pub agree : (n : ℕ) → route_type n ≡ by_fourth n
unfolding route_type
agree n = elim (cases_lt n (end * 4)) [
  | inl low ↦ sym (get_or-map-range_with_len route_type 0 (end * 4) n n None low (omega arith)) ∙ ap (λ t. get_or t n None) low_agree ∙ get_or-map-range_with_len by_fourth 0 (end * 4) n n None low (omega arith)
  | inr high ↦ none_above (end * 4) n types refl high ∙ sym (ap (λ o. type_in o (verb_at (n % 4))) (none_above end (n / 4) fourths refl (fourth high)))
]
  where
    fourth : end * 4 ≤ n → end ≤ n / 4
    fourth high = (le-div_iff_mul-le {k = 4} {x = end} {y = n} (omega arith)).1 high
