-- What a message's type says of its body, type by type.
use Rattle.nl_frame.proofs.Common.{◌≡◌, ℕ, ◌≤◌, Bool, true, false, ◌&&◌, ◌==◌, if◌then◌else◌, ltb, List, [], ◌∷◌, map, get_or, None, refl, sym, ap, ◌∙◌, inl, inr, arith, list_all, range_with_len, cases_lt, ne_eqb, ltb-true, Form, form_for, form_of}
use Rattle.std.proofs.lemmas.List.FromFn.{get_or-map-range_with_len}
use Rattle.nl_route.specs.Types.{types, under, route_type}
use Rattle.nl_route.specs.declared.family.RouteType.{RouteType}
use Rattle.nl_route.specs.declared.family.Family.TheVariants.{Link, Addr, Route, Neigh, Rule}
use Rattle.nl_frame.specs.declared.form.Form.TheVariants.{Noop, Error, Done, Overrun, Object, Get, Other}

-- the forms of a type of its own
abbrev pub forms : List (ℕ × Form)
forms =
    (1, Noop) ∷ (2, Error) ∷ (3, Done) ∷ (4, Overrun)
    ∷ (16, Object Link) ∷ (17, Object Link) ∷ (18, Get) ∷ (19, Object Link)
    ∷ (20, Object Addr) ∷ (21, Object Addr) ∷ (22, Get)
    ∷ (24, Object Route) ∷ (25, Object Route) ∷ (26, Get)
    ∷ (28, Object Neigh) ∷ (29, Object Neigh) ∷ (30, Get)
    ∷ (32, Object Rule) ∷ (33, Object Rule) ∷ (34, Get) ∷ []

-- what stands under a type, or Other
abbrev pub form_under : ℕ → List (ℕ × Form) → Form
form_under n [] = Other
form_under n (r ∷ rs) = if n == r.0 then r.1 else form_under n rs

-- all those types are below this
abbrev end : ℕ
end = 35

-- computed for each type below that
low_agree : map form_of (range_with_len 0 end) ≡ map (λ n. form_under n forms) (range_with_len 0 end)
unfolding route_type
low_agree = refl

-- nothing stands under a type that is above all others
no_form : (n : ℕ) (rs : List (ℕ × Form)) → list_all (λ r. ltb r.0 end) rs ≡ true → end ≤ n → form_under n rs ≡ Other
no_form n [] e l = refl
no_form n (r ∷ rs) e l = by (ltb r.0 end) refl e (λ f. no_form n rs f l)
  where
    by : (b : Bool) → ltb r.0 end ≡ b → (b && list_all (λ (s : ℕ × Form). ltb s.0 end) rs) ≡ true → (list_all (λ (s : ℕ × Form). ltb s.0 end) rs ≡ true → form_under n rs ≡ Other) → form_under n (r ∷ rs) ≡ Other
    by true is e none = rw (ne_eqb n r.0 (λ same. omega (arith, same, ltb-true r.0 end is, l))) (none e)
    by false is e none = cc

no_type : (n : ℕ) (rs : List (ℕ × RouteType)) → list_all (λ r. ltb r.0 end) rs ≡ true → end ≤ n → under n rs ≡ None
no_type n [] e l = refl
no_type n (r ∷ rs) e l = by (ltb r.0 end) refl e (λ f. no_type n rs f l)
  where
    by : (b : Bool) → ltb r.0 end ≡ b → (b && list_all (λ (s : ℕ × RouteType). ltb s.0 end) rs) ≡ true → (list_all (λ (s : ℕ × RouteType). ltb s.0 end) rs ≡ true → under n rs ≡ None) → under n (r ∷ rs) ≡ None
    by true is e none = rw (ne_eqb n r.0 (λ same. omega (arith, same, ltb-true r.0 end is, l))) (none e)
    by false is e none = cc

high_form : (n : ℕ) → end ≤ n → form_of n ≡ Other
unfolding route_type
high_form n high = ap (form_for n) (no_type n types refl high) ∙ rw (ne 1 refl, ne 2 refl, ne 3 refl, ne 4 refl) refl
  where
    ne : (m : ℕ) → ltb m end ≡ true → (n == m) ≡ false
    ne m e = ne_eqb n m (λ same. omega (arith, same, ltb-true m end e, high))

pub agree : (n : ℕ) → form_of n ≡ form_under n forms
agree n = elim (cases_lt n end) [
  | inl low ↦ sym (get_or-map-range_with_len form_of 0 end n n Other low (omega arith)) ∙ ap (λ t. get_or t n Other) low_agree ∙ get_or-map-range_with_len (λ k. form_under k forms) 0 end n n Other low (omega arith)
  | inr high ↦ high_form n high ∙ sym (no_form n forms refl high)
]
