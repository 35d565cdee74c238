-- A list is that of its elements, each read at its place.
use Rattle.std.proofs.Common.{◌≡◌, ℕ, zero, suc, List, [], ◌∷◌, length, slice_index_or, refl, ap, subst, ◌∙◌}

-- so many elements from a place on
abbrev pub elements : ℕ → ℕ → List ℕ → List ℕ
elements i zero xs = []
elements i (suc n) xs = slice_index_or xs i 0 ∷ elements (suc i) n xs

elements_behind : (n i x : ℕ) (xs : List ℕ) → elements (suc i) n (x ∷ xs) ≡ elements i n xs
elements_behind zero i x xs = refl
elements_behind (suc n) i x xs = ap (λ ys. slice_index_or xs i 0 ∷ ys) (elements_behind n (suc i) x xs)

pub all_elements : (xs : List ℕ) → elements 0 (length xs) xs ≡ xs
all_elements [] = refl
all_elements (x ∷ xs) = ap (λ ys. x ∷ ys) (elements_behind (length xs) 0 x xs ∙ all_elements xs)

-- where it is known how many there are
pub so_many_elements : (n : ℕ) (xs : List ℕ) → length xs ≡ n → elements 0 n xs ≡ xs
so_many_elements n xs e = subst (λ k. elements 0 k xs ≡ xs) e (all_elements xs)
