use Rattle.std.proofs.Common.{◌≡◌, ℕ, true, false, List, [], ◌∷◌, ◌++◌, ap, sym, ◌∙◌, append_assoc, append-nil}
use Rattle.rtnl.proofs.Common.{join_with_byte, rest_text}

joined : (name : List ℕ) (names : List (List ℕ)) → join_with_byte 44 (name ∷ names) ≡ name ++ rest_text true names
joined name [] = sym (append-nil name)
joined name (next ∷ names) = ap (λ t. name ++ (44 ∷ t)) (joined next names)

pub first_name : (front name : List ℕ) (names : List (List ℕ)) →
    front ++ rest_text false (name ∷ names) ≡ (front ++ name) ++ rest_text true names
first_name front name names = ap (λ t. front ++ t) (joined name names) ∙ sym (append_assoc front name (rest_text true names))

pub next_name : (front name : List ℕ) (names : List (List ℕ)) →
    front ++ rest_text true (name ∷ names) ≡ ((front ++ 44 ∷ []) ++ name) ++ rest_text true names
next_name front name names =
    sym (append_assoc (front ++ 44 ∷ []) name (rest_text true names) ∙ append_assoc front (44 ∷ []) (name ++ rest_text true names))
