-- A text in parts.
use Rattle.std.proofs.Common.{◌≡◌, ◌+◌, ◌<◌, ℕ, List, [], ◌∷◌, ◌++◌, get_or, take, drop, length, sym, ap, ◌∙◌, append-nil}
use Rattle.std.specs.Global.{Vec}
use Rattle.rtnl.proofs.Common.{flat_map-append, take_more, take-append-drop, joined}

-- a part more
pub joined_more : (parts : List (Vec ℕ)) (part : Vec ℕ) → joined (parts ++ part ∷ []) ≡ joined parts ++ part.items
joined_more parts part = flat_map-append (λ (p : Vec ℕ). p.items) parts (part ∷ []) ∙ ap (λ t. joined parts ++ t) (append-nil part.items)

-- the first parts and the next one
pub first_parts : (parts : List (Vec ℕ)) (i : ℕ) (d : Vec ℕ) → i < length parts → joined (take (i + 1) parts) ≡ joined (take i parts) ++ (get_or parts i d).items
first_parts parts i d below = ap joined (take_more parts i d below) ∙ joined_more (take i parts) (get_or parts i d)

-- the first parts and the others
pub all_parts : (parts : List (Vec ℕ)) (i : ℕ) → joined (take i parts) ++ joined (drop i parts) ≡ joined parts
all_parts parts i = sym (flat_map-append (λ (p : Vec ℕ). p.items) (take i parts) (drop i parts)) ∙ ap joined (take-append-drop i parts)
