-- A buffer into which events are put, one behind the other.
use Rattle.nl_attr.proofs.Common.{◌≡◌, ◌≤◌, ℕ, zero, suc, ◌+◌, ◌-◌, ◌*◌, List, [], ◌∷◌, ◌++◌, length, take, drop, slice_set, refl, sym, ap, ◌∙◌, arith, take-append-drop, Event, Room, HasRoom, put_from}
use Rattle.nl_attr.specs.declared.events.Room.TheVariants.{Ample, Unknown}

more : (a b : ℕ) → suc a + b ≡ suc (a + b)
more a b = omega arith

one : (n : ℕ) → 0 + suc n ≡ suc (0 + n)
one n = omega arith

-- room that is there for some bytes is there for fewer, or with more events before them
pub room_on : (r : Room) (c l d m places : ℕ) → 4 * d + m ≤ 4 * c + l → HasRoom r c l places → HasRoom r d m places
room_on Ample c l d m places e h = omega (arith, e, h)
room_on Unknown c l d m places e h = tt

-- none
pub put_none : (n : ℕ) (old : List Event) → put_from n [] old ≡ old
put_none n old = ap (λ (xs : List Event). take n old ++ (xs ++ drop (n + 0) old)) (nothing (length old - n)) ∙ ap (λ (m : ℕ). take n old ++ drop m old) (omega arith) ∙ take-append-drop n old where
  nothing : (k : ℕ) → ◌≡◌ {A = List Event} (take k []) []
  nothing zero = refl
  nothing (suc k) = refl

-- no buffer
pub put_nowhere : (n : ℕ) (es : List Event) → put_from n es [] ≡ []
put_nowhere n es = gone n (n + length es) (0 - n) (omega arith) where
  gone : (n m k : ℕ) → k ≡ 0 → ◌≡◌ {A = List Event} (take n [] ++ (take k es ++ drop m [])) []
  gone zero zero k e = ap (λ (i : ℕ). take i es ++ []) e
  gone zero (suc m) k e = ap (λ (i : ℕ). take i es ++ []) e
  gone (suc n) zero k e = ap (λ (i : ℕ). take i es ++ []) e
  gone (suc n) (suc m) k e = ap (λ (i : ℕ). take i es ++ []) e

-- a place behind the first
put_behind : (n : ℕ) (es : List Event) (x : Event) (xs : List Event) → put_from (suc n) es (x ∷ xs) ≡ x ∷ put_from n es xs
put_behind n es x xs =
    ap (λ (k : ℕ). x ∷ (take n xs ++ (take k es ++ drop (suc n + length es) (x ∷ xs)))) (less (length xs) n)
    ∙ ap (λ (k : ℕ). x ∷ (take n xs ++ (take (length xs - n) es ++ drop k (x ∷ xs)))) (more n (length es)) where
      less : (a b : ℕ) → suc a - suc b ≡ a - b
      less a b = omega arith

-- the first place
pub put_here : (e : Event) (es : List Event) (x : Event) (xs : List Event) → put_from 0 (e ∷ es) (x ∷ xs) ≡ e ∷ put_from 0 es xs
put_here e es x xs =
    ap (λ (k : ℕ). take k (e ∷ es) ++ drop (0 + suc (length es)) (x ∷ xs)) (all (length xs))
    ∙ ap (λ (k : ℕ). e ∷ (take (length xs) es ++ drop k (x ∷ xs))) (first (length es))
    ∙ ap (λ (k : ℕ). e ∷ (take k es ++ drop (length es) xs)) (whole (length xs))
    ∙ ap (λ (k : ℕ). e ∷ (take (length xs - 0) es ++ drop k xs)) (none (length es)) where
      all : (n : ℕ) → suc n - 0 ≡ suc n
      all n = omega arith

      first : (n : ℕ) → 0 + suc n ≡ suc n
      first n = omega arith

      whole : (n : ℕ) → n ≡ n - 0
      whole n = omega arith

      none : (n : ℕ) → n ≡ 0 + n
      none n = omega arith

-- some, and then others behind them
pub put_on : (n : ℕ) (es fs old : List Event) → put_from (n + length es) fs (put_from n es old) ≡ put_from n (es ++ fs) old
put_on n es fs [] = ap (put_from (n + length es) fs) (put_nowhere n es) ∙ put_nowhere (n + length es) fs ∙ sym (put_nowhere n (es ++ fs))
put_on (suc n) es fs (x ∷ xs) =
    ap (put_from (suc n + length es) fs) (put_behind n es x xs)
    ∙ ap (λ (k : ℕ). put_from k fs (x ∷ put_from n es xs)) (more n (length es))
    ∙ put_behind (n + length es) fs x (put_from n es xs)
    ∙ ap (λ (ys : List Event). x ∷ ys) (put_on n es fs xs)
    ∙ sym (put_behind n (es ++ fs) x xs)
put_on zero [] fs (x ∷ xs) = ap (put_from 0 fs) (put_none 0 (x ∷ xs))
put_on zero (e ∷ es) fs (x ∷ xs) =
    ap (put_from (0 + suc (length es)) fs) (put_here e es x xs)
    ∙ ap (λ (k : ℕ). put_from k fs (e ∷ put_from 0 es xs)) (one (length es))
    ∙ put_behind (0 + length es) fs e (put_from 0 es xs)
    ∙ ap (λ (ys : List Event). e ∷ ys) (put_on 0 es fs xs)
    ∙ sym (put_here e (es ++ fs) x xs)

-- one is a write to its place, where there is such a place
pub put_one : (n : ℕ) (e : Event) (old : List Event) → put_from n (e ∷ []) old ≡ slice_set old n e
put_one n e [] = put_nowhere n (e ∷ [])
put_one (suc n) e (x ∷ xs) = put_behind n (e ∷ []) x xs ∙ ap (λ (ys : List Event). x ∷ ys) (put_one n e xs)
put_one zero e (x ∷ xs) = put_here e [] x xs ∙ ap (λ (ys : List Event). e ∷ ys) (put_none 0 xs)

-- the buffer is as long as it was
pub put_length : (n : ℕ) (es old : List Event) → length (put_from n es old) ≡ length old
put_length n es [] = ap (length {A = Event}) (put_nowhere n es)
put_length (suc n) es (x ∷ xs) = ap (length {A = Event}) (put_behind n es x xs) ∙ ap (λ (k : ℕ). suc k) (put_length n es xs)
put_length zero [] (x ∷ xs) = ap (length {A = Event}) (put_none 0 (x ∷ xs))
put_length zero (e ∷ es) (x ∷ xs) = ap (length {A = Event}) (put_here e es x xs) ∙ ap (λ (k : ℕ). suc k) (put_length 0 es xs)

-- behind the last of them the buffer is as it was
pub put_untouched : (n : ℕ) (es old : List Event) → drop (n + length es) (put_from n es old) ≡ drop (n + length es) old
put_untouched n es [] = ap (drop (n + length es)) (put_nowhere n es)
put_untouched (suc n) es (x ∷ xs) =
    ap (drop (suc n + length es)) (put_behind n es x xs)
    ∙ ap (λ (k : ℕ). drop k (x ∷ put_from n es xs)) (more n (length es))
    ∙ put_untouched n es xs
    ∙ ap (λ (k : ℕ). drop k (x ∷ xs)) (sym (more n (length es)))
put_untouched zero [] (x ∷ xs) = ap (drop (0 + 0)) (put_none 0 (x ∷ xs))
put_untouched zero (e ∷ es) (x ∷ xs) =
    ap (drop (0 + suc (length es))) (put_here e es x xs)
    ∙ ap (λ (k : ℕ). drop k (e ∷ put_from 0 es xs)) (one (length es))
    ∙ put_untouched 0 es xs
    ∙ ap (λ (k : ℕ). drop k (x ∷ xs)) (sym (one (length es)))
