-- Runs of reads and of writes, seen by what is known of the bytes.
use Rattle.std.proofs.Common.{◌≡◌, ℕ, ◌+◌, ◌≤◌, Bool, true, false, List, ◌++◌, Option, refl, Some, None, append_assoc, append-nil, ap, sym, ◌∙◌, subst, take, take_all, drop, length, arith, length-append}
use Rattle.rtnl.proofs.Common.{nat_le, take-add, take-append-add, take-append_seam, nat_tests, common_steps, length-take, take-append-le, Appends-kept, Appends-trans, Consumes-trans, AppendsPrefix, ConsumesAtMost, Appends, Consumes, Keeps}

-- one more read of at most k bytes
pub at_most_more : (n : ℕ) (a b c : Option (List ℕ)) (x s : List ℕ) (k : ℕ) → Consumes a b x → Consumes b c (take k s) → length x + k ≤ n → ConsumesAtMost n a c
at_most_more n a b c x s k h next fits =
    (x ++ take k s, Consumes-trans a b c x (take k s) h next, omega (arith, length-append x (take k s), length-take k s))

-- one write after another, each of the next bytes of s
pub appends_more : (a b c : Option (List ℕ)) (s : List ℕ) (d n : ℕ) → Appends a b (take d s) → Appends b c (take n (drop d s)) → Appends a c (take (d + n) s)
appends_more None b c s d n h k = tt
appends_more (Some xs) None c s d n h k = absurd h
appends_more (Some xs) (Some ys) None s d n h k = absurd k
appends_more (Some xs) (Some ys) (Some zs) s d n h k =
    k ∙ ap (λ t. t ++ take n (drop d s)) h ∙ append_assoc xs (take d s) (take n (drop d s)) ∙ ap (λ t. xs ++ t) (sym (take-add d n s))

-- no write yet
pub appends_none : (a : Option (List ℕ)) (s : List ℕ) → Appends a a (take 0 s)
appends_none None s = tt
appends_none (Some xs) s = sym (append-nil xs)

-- writes, and then a call that wrote nothing: a prefix of s
pub prefix_of : (a b c : Option (List ℕ)) (s : List ℕ) (d : ℕ) → Appends a b (take d s) → Keeps b c → AppendsPrefix a c s
prefix_of a b c s d h k = (d, Appends-kept a b c (take d s) h k)

-- all of s was written
pub whole : (a b : Option (List ℕ)) (s : List ℕ) (d : ℕ) → Appends a b (take d s) → length s ≤ d → Appends a b s
whole a b s d h far = let all : take d s ≡ s = take_all d s far in subst (λ t. Appends a b t) all h

-- what was written, and then a front of a text
pub prefix_more : (a b c : Option (List ℕ)) (x y : List ℕ) → Appends a b x → AppendsPrefix b c y → AppendsPrefix a c (x ++ y)
prefix_more a b c x y h k = (length x + k.0, subst (Appends a c) (sym (take-append-add x y k.0)) (Appends-trans a b c x (take k.0 y) h k.1))

-- a front of a text is a front of what begins with it
pub prefix_longer : (a b : Option (List ℕ)) (x y : List ℕ) → AppendsPrefix a b x → AppendsPrefix a b (x ++ y)
prefix_longer a b x y h = by_case (nat_le h.0 (length x)) refl where
  by_case : (c : Bool) → nat_le h.0 (length x) ≡ c → AppendsPrefix a b (x ++ y)
  by_case true is =
      let short : h.0 ≤ length x = grind (arith, common_steps, nat_tests) in
      (h.0, subst (Appends a b) (sym (take-append-le h.0 x y short)) h.1)
  by_case false is =
      let far : length x ≤ h.0 = grind (arith, common_steps, nat_tests) in
      (length x, subst (Appends a b) (take_all h.0 x far ∙ sym (take-append_seam x y)) h.1)
