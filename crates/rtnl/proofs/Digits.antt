-- Digits, as they are written.
use Rattle.std.proofs.Common.{◌≡◌, ◌==◌, ℕ, zero, suc, ℤ, pos, negsuc, ◌+◌, ◌-◌, ◌*◌, ◌/◌, ◌%◌, ◌^◌, ◌<◌, ◌≤◌, Bool, true, false, if◌then◌else◌, List, [], ◌∷◌, ◌++◌, length, replicate, decimal, refl, sym, ap, ◌∙◌, arith, append-nil, append_assoc, length-append, slice_index, eqb-true, inl, inr, rules}
use Rattle.std.specs.Prelude.{int_lt, nat_lt, unsigned_abs}
use Rattle.std.specs.Fmt.{digits, digits_onto, digit_glyph, signed_decimal}
use Rattle.rtnl.proofs.Common.{agree_below_at, cases_lt, length-decimal-le, replicate-append-replicate}
use Rattle.hex.specs.Hex.{encode_lower, encode_with, lower_digits}
use Rattle.rtnl.specs.Text.{padded_hex}

-- the digit of a number below sixteen
abbrev digit : ℕ → ℕ
digit n = slice_index lower_digits n

-- it is the digit that is printed
glyph : (k : ℕ) → k < 16 → digit_glyph false k ≡ digit k
glyph k small = eqb-true _ _ (agree_below_at (λ n. digit_glyph false n == digit n) (λ n. true) 16 k refl small)

-- how many numbers have k + 1 digits or fewer
abbrev room : ℕ → ℕ
room zero = 16
room (suc k) = 16 * room k

-- the digits of a number that has at most k + 1 of them
abbrev spelled : ℕ → ℕ → List ℕ
spelled zero n = digit n ∷ []
spelled (suc k) n = if nat_lt n 16 then digit n ∷ [] else spelled k (n / 16) ++ digit (n % 16) ∷ []

below : (n : ℕ) → n < 16 → nat_lt n 16 ≡ true
below n small = search rules

above : (n : ℕ) → 16 ≤ n → nat_lt n 16 ≡ false
above n large = search rules

spelled_one : (k n : ℕ) → n < 16 → spelled k n ≡ digit n ∷ []
spelled_one zero n small = refl
spelled_one (suc k) n small = ap (λ (b : Bool). if b then digit n ∷ [] else spelled k (n / 16) ++ digit (n % 16) ∷ []) (below n small)

spelled_more : (k n : ℕ) → 16 ≤ n → spelled (suc k) n ≡ spelled k (n / 16) ++ digit (n % 16) ∷ []
spelled_more k n large = ap (λ (b : Bool). if b then digit n ∷ [] else spelled k (n / 16) ++ digit (n % 16) ∷ []) (above n large)

-- one step of what std writes
step : (k n : ℕ) (acc : List ℕ) (last : Bool) → (n / 16 == 0) ≡ last
    → digits_onto (suc k) 16 false n acc ≡ (if last then digit_glyph false (n % 16) ∷ acc else digits_onto k 16 false (n / 16) (digit_glyph false (n % 16) ∷ acc))
step k n acc last is = ap (λ (b : Bool). if b then digit_glyph false (n % 16) ∷ acc else digits_onto k 16 false (n / 16) (digit_glyph false (n % 16) ∷ acc)) is

at_last : (n : ℕ) → n / 16 ≡ 0 → (n / 16 == 0) ≡ true
at_last n e = search rules

not_last : (n : ℕ) → 0 < n / 16 → (n / 16 == 0) ≡ false
not_last n e = search rules

onto_one : (k j n : ℕ) (acc : List ℕ) → n < 16 → digits_onto (suc j) 16 false n acc ≡ spelled k n ++ acc
onto_one k j n acc one =
    let same : n % 16 ≡ n = omega arith in
    step j n acc true (at_last n (omega arith))
    ∙ ap (λ c. c ∷ acc) (ap (digit_glyph false) same ∙ glyph n one)
    ∙ sym (ap (λ l. l ++ acc) (spelled_one k n one))

-- they are what std writes, where d more would find room
onto : (k d n : ℕ) (acc : List ℕ) → n < room k → digits_onto (suc (k + d)) 16 false n acc ≡ spelled k n ++ acc
onto zero d n acc fits = onto_one zero (zero + d) n acc fits
onto (suc k) d n acc fits = elim (cases_lt n 16) [
  | inl one ↦ onto_one (suc k) (suc k + d) n acc one
  | inr more ↦
      let less : n / 16 < room k = omega arith in
      let last : n % 16 < 16 = omega arith in
      let more_room : suc k + d ≡ suc (k + d) = omega arith in
      step (suc k + d) n acc false (not_last n (omega arith))
      ∙ ap (λ j. digits_onto j 16 false (n / 16) (digit_glyph false (n % 16) ∷ acc)) more_room
      ∙ onto k d (n / 16) (digit_glyph false (n % 16) ∷ acc) less
      ∙ ap (λ c. spelled k (n / 16) ++ c ∷ acc) (glyph (n % 16) last)
      ∙ sym (append_assoc (spelled k (n / 16)) (digit (n % 16) ∷ []) acc)
      ∙ sym (ap (λ l. l ++ acc) (spelled_more k n more))
]

-- k + 1 digits, with zeros in front
abbrev full : ℕ → ℕ → List ℕ
full zero n = digit n ∷ []
full (suc k) n = full k (n / 16) ++ digit (n % 16) ∷ []

full_zero : (k : ℕ) → full k 0 ≡ replicate (suc k) 48
full_zero zero = refl
full_zero (suc k) =
    let longer : suc k + 1 ≡ suc (suc k) = omega arith in
    ap (λ l. l ++ 48 ∷ []) (full_zero k) ∙ replicate-append-replicate (suc k) 1 48 ∙ ap (λ m. replicate m 48) longer

-- zeros before the digits of a number make them full
filled : (k n : ℕ) → n < room k → (length (spelled k n) ≤ suc k) × (replicate (suc k - length (spelled k n)) 48 ++ spelled k n ≡ full k n)
filled zero n fits = (omega arith, refl)
filled (suc k) n fits = elim (cases_lt n 16) [
  | inl one ↦
      let high : n / 16 ≡ 0 = omega arith in
      let low : n % 16 ≡ n = omega arith in
      let is = spelled_one (suc k) n one in
      let long : length (spelled (suc k) n) ≡ 1 = ap (length {A = ℕ}) is in
      let zeros : suc (suc k) - length (spelled (suc k) n) ≡ suc k = omega (arith, long) in (
        omega (arith, long),
        (λ i. replicate (zeros i) 48 ++ is i) ∙ ap (λ l. l ++ digit n ∷ []) (sym (full_zero k)) ∙ λ i. full k (sym high i) ++ digit (sym low i) ∷ [],
      )
  | inr more ↦
      let before = filled k (n / 16) (omega arith) in
      let is = spelled_more k n more in
      let long : length (spelled (suc k) n) ≡ length (spelled k (n / 16)) + 1 = ap (length {A = ℕ}) is ∙ length-append (spelled k (n / 16)) (digit (n % 16) ∷ []) in
      let same : suc (suc k) - length (spelled (suc k) n) ≡ suc k - length (spelled k (n / 16)) = omega (arith, long) in (
        omega (arith, long, before.0),
        (λ i. replicate (same i) 48 ++ is i)
            ∙ sym (append_assoc (replicate (suc k - length (spelled k (n / 16))) 48) (spelled k (n / 16)) (digit (n % 16) ∷ []))
            ∙ ap (λ l. l ++ digit (n % 16) ∷ []) before.1,
      )
]

all_spelled : (k d n : ℕ) → suc (k + d) ≡ 64 → n < room k → digits 16 false n ≡ spelled k n
unfolding digits
all_spelled k d n places fits =
    ap (λ m. digits_onto m 16 false n []) (sym places) ∙ onto k d n [] fits ∙ append-nil (spelled k n)

padded : (k d n : ℕ) → suc (k + d) ≡ 64 → n < room k → padded_hex (suc k) n ≡ full k n
unfolding padded_hex
padded k d n places fits =
    ap (λ l. replicate (suc k - length l) 48 ++ l) (all_spelled k d n places fits) ∙ (filled k n fits).1

-- two digits are those of a byte
pub two_digits : (n : ℕ) → n < 256 → padded_hex 2 n ≡ encode_lower (n ∷ [])
unfolding encode_with
two_digits n fits = padded 1 62 n refl (omega arith)

-- four are those of two bytes, the high one first
pub four_digits : (n : ℕ) → n < 65536 → padded_hex 4 n ≡ encode_lower (n / 256 ∷ n % 256 ∷ [])
unfolding encode_with
four_digits n fits =
    let a : n / 16 / 16 / 16 ≡ n / 256 / 16 = omega arith in
    let b : n / 16 / 16 % 16 ≡ n / 256 % 16 = omega arith in
    let c : n / 16 % 16 ≡ n % 256 / 16 = omega arith in
    let d : n % 16 ≡ n % 256 % 16 = omega arith in
    padded 3 60 n refl (omega arith) ∙ λ i. digit (a i) ∷ digit (b i) ∷ digit (c i) ∷ digit (d i) ∷ []

-- eight are those of four bytes
pub eight_digits : (n : ℕ) → n < 4294967296 → padded_hex 8 n ≡ padded_hex 4 (n / 65536) ++ padded_hex 4 (n % 65536)
eight_digits n fits =
    let high : n / 65536 < 65536 = omega arith in
    let low : n % 65536 < 65536 = omega arith in
    let a : n / 16 / 16 / 16 / 16 / 16 / 16 / 16 ≡ n / 65536 / 16 / 16 / 16 = omega arith in
    let b : n / 16 / 16 / 16 / 16 / 16 / 16 % 16 ≡ n / 65536 / 16 / 16 % 16 = omega arith in
    let c : n / 16 / 16 / 16 / 16 / 16 % 16 ≡ n / 65536 / 16 % 16 = omega arith in
    let d : n / 16 / 16 / 16 / 16 % 16 ≡ n / 65536 % 16 = omega arith in
    let e : n / 16 / 16 / 16 % 16 ≡ n % 65536 / 16 / 16 / 16 = omega arith in
    let f : n / 16 / 16 % 16 ≡ n % 65536 / 16 / 16 % 16 = omega arith in
    let g : n / 16 % 16 ≡ n % 65536 / 16 % 16 = omega arith in
    let h : n % 16 ≡ n % 65536 % 16 = omega arith in
    padded 7 56 n refl (omega arith)
    ∙ (λ i. digit (a i) ∷ digit (b i) ∷ digit (c i) ∷ digit (d i) ∷ digit (e i) ∷ digit (f i) ∷ digit (g i) ∷ digit (h i) ∷ [])
    ∙ λ i. sym (padded 3 60 (n / 65536) refl (omega arith)) i ++ sym (padded 3 60 (n % 65536) refl (omega arith)) i

encode_with-append : (t xs ys : List ℕ) → encode_with t (xs ++ ys) ≡ encode_with t xs ++ encode_with t ys
unfolding encode_with
encode_with-append t [] ys = refl
encode_with-append t (x ∷ xs) ys = ap (λ rest. slice_index t (x / 16) ∷ slice_index t (x % 16) ∷ rest) (encode_with-append t xs ys)

-- bytes one after another in digits
pub digits_append : (xs ys : List ℕ) → encode_lower (xs ++ ys) ≡ encode_lower xs ++ encode_lower ys
digits_append xs ys = encode_with-append lower_digits xs ys

-- ---- numbers in decimal digits

-- a number of 64 bits has twenty digits or fewer
pub twenty_digits : (n : ℕ) → n < 2 ^ 64 → length (decimal n) ≤ 20
twenty_digits n fits = length-decimal-le 20 n (omega arith) (omega arith) (omega arith)

-- a number below zero has a sign
pub below_zero : (z : ℤ) → int_lt z (pos 0) ≡ true → signed_decimal z ≡ 45 ∷ decimal (unsigned_abs z)
below_zero (pos n) below = let none : n < 0 = search rules in absurd (omega (arith, none))
below_zero (negsuc n) below = refl

-- any other has none
pub not_below_zero : (z : ℤ) → int_lt z (pos 0) ≡ false → signed_decimal z ≡ decimal (unsigned_abs z)
not_below_zero (pos n) other = refl
not_below_zero (negsuc n) other = absurd cc
