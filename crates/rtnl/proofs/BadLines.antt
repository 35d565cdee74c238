-- A line is bad exactly where a byte of it is stray, or its digits are odd.
use Rattle.rtnl.proofs.Common.{◌≡◌, ◌≢◌, ◌↔◌, ℕ, ◌+◌, ◌%◌, Bool, true, false, not, ◌||◌, filter, List, [], ◌∷◌, length, Option, Some, None, Result, Ok, Err, refl, sym, ◌∙◌, arith, inl, inr, IsSome, list_all, position_from, cases_eq, eq-eqb, ne_eqb, AllPass-from_list_all, list_all-from_AllPass, decode_of, is_hex_digit, FromHexError, decode_of-odd, decode_of-digits, decode_of-ok, compact, decoded, digits_at, fault_in, is_blank, is_comment, is_stray, line_at, line_fault_of, odd_of}
use Rattle.std.proofs.lemmas.Iterator.Adapters.{position_from-zero}
use Rattle.hex.specs.declared.error.FromHexError.TheVariants.{OddLength}

-- what the places of stray bytes say of the digits
abbrev IsPlaced : Option ℕ → Bool → Type 0
IsPlaced None all = all ≡ true
IsPlaced (Some k) all = all ≡ false

module _ (digit blank : ℕ → Bool) where
  placed : (i : ℕ) (line : List ℕ) → IsPlaced (position_from (λ b. not (digit b || blank b)) i line) (list_all digit (filter (λ b. not (blank b)) line))
  placed i [] = refl
  placed i (x ∷ xs) = by_case (digit x) (blank x) refl refl (placed (i + 1) xs) where
    by_case : (d b : Bool) → digit x ≡ d → blank x ≡ b → IsPlaced (position_from (λ b. not (digit b || blank b)) (i + 1) xs) (list_all digit (filter (λ b. not (blank b)) xs))
        → IsPlaced (position_from (λ b. not (digit b || blank b)) i (x ∷ xs)) (list_all digit (filter (λ b. not (blank b)) (x ∷ xs)))
    by_case true true e f rest = rw (e, f) rest
    by_case true false e f rest = rw (e, f) (rw e rest)
    by_case false true e f rest = rw (e, f) rest
    by_case false false e f rest = rw (e, f) (rw e refl)

-- some digits are decoded, or not
some_digits : (number : ℕ) (digits : List ℕ) (r : Result (List ℕ) FromHexError) → length digits ≢ 0 → decode_of digits ≡ r → digits_at number digits ≡ decoded number r
some_digits number digits r some e = rw (ne_eqb (length digits) 0 some, e) refl

-- an odd number of digits is refused, and no other
in_pairs : (number : ℕ) (digits : List ℕ) → list_all is_hex_digit digits ≡ true → (digits_at number digits ≡ Err number) ↔ IsSome (odd_of (length digits))
in_pairs number digits all = elim (cases_eq (length digits % 2) 1) [
  | inl odd ↦ (λ x. is_odd odd, λ x. some_digits number digits (Err OddLength) (omega arith) (decode_of-odd digits odd))
  | inr other ↦ (λ x. absurd (decodes other x), λ x. absurd (is_even other x))
] where
  is_odd : length digits % 2 ≡ 1 → IsSome (odd_of (length digits))
  is_odd odd = rw (eq-eqb (length digits % 2) 1 odd) refl

  is_even : length digits % 2 ≢ 1 → IsSome (odd_of (length digits)) → ⊥
  is_even other = rw (ne_eqb (length digits % 2) 1 other) (λ x. absurd cc)

  decodes : length digits % 2 ≢ 1 → digits_at number digits ≡ Err number → ⊥
  decodes other x = elim (cases_eq (length digits) 0) [
    | inl none ↦ no_error (rw (eq-eqb (length digits) 0 none) at x)
    | inr some ↦
        let d = decode_of-digits digits (omega arith) (AllPass-from_list_all is_hex_digit digits all) in
        let e : ◌≡◌ {A = Result (Option (List ℕ)) ℕ} (Ok (Some d.0)) (Err number) = sym (some_digits number digits (Ok d.0) some d.1) ∙ x in
        cc
  ] where
    no_error : ◌≡◌ {A = Result (Option (List ℕ)) ℕ} (Ok None) (Err number) → ⊥
    no_error x = absurd cc

-- what is no digit is refused
stray_refused : (number : ℕ) (digits : List ℕ) → list_all is_hex_digit digits ≡ false → digits_at number digits ≡ Err number
stray_refused number digits stray = by_case (decode_of digits) refl where
  some : (digits : List ℕ) → list_all is_hex_digit digits ≡ false → length digits ≢ 0
  some [] e = absurd cc
  some (x ∷ xs) e = λ n. absurd (omega arith)

  by_case : (r : Result (List ℕ) FromHexError) → decode_of digits ≡ r → digits_at number digits ≡ Err number
  by_case (Ok bytes) e = absurd (let all = list_all-from_AllPass is_hex_digit digits (decode_of-ok digits bytes e).1 in cc)
  by_case (Err f) e = some_digits number digits (Err f) (some digits stray) e

fault : (number : ℕ) (line : List ℕ) (place : Option ℕ) → IsPlaced place (list_all is_hex_digit (compact line)) → (digits_at number (compact line) ≡ Err number) ↔ IsSome (fault_in line place)
fault number line None all = in_pairs number (compact line) all
fault number line (Some k) stray = (λ e. refl, λ e. stray_refused number (compact line) stray)

pub bad_line : (number : ℕ) (line : List ℕ) → (line_at number line ≡ Err number) ↔ IsSome (line_fault_of line)
bad_line number line = by_case (is_comment line) refl where
  by_case : (b : Bool) → is_comment line ≡ b → (line_at number line ≡ Err number) ↔ IsSome (line_fault_of line)
  by_case true e = rw e (λ x. absurd cc, λ x. absurd cc)
  by_case false e = rw (e, position_from-zero is_stray line) (fault number line (position_from is_stray 0 line) (placed is_hex_digit is_blank 0 line))
