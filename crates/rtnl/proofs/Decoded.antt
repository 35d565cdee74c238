-- What hexadecimal digits decode to, by their parts.
use Rattle.std.proofs.Common.{◌≡◌, ℕ, ◌+◌, ◌*◌, ◌/◌, ◌%◌, ◌<◌, min, Bool, true, false, List, [], ◌∷◌, ◌++◌, length, Option, Some, None, unwrap_or, Result, Ok, Err, refl, sym, ap, ◌∙◌, arith, append-nil, append_assoc, length-append, inl, inr}
use Rattle.rtnl.proofs.Common.{MatchResult, cases_eq, FromHexError, decode_of-even, decode_of-odd, decode_sized-ok, decode_sized-twice, decoded}
use Rattle.hex.specs.Hex.{decode_of, decode_pairs, decode_sized, digit_or_error, hex_digit_value, pair_value, value_at, ◌>>=◌}

-- the bytes of digits, where all of them decode
abbrev pub found : Result (List ℕ) FromHexError → Option (List ℕ)
found (Ok bytes) = Some bytes
found (Err _) = None

-- bytes, and then others
abbrev pub joined : Option (List ℕ) → Option (List ℕ) → Option (List ℕ)
joined None _ = None
joined (Some front) None = None
joined (Some front) (Some rest) = Some (front ++ rest)

-- a byte, and then others
abbrev led : Option ℕ → Option (List ℕ) → Option (List ℕ)
led None _ = None
led (Some byte) None = None
led (Some byte) (Some rest) = Some (byte ∷ rest)

-- the byte of the values of two digits
abbrev byte_of : Option ℕ → Option ℕ → Option ℕ
byte_of None _ = None
byte_of (Some high) None = None
byte_of (Some high) (Some low) = Some (high * 16 + low)

one_pair : (a b i : ℕ) (high low : Option ℕ) (rest : Result (List ℕ) FromHexError) →
    found ((digit_or_error a i high >>= λ h. digit_or_error b (i + 1) low >>= λ l. Ok (h * 16 + l)) >>= λ byte. rest >>= λ bytes. Ok (byte ∷ bytes)) ≡ led (byte_of high low) (found rest)
one_pair a b i None low rest = refl
one_pair a b i (Some high) None rest = refl
one_pair a b i (Some high) (Some low) (Err e) = refl
one_pair a b i (Some high) (Some low) (Ok bytes) = refl

found_pair : (i a b : ℕ) (rest : List ℕ) → found (decode_pairs i (a ∷ b ∷ rest)) ≡ led (byte_of (hex_digit_value a) (hex_digit_value b)) (found (decode_pairs (i + 2) rest))
unfolding decode_pairs
found_pair i a b rest = one_pair a b i (hex_digit_value a) (hex_digit_value b) (decode_pairs (i + 2) rest)

-- the bytes are the same wherever the digits stand
found_anywhere : (i j : ℕ) (digits : List ℕ) → found (decode_pairs i digits) ≡ found (decode_pairs j digits)
unfolding decode_pairs
found_anywhere i j [] = refl
found_anywhere i j (a ∷ []) = refl
found_anywhere i j (a ∷ b ∷ rest) =
    found_pair i a b rest ∙ ap (led (byte_of (hex_digit_value a) (hex_digit_value b))) (found_anywhere (i + 2) (j + 2) rest) ∙ sym (found_pair j a b rest)

led_joined : (byte : Option ℕ) (front rest : Option (List ℕ)) → led byte (joined front rest) ≡ joined (led byte front) rest
led_joined None front rest = refl
led_joined (Some byte) None rest = refl
led_joined (Some byte) (Some front) None = refl
led_joined (Some byte) (Some front) (Some rest) = refl

joined_empty : (rest : Option (List ℕ)) → rest ≡ joined (Some []) rest
joined_empty None = refl
joined_empty (Some rest) = refl

found_parts : (i : ℕ) (front rest : List ℕ) → length front % 2 ≡ 0 → found (decode_pairs i (front ++ rest)) ≡ joined (found (decode_pairs i front)) (found (decode_pairs 0 rest))
unfolding decode_pairs
found_parts i [] rest even = found_anywhere i 0 rest ∙ joined_empty (found (decode_pairs 0 rest))
found_parts i (a ∷ []) rest even = absurd (omega arith)
found_parts i (a ∷ b ∷ front) rest even =
    let byte = byte_of (hex_digit_value a) (hex_digit_value b) in
    found_pair i a b (front ++ rest)
    ∙ ap (led byte) (found_parts (i + 2) front rest (omega arith))
    ∙ led_joined byte (found (decode_pairs (i + 2) front)) (found (decode_pairs 0 rest))
    ∙ ap (λ f. joined f (found (decode_pairs 0 rest))) (sym (found_pair i a b front))

joined_none : (front : Option (List ℕ)) → None ≡ joined front None
joined_none None = refl
joined_none (Some front) = refl

-- an even number of digits, and those behind them
pub decode_of-append : (front rest : List ℕ) → length front % 2 ≡ 0 → found (decode_of (front ++ rest)) ≡ joined (found (decode_of front)) (found (decode_of rest))
decode_of-append front rest even =
    let size = length-append front rest in
    elim (cases_eq (length rest % 2) 1) [
      | inl odd ↦
          ap found (decode_of-odd (front ++ rest) (omega (arith, size))) ∙ joined_none (found (decode_of front))
          ∙ ap (λ r. joined (found (decode_of front)) (found r)) (sym (decode_of-odd rest odd))
      | inr other ↦
          ap found (decode_of-even (front ++ rest) (omega (arith, size)))
          ∙ found_parts 0 front rest even
          ∙ λ i. joined (found (sym (decode_of-even front even) i)) (found (sym (decode_of-even rest (omega arith)) i))
    ]

-- the bytes that lead, and those of the digits that are left, are those of all
abbrev pub Leads : List ℕ → List ℕ → List ℕ → Type 0
Leads all done left = found (decode_of all) ≡ joined (Some done) (found (decode_of left))

joined_more : (done bytes : List ℕ) (rest : Option (List ℕ)) → joined (Some done) (joined (Some bytes) rest) ≡ joined (Some (done ++ bytes)) rest
joined_more done bytes None = refl
joined_more done bytes (Some rest) = ap Some (sym (append_assoc done bytes rest))

-- a piece is decoded
pub leads_more : (all done left piece more bytes : List ℕ) (n : ℕ) → Leads all done left → left ≡ piece ++ more → decode_sized piece n ≡ Ok bytes → Leads all (done ++ bytes) more
leads_more all done left piece more bytes n so_far parts is =
    let size : length piece ≡ 2 * n = decode_sized-ok piece n bytes is in
    let here : found (decode_of piece) ≡ Some bytes = ap found (sym (decode_sized-twice piece n size) ∙ is) in
    so_far
    ∙ ap (λ digits. joined (Some done) (found (decode_of digits))) parts
    ∙ ap (joined (Some done)) (decode_of-append piece more (omega (arith, size)) ∙ ap (λ f. joined f (found (decode_of more))) here)
    ∙ joined_more done bytes (found (decode_of more))

-- a piece that does not decode is one of digits that do not
pub leads_bad : (all done left piece more : List ℕ) (n : ℕ) → Leads all done left → left ≡ piece ++ more → length piece ≡ min 256 (length left) → n ≡ length piece / 2 → found (decode_sized piece n) ≡ None →
    found (decode_of all) ≡ None
leads_bad all done left piece more n so_far parts size room bad =
    let sum = ap length parts ∙ length-append piece more in
    let none : found (decode_of left) ≡ None = elim (cases_eq (length piece % 2) 1) [
      | inl odd ↦
          ap found (decode_of-odd left (omega (arith, sum, size, odd)))
      | inr other ↦
          let even : length piece % 2 ≡ 0 = omega arith in
          let here : found (decode_of piece) ≡ None = ap found (sym (decode_sized-twice piece n (omega (arith, even, room)))) ∙ bad in
          ap (λ digits. found (decode_of digits)) parts ∙ decode_of-append piece more even ∙ ap (λ f. joined f (found (decode_of more))) here
    ] in
    so_far ∙ ap (joined (Some done)) none

whole : (read : Result (List ℕ) FromHexError) (bytes : List ℕ) → found read ≡ Some bytes → read ≡ Ok bytes
whole (Ok x) bytes is = ap Ok (ap (λ o. unwrap_or o []) is)
whole (Err e) bytes is = cc is

-- no digit is left
pub leads_all : (all done left : List ℕ) → Leads all done left → left ≡ [] → decode_of all ≡ Ok done
unfolding decode_pairs
leads_all all done left so_far none =
    whole (decode_of all) done (so_far ∙ ap (λ digits. joined (Some done) (found (decode_of digits))) none ∙ ap Some (append-nil done))

-- the byte of two digits of these values
pub pair_of : (a b i high low : ℕ) → high < 16 → low < 16 → hex_digit_value a ≡ Some high → hex_digit_value b ≡ Some low → pair_value a b i ≡ Ok (high % 16 * 16 + low % 16)
pair_of a b i high low small less first second =
    let one : value_at a i ≡ Ok high = ap (digit_or_error a i) first in
    let other : value_at b (i + 1) ≡ Ok low = ap (digit_or_error b (i + 1)) second in
    let both : pair_value a b i ≡ Ok (high * 16 + low) = rw (one, other) refl in
    let same : high * 16 + low ≡ high % 16 * 16 + low % 16 = omega arith in
    both ∙ ap Ok same

-- digits that do not decode are a bad line
pub bad_digits : (number : ℕ) (read : Result (List ℕ) FromHexError) → found read ≡ None → decoded number read ≡ Err number
bad_digits number (Ok x) none = cc none
bad_digits number (Err e) none = refl

-- what a slice's decoding answers
pub slice_decoded : (read : Result (List ℕ) FromHexError) (answer : Bool) (out : List ℕ) →
    MatchResult read (λ bytes. (answer ≡ true) × (out ≡ bytes)) (λ e. answer ≡ false) → answer ≡ true → read ≡ Ok out
slice_decoded (Ok bytes) answer out is fine = ap Ok (sym is.1)
slice_decoded (Err e) answer out is fine = cc (sym fine ∙ is)

-- what it answers where it fails
pub slice_failed : (read : Result (List ℕ) FromHexError) (answer : Bool) (out : List ℕ) →
    MatchResult read (λ bytes. (answer ≡ true) × (out ≡ bytes)) (λ e. answer ≡ false) → answer ≡ false → found read ≡ None
slice_failed (Ok bytes) answer out is bad = cc (sym bad ∙ is.0)
slice_failed (Err e) answer out is bad = refl
