-- Numbers and their bytes.
use Rattle.nl_attr.proofs.Common.{◌≡◌, ℕ, zero, suc, ◌+◌, ◌*◌, ◌/◌, ◌%◌, ◌^◌, ◌<◌, ◌≤◌, List, [], ◌∷◌, ◌++◌, length, take, drop, get_or, refl, sym, ap, subst, ◌∙◌, arith, inl, inr, reverse, ℤ, FitsSigned, w32, cast_signed, cast_unsigned, reverse-reverse, length-reverse, take-append-drop, take_at, length-take, get_or-drop, get_or-take, get_or_past, cases_lt, of_z-to_z, to_z-of_z, sfits_to_z, Fits-of_lt, Fits-lt-pow, Fits-of_z, pow-suc, Order, AreBytes, le, num, number_of, kind_of}
use Rattle.std.proofs.lemmas.Grind.{reverse_onto}
use Rattle.byteorder.specs.Endian.{big_from}
use Rattle.byteorder.specs.Numbers.{little_from-cons, big_from-cons, little_from-take, big_from-take}
use Rattle.nl_attr.specs.declared.order.Order.TheVariants.{Little, Big}

-- the number that bytes are the form of, the lowest first
abbrev pub number : List ℕ → ℕ
number [] = 0
number (b ∷ bs) = b + 256 * number bs

abbrev pub EachByte : List ℕ → Type 0
EachByte [] = Unit {0}
EachByte (b ∷ bs) = (b < 256) × EachByte bs

pub length-le : (n w : ℕ) → length (le n w) ≡ w
length-le n zero = refl
length-le n (suc w) = ap suc (length-le (n / 256) w)

-- bytes are the form of the number that they make
pub le-number : (bs : List ℕ) → EachByte bs → le (number bs) (length bs) ≡ bs
le-number [] h = refl
le-number (b ∷ bs) h =
    let low : (b + 256 * number bs) % 256 ≡ b = omega (arith, h.0) in
    let high : (b + 256 * number bs) / 256 ≡ number bs = omega (arith, h.0) in
    rw (low, high) (ap (λ (t : List ℕ). b ∷ t) (le-number bs h.1))

-- and of no other of so many bytes
pub number-le : (w n : ℕ) → n < 256 ^ w → number (le n w) ≡ n
number-le zero n h = omega arith
number-le (suc w) n h =
    let small : n / 256 < 256 ^ w = omega arith in
    rw (number-le w (n / 256) small) (omega arith)

pub number_below : (bs : List ℕ) → EachByte bs → number bs < 256 ^ length bs
number_below [] h = omega arith
number_below (b ∷ bs) h = let r : b + 256 * number bs < 256 ^ suc (length bs) = omega (arith, h.0, number_below bs h.1) in r

-- the other order has the same bytes from behind
EachByte-append : (xs ys : List ℕ) → EachByte xs → EachByte ys → EachByte (xs ++ ys)
EachByte-append [] ys h k = k
EachByte-append (x ∷ xs) ys h k = (h.0, EachByte-append xs ys h.1 k)

EachByte-reverse : (xs : List ℕ) → EachByte xs → EachByte (reverse xs)
EachByte-reverse [] h = tt
EachByte-reverse (x ∷ xs) h = subst EachByte (sym (reverse_onto xs x [])) (EachByte-append (reverse xs) (x ∷ []) (EachByte-reverse xs h.1) (h.0, tt))

-- the number that bytes are the form of, in an order
abbrev pub number_in : Order → List ℕ → ℕ
number_in Little bs = number bs
number_in Big bs = number (reverse bs)

pub length-num : (o : Order) (n w : ℕ) → length (num n w o) ≡ w
length-num Little n w = length-le n w
length-num Big n w = length-reverse (le n w) ∙ length-le n w

pub num-number_in : (o : Order) (bs : List ℕ) → EachByte bs → num (number_in o bs) (length bs) o ≡ bs
num-number_in Little bs h = le-number bs h
num-number_in Big bs h =
    ap (λ (w : ℕ). reverse (le (number (reverse bs)) w)) (sym (length-reverse bs))
    ∙ ap (λ (t : List ℕ). reverse t) (le-number (reverse bs) (EachByte-reverse bs h)) ∙ reverse-reverse bs

pub number_in-num : (o : Order) (w n : ℕ) → n < 256 ^ w → number_in o (num n w o) ≡ n
number_in-num Little w n h = number-le w n h
number_in-num Big w n h = ap number (reverse-reverse (le n w)) ∙ number-le w n h

pub number_in_below : (o : Order) (bs : List ℕ) → EachByte bs → number_in o bs < 256 ^ length bs
number_in_below Little bs h = number_below bs h
number_in_below Big bs h = subst (λ (w : ℕ). number (reverse bs) < 256 ^ w) (length-reverse bs) (number_below (reverse bs) (EachByte-reverse bs h))

pub kind_of-num : (o : Order) (n k : ℕ) (xs : List ℕ) → k < 65536 → kind_of o (num n 2 o ++ (num k 2 o ++ xs)) ≡ k
kind_of-num Little n k xs h = omega arith
kind_of-num Big n k xs h = omega arith

pub index_of-num : (o : Order) (n flags count k : ℕ) (xs : List ℕ) → k < 2 ^ 32 → number_of o 4 (drop 4 (num n 2 o ++ (flags ∷ count ∷ (num k 4 o ++ xs)))) ≡ k
index_of-num Little n flags count k xs h = omega arith
index_of-num Big n flags count k xs h = omega arith

-- what stands behind and between the fields of a head
pub past_head : (o : Order) (n k : ℕ) (xs : List ℕ) → drop 4 (num n 2 o ++ (num k 2 o ++ xs)) ≡ xs
past_head Little n k xs = refl
past_head Big n k xs = refl

pub past_hop : (o : Order) (n flags count k : ℕ) (xs : List ℕ) → drop 8 (num n 2 o ++ (flags ∷ count ∷ (num k 4 o ++ xs))) ≡ xs
past_hop Little n flags count k xs = refl
past_hop Big n flags count k xs = refl

pub flags_at : (o : Order) (n flags : ℕ) (xs : List ℕ) → get_or (num n 2 o ++ (flags ∷ xs)) 2 0 ≡ flags
flags_at Little n flags xs = refl
flags_at Big n flags xs = refl

pub count_at : (o : Order) (n flags count : ℕ) (xs : List ℕ) → get_or (num n 2 o ++ (flags ∷ count ∷ xs)) 3 0 ≡ count
count_at Little n flags count xs = refl
count_at Big n flags count xs = refl

pub head_length : (o : Order) (n k : ℕ) (xs : List ℕ) → length (num n 2 o ++ (num k 2 o ++ xs)) ≡ length xs + 4
head_length Little n k xs = omega arith
head_length Big n k xs = omega arith

pub hop_length : (o : Order) (n flags count k : ℕ) (xs : List ℕ) → length (num n 2 o ++ (flags ∷ count ∷ (num k 4 o ++ xs))) ≡ length xs + 8
hop_length Little n flags count k xs = omega arith
hop_length Big n flags count k xs = omega arith

pub head_then : (o : Order) (n k : ℕ) (xs ys : List ℕ) → (num n 2 o ++ (num k 2 o ++ xs)) ++ ys ≡ num n 2 o ++ (num k 2 o ++ (xs ++ ys))
head_then Little n k xs ys = refl
head_then Big n k xs ys = refl

pub hop_then : (o : Order) (n flags count k : ℕ) (xs ys : List ℕ) → (num n 2 o ++ (flags ∷ count ∷ (num k 4 o ++ xs))) ++ ys ≡ num n 2 o ++ (flags ∷ count ∷ (num k 4 o ++ (xs ++ ys)))
hop_then Little n flags count k xs ys = refl
hop_then Big n flags count k xs ys = refl

-- and back
pub two_bytes : (o : Order) (a b : ℕ) (xs : List ℕ) → a < 256 → b < 256 → num (number_of o 2 (a ∷ b ∷ xs)) 2 o ≡ a ∷ b ∷ []
two_bytes Little a b xs h k = le-number (a ∷ b ∷ []) (h, (k, tt))
two_bytes Big a b xs h k =
    let e : number_of Big 2 (a ∷ b ∷ xs) ≡ number_in Big (a ∷ b ∷ []) = omega arith in
    ap (λ (n : ℕ). num n 2 Big) e ∙ num-number_in Big (a ∷ b ∷ []) (h, (k, tt))

pub four_bytes : (o : Order) (a b c d : ℕ) (xs : List ℕ) → a < 256 → b < 256 → c < 256 → d < 256 → num (number_of o 4 (a ∷ b ∷ c ∷ d ∷ xs)) 4 o ≡ a ∷ b ∷ c ∷ d ∷ []
four_bytes Little a b c d xs h k l m = le-number (a ∷ b ∷ c ∷ d ∷ []) (h, (k, (l, (m, tt))))
four_bytes Big a b c d xs h k l m =
    let e : number_of Big 4 (a ∷ b ∷ c ∷ d ∷ xs) ≡ number_in Big (a ∷ b ∷ c ∷ d ∷ []) = omega arith in
    ap (λ (n : ℕ). num n 4 Big) e ∙ num-number_in Big (a ∷ b ∷ c ∷ d ∷ []) (h, (k, (l, (m, tt))))

pub two_fit : (o : Order) (a b : ℕ) (xs : List ℕ) → a < 256 → b < 256 → number_of o 2 (a ∷ b ∷ xs) < 65536
two_fit Little a b xs h k = omega arith
two_fit Big a b xs h k = omega arith

pub four_fit : (o : Order) (a b c d : ℕ) (xs : List ℕ) → a < 256 → b < 256 → c < 256 → d < 256 → number_of o 4 (a ∷ b ∷ c ∷ d ∷ xs) < 2 ^ 32
four_fit Little a b c d xs h k l m = omega arith
four_fit Big a b c d xs h k l m = omega arith

-- ---- the number that is read is the one whose form the bytes are

each_byte : (bs : List ℕ) → AreBytes bs → EachByte bs
each_byte [] h = tt
each_byte (b ∷ bs) h = (h 0, each_byte bs (λ i. h (suc i)))

little_is : (bs : List ℕ) → number_of Little (length bs) bs ≡ number bs
little_is [] = refl
little_is (b ∷ bs) = ap (λ (n : ℕ). b + 256 * n) (little_from-cons 0 (length bs) b bs ∙ little_is bs)

number-push : (bs : List ℕ) (b : ℕ) → number (bs ++ b ∷ []) ≡ number bs + 256 ^ length bs * b
number-push [] b = omega arith
number-push (c ∷ bs) b =
    let more : 256 ^ suc (length bs) * b ≡ 256 ^ length bs * 256 * b = ap (λ (p : ℕ). p * b) (pow-suc 256 (length bs)) in
    omega (arith, number-push bs b, more)

big_is : (bs : List ℕ) → number_of Big (length bs) bs ≡ number (reverse bs)
big_is [] = refl
big_is (b ∷ bs) =
    let front : big_from 0 (length (b ∷ bs)) (b ∷ bs) ≡ b * 256 ^ length bs + number (reverse bs) = ap (λ (n : ℕ). b * 256 ^ length bs + n) (big_from-cons 0 (length bs) b bs ∙ big_is bs) in
    let last : number (reverse (b ∷ bs)) ≡ number (reverse bs) + 256 ^ length bs * b =
    ap number (reverse_onto bs b []) ∙ number-push (reverse bs) b ∙ ap (λ (w : ℕ). number (reverse bs) + 256 ^ w * b) (length-reverse bs) in
    omega (arith, front, last)

pub number_is : (o : Order) (bs : List ℕ) → number_of o (length bs) bs ≡ number_in o bs
number_is Little bs = little_is bs
number_is Big bs = big_is bs

pub one_below : (o : Order) (bs : List ℕ) → AreBytes bs → number_of o (length bs) bs < 256 ^ length bs
one_below o bs h = subst (λ (n : ℕ). n < 256 ^ length bs) (sym (number_is o bs)) (number_in_below o bs (each_byte bs h))

pub one_is : (o : Order) (bs : List ℕ) → AreBytes bs → num (number_of o (length bs) bs) (length bs) o ≡ bs
one_is o bs h = ap (λ (n : ℕ). num n (length bs) o) (number_is o bs) ∙ num-number_in o bs (each_byte bs h)

pub one_only : (o : Order) (w m n : ℕ) → m < 256 ^ w → n < 256 ^ w → num m w o ≡ num n w o → m ≡ n
one_only o w m n h k e = sym (number_in-num o w m h) ∙ ap (number_in o) e ∙ number_in-num o w n k

pub one_signed : (o : Order) (bs : List ℕ) → AreBytes bs → length bs ≡ 4 → (z : ℤ) × FitsSigned w32 z × (num (cast_unsigned w32 z) 4 o ≡ bs) × ((y : ℤ) → FitsSigned w32 y → num (cast_unsigned w32 y) 4 o ≡ bs → y ≡ z)
one_signed o bs h four =
    let n = number_of o 4 bs in
    let small : n < 2 ^ 32 = subst (λ (w : ℕ). number_of o w bs < 256 ^ w) four (one_below o bs h) in
    let back : cast_unsigned w32 (cast_signed w32 n) ≡ n = of_z-to_z w32 n small in
    let is : num n 4 o ≡ bs = subst (λ (w : ℕ). num (number_of o w bs) w o ≡ bs) four (one_is o bs h) in (
      cast_signed w32 n,
      sfits_to_z {w = w32} (Fits-of_lt {w = w32} small),
      ap (λ (k : ℕ). num k 4 o) back ∙ is,
      λ y f e.
          let same : cast_unsigned w32 y ≡ n = one_only o 4 (cast_unsigned w32 y) n (Fits-lt-pow {w = w32} (Fits-of_z {w = w32} f)) small (e ∙ sym is) in
          sym (to_z-of_z w32 y f) ∙ ap (cast_signed w32) same,
    )

pub number_take : (o : Order) (w : ℕ) (xs : List ℕ) → number_of o w (take w xs) ≡ number_of o w xs
number_take Little w xs = little_from-take 0 w w xs (omega arith)
number_take Big w xs = big_from-take 0 w w xs (omega arith)

-- a part of bytes is bytes
pub bytes_take : (w : ℕ) (xs : List ℕ) → AreBytes xs → AreBytes (take w xs)
bytes_take w xs h i =
    elim (cases_lt i w) [
      | inl lt ↦ rw (get_or-take w xs i 0 lt) (h i)
      | inr le ↦ rw (get_or_past (take w xs) i 0 (omega (arith, length-take w xs))) (omega arith)
    ]

pub bytes_drop : (n : ℕ) (xs : List ℕ) → AreBytes xs → AreBytes (drop n xs)
bytes_drop n xs h i = rw get_or-drop (h (n + i))

-- the first bytes are the form of the number that is read of them
pub front_is : (o : Order) (w : ℕ) (xs : List ℕ) → AreBytes xs → w ≤ length xs → num (number_of o w xs) w o ≡ take w xs
front_is o w xs h le =
    let len : length (take w xs) ≡ w = omega (arith, length-take w xs) in
    ap (λ (n : ℕ). num n w o) (sym (number_take o w xs)) ∙ subst (λ (k : ℕ). num (number_of o k (take w xs)) k o ≡ take w xs) len (one_is o (take w xs) (bytes_take w xs h))

pub front_below : (o : Order) (w : ℕ) (xs : List ℕ) → AreBytes xs → w ≤ length xs → number_of o w xs < 256 ^ w
front_below o w xs h le =
    let len : length (take w xs) ≡ w = omega (arith, length-take w xs) in
    subst (λ (n : ℕ). n < 256 ^ w) (number_take o w xs) (subst (λ (k : ℕ). number_of o k (take w xs) < 256 ^ k) len (one_below o (take w xs) (bytes_take w xs h)))

-- the number at the front of bytes that begin with its form
pub number_of-num : (o : Order) (w n : ℕ) (xs : List ℕ) → n < 256 ^ w → number_of o w (num n w o ++ xs) ≡ n
number_of-num o w n xs h =
    let len = length-num o n w in
    sym (number_take o w (num n w o ++ xs))
    ∙ ap (number_of o w) (take_at (num n w o) xs w len)
    ∙ subst (λ (k : ℕ). number_of o k (num n w o) ≡ number_in o (num n w o)) len (number_is o (num n w o))
    ∙ number_in-num o w n h

-- bytes begin with the form of the number that is read at their front
pub one_front : (o : Order) (w : ℕ) (xs : List ℕ) → AreBytes xs → w ≤ length xs → num (number_of o w xs) w o ++ drop w xs ≡ xs
one_front o w xs h le = ap (λ (t : List ℕ). t ++ drop w xs) (front_is o w xs h le) ∙ take-append-drop w xs

-- bytes are the form of one number
pub ruleset number_laws = (one_below, one_is, one_front, one_only)

-- signed numbers pass through their bits
pub ruleset signed = to_z-of_z
