-- Fields that are read of bytes, and written.
use Rattle.std.proofs.Common.{◌≡◌, ℕ, ℤ, zero, suc, ◌+◌, ◌^◌, ◌<◌, ◌≤◌, List, [], ◌∷◌, ◌++◌, length, take, drop, get_or, refl, sym, ap, subst, ◌∙◌, arith, append_assoc, add-zero, length-append, length-drop}
use Rattle.std.specs.Prelude.{FitsSigned}
use Rattle.std.specs.Int.{w32, cast_signed, cast_unsigned}
use Rattle.std.proofs.lemmas.Int.{of_z-to_z, to_z-of_z}
use Rattle.std.proofs.lemmas.List.{take-append-drop, drop-drop, get_or-drop, get_or-take, take_at, drop_at}
use Rattle.std.proofs.Math.Facts.{sfits_to_z, Fits-of_lt, Fits-lt-pow, Fits-of_z}
use Rattle.std.proofs.Math.ListN.{drop_of_length-le}
use Rattle.std.proofs.Math.Seq.{drop-cons, drop-append_seam}
use Rattle.nl_attr.specs.declared.order.Order.{Order}
use Rattle.nl_attr.specs.Numbers.{AreBytes, num, number_of}
use Rattle.nl_attr.proofs.Lemmas.Numbers.{bytes_drop, length-num, front_is, front_below, number_of-num}
use Rattle.nl_route.specs.Fields.{Field, byte, number, signed, pad, AreFields, AreRanged, zeros, written, read_at}

abbrev pub width : Field → ℕ
width (byte n) = 1
width (number w n) = w
width (signed z) = 4
width (pad w) = w

abbrev pub size_of : List Field → ℕ
size_of [] = 0
size_of (f ∷ fs) = width f + size_of fs

-- ---- bytes have the fields that are read of them

first_byte : (place : ℕ) (bytes : List ℕ) → place < length bytes → take 1 (drop place bytes) ≡ get_or bytes place 0 ∷ []
first_byte place bytes h = ap (take 1) (drop-cons bytes place 0 h)

signed_is : (o : Order) (xs : List ℕ) → AreBytes xs → 4 ≤ length xs → take 4 xs ≡ num (cast_unsigned w32 (cast_signed w32 (number_of o 4 xs))) 4 o
signed_is o xs h le = sym (ap (λ (n : ℕ). num n 4 o) (of_z-to_z w32 (number_of o 4 xs) (front_below o 4 xs h le)) ∙ front_is o 4 xs h le)

signed_fits : (o : Order) (xs : List ℕ) → AreBytes xs → 4 ≤ length xs → FitsSigned w32 (cast_signed w32 (number_of o 4 xs))
signed_fits o xs h le = sfits_to_z {w = w32} (Fits-of_lt {w = w32} (front_below o 4 xs h le))

pub read_sound : (o : Order) (fs : List Field) (place : ℕ) (bytes : List ℕ) → AreBytes bytes → place + size_of fs ≡ length bytes → AreFields o (read_at o fs place bytes) (drop place bytes)
read_sound o [] place bytes h e = drop_of_length-le bytes (omega arith)
read_sound o (byte n ∷ fs) place bytes h e =
    (first_byte place bytes (omega arith), h place, subst (AreFields o (read_at o fs (place + 1) bytes)) (sym (drop-drop 1 place bytes)) (read_sound o fs (place + 1) bytes h (omega arith)))
read_sound o (number w n ∷ fs) place bytes h e =
    let le : w ≤ length (drop place bytes) = omega (arith, length-drop place bytes) in (
      sym (front_is o w (drop place bytes) (bytes_drop place bytes h) le),
      front_below o w (drop place bytes) (bytes_drop place bytes h) le,
      subst (AreFields o (read_at o fs (place + w) bytes)) (sym (drop-drop w place bytes)) (read_sound o fs (place + w) bytes h (omega arith)),
    )
read_sound o (signed z ∷ fs) place bytes h e =
    let le : 4 ≤ length (drop place bytes) = omega (arith, length-drop place bytes) in (
      signed_is o (drop place bytes) (bytes_drop place bytes h) le,
      signed_fits o (drop place bytes) (bytes_drop place bytes h) le,
      subst (AreFields o (read_at o fs (place + 4) bytes)) (sym (drop-drop 4 place bytes)) (read_sound o fs (place + 4) bytes h (omega arith)),
    )
read_sound o (pad w ∷ fs) place bytes h e =
    (omega (arith, length-drop place bytes), subst (AreFields o (read_at o fs (place + w) bytes)) (sym (drop-drop w place bytes)) (read_sound o fs (place + w) bytes h (omega arith)))

-- ---- and no others

byte_only : (n place : ℕ) (bytes : List ℕ) → take 1 (drop place bytes) ≡ n ∷ [] → n ≡ get_or bytes place 0
byte_only n place bytes e =
    let front : get_or (take 1 (drop place bytes)) 0 0 ≡ n = ap (λ (t : List ℕ). get_or t 0 0) e in
    let same : get_or (take 1 (drop place bytes)) 0 0 ≡ get_or (drop place bytes) 0 0 = get_or-take 1 (drop place bytes) 0 0 (omega arith) in
    let at : get_or (drop place bytes) 0 0 ≡ get_or bytes place 0 = get_or-drop place bytes 0 0 ∙ ap (λ (i : ℕ). get_or bytes i 0) (add-zero place) in
    sym front ∙ same ∙ at

number_only : (o : Order) (w n : ℕ) (xs : List ℕ) → take w xs ≡ num n w o → n < 256 ^ w → n ≡ number_of o w xs
number_only o w n xs e h =
    let whole : num n w o ++ drop w xs ≡ xs = ap (λ (t : List ℕ). t ++ drop w xs) (sym e) ∙ take-append-drop w xs in
    sym (number_of-num o w n (drop w xs) h) ∙ ap (number_of o w) whole

-- a signed number is four bytes
pub unsigned_below : (z : ℤ) → FitsSigned w32 z → cast_unsigned w32 z < 256 ^ 4
unsigned_below z h = Fits-lt-pow {w = w32} (Fits-of_z {w = w32} h)

signed_only : (o : Order) (z : ℤ) (xs : List ℕ) → take 4 xs ≡ num (cast_unsigned w32 z) 4 o → FitsSigned w32 z → z ≡ cast_signed w32 (number_of o 4 xs)
signed_only o z xs e h = sym (to_z-of_z w32 z h) ∙ ap (cast_signed w32) (number_only o 4 (cast_unsigned w32 z) xs e (unsigned_below z h))

cons_same : {A : Type 0} (x y : A) (xs ys : List A) → x ≡ y → xs ≡ ys → x ∷ xs ≡ y ∷ ys
cons_same x y xs ys e f = cc

pub read_only : (o : Order) (fs : List Field) (place : ℕ) (bytes : List ℕ) → AreFields o fs (drop place bytes) → fs ≡ read_at o fs place bytes
read_only o [] place bytes h = refl
read_only o (byte n ∷ fs) place bytes h =
    cons_same (byte n) (byte (get_or bytes place 0)) fs (read_at o fs (place + 1) bytes) (ap byte (byte_only n place bytes h.0)) (read_only o fs (place + 1) bytes (subst (AreFields o fs) (drop-drop 1 place bytes) h.2))
read_only o (number w n ∷ fs) place bytes h =
    cons_same (number w n) (number w (number_of o w (drop place bytes))) fs (read_at o fs (place + w) bytes) (ap (number w) (number_only o w n (drop place bytes) h.0 h.1))
    (read_only o fs (place + w) bytes (subst (AreFields o fs) (drop-drop w place bytes) h.2))
read_only o (signed z ∷ fs) place bytes h =
    cons_same (signed z) (signed (cast_signed w32 (number_of o 4 (drop place bytes)))) fs (read_at o fs (place + 4) bytes) (ap signed (signed_only o z (drop place bytes) h.0 h.1))
    (read_only o fs (place + 4) bytes (subst (AreFields o fs) (drop-drop 4 place bytes) h.2))
read_only o (pad w ∷ fs) place bytes h = cons_same (pad w) (pad w) fs (read_at o fs (place + w) bytes) refl (read_only o fs (place + w) bytes (subst (AreFields o fs) (drop-drop w place bytes) h.1))

-- ---- what is written of fields is read as them again

-- numbers fit their bytes
abbrev pub DoFit : List Field → Type 0
DoFit [] = Unit {0}
DoFit (byte n ∷ fs) = DoFit fs
DoFit (number w n ∷ fs) = (n < 256 ^ w) × DoFit fs
DoFit (signed z ∷ fs) = FitsSigned w32 z × DoFit fs
DoFit (pad w ∷ fs) = DoFit fs

pub length-zeros : (n : ℕ) → length (zeros n) ≡ n
length-zeros zero = refl
length-zeros (suc n) = ap suc (length-zeros n)

-- one field further
step : (o : Order) (fs : List Field) (front part rest : List ℕ) (w : ℕ) → length part ≡ w → read_at o fs (length (front ++ part)) ((front ++ part) ++ rest) ≡ fs → read_at o fs (length front + w) (front ++ (part ++ rest)) ≡ fs
step o fs front part rest w l e =
    let len : length front + w ≡ length (front ++ part) = omega (arith, length-append front part) in
    ap (λ (p : ℕ). read_at o fs p (front ++ (part ++ rest))) len ∙ ap (read_at o fs (length (front ++ part))) (sym (append_assoc front part rest)) ∙ e

byte_at : (front rest : List ℕ) (n : ℕ) → get_or (front ++ n ∷ rest) (length front) 0 ≡ n
byte_at [] rest n = refl
byte_at (x ∷ front) rest n = byte_at front rest n

number_at : (o : Order) (front rest : List ℕ) (w n : ℕ) → n < 256 ^ w → number_of o w (drop (length front) (front ++ (num n w o ++ rest))) ≡ n
number_at o front rest w n h = ap (number_of o w) (drop-append_seam front (num n w o ++ rest)) ∙ number_of-num o w n rest h

pub read_written : (o : Order) (fs : List Field) (front : List ℕ) → DoFit fs → read_at o fs (length front) (front ++ written o fs) ≡ fs
read_written o [] front h = refl
read_written o (byte n ∷ fs) front h =
    cons_same (byte _) (byte n) _ fs (ap byte (byte_at front (written o fs) n)) (step o fs front (n ∷ []) (written o fs) 1 refl (read_written o fs (front ++ n ∷ []) h))
read_written o (number w n ∷ fs) front h =
    cons_same (number w _) (number w n) _ fs (ap (number w) (number_at o front (written o fs) w n h.0)) (step o fs front (num n w o) (written o fs) w (length-num o n w) (read_written o fs (front ++ num n w o) h.1))
read_written o (signed z ∷ fs) front h =
    let k : ℕ = cast_unsigned w32 z in
    cons_same (signed _) (signed z) _ fs (ap (λ (n : ℕ). signed (cast_signed w32 n)) (number_at o front (written o fs) 4 k (unsigned_below z h.0)) ∙ ap signed (to_z-of_z w32 z h.0))
    (step o fs front (num k 4 o) (written o fs) 4 (length-num o k 4) (read_written o fs (front ++ num k 4 o) h.1))
read_written o (pad w ∷ fs) front h =
    cons_same (pad w) (pad w) _ fs refl (step o fs front (zeros w) (written o fs) w (length-zeros w) (read_written o fs (front ++ zeros w) h))

-- ---- what is written of fields has them

-- the bytes are as many as the fields have, whatever the numbers
pub length-written : (o : Order) (fs : List Field) → length (written o fs) ≡ size_of fs
length-written o [] = refl
length-written o (byte n ∷ fs) = omega (arith, length-written o fs)
length-written o (number w n ∷ fs) = omega (arith, length-append (num n w o) (written o fs), length-num o n w, length-written o fs)
length-written o (signed z ∷ fs) = let k : ℕ = cast_unsigned w32 z in omega (arith, length-append (num k 4 o) (written o fs), length-num o k 4, length-written o fs)
length-written o (pad w ∷ fs) = omega (arith, length-append (zeros w) (written o fs), length-zeros w, length-written o fs)

-- the fields behind a part
behind : (o : Order) (fs : List Field) (part rest : List ℕ) (w : ℕ) → length part ≡ w → AreFields o fs rest → AreFields o fs (drop w (part ++ rest))
behind o fs part rest w e h = subst (AreFields o fs) (sym (drop_at part rest w e)) h

pub written_has_fields : (o : Order) (fs : List Field) → AreRanged fs → AreFields o fs (written o fs)
written_has_fields o [] h = refl
written_has_fields o (byte n ∷ fs) h = (refl, h.0, written_has_fields o fs h.1)
written_has_fields o (number w n ∷ fs) h =
    (take_at (num n w o) (written o fs) w (length-num o n w), h.0, behind o fs (num n w o) (written o fs) w (length-num o n w) (written_has_fields o fs h.1))
written_has_fields o (signed z ∷ fs) h =
    let k : ℕ = cast_unsigned w32 z in
    (take_at (num k 4 o) (written o fs) 4 (length-num o k 4), h.0, behind o fs (num k 4 o) (written o fs) 4 (length-num o k 4) (written_has_fields o fs h.1))
written_has_fields o (pad w ∷ fs) h =
    (omega (arith, length-append (zeros w) (written o fs), length-zeros w), behind o fs (zeros w) (written o fs) w (length-zeros w) (written_has_fields o fs h))

-- numbers that bytes have are in the ranges of their fields
pub fields_are_ranged : (o : Order) (fs : List Field) (bytes : List ℕ) → AreFields o fs bytes → AreRanged fs
fields_are_ranged o [] bytes h = tt
fields_are_ranged o (byte n ∷ fs) bytes h = (h.1, fields_are_ranged o fs (drop 1 bytes) h.2)
fields_are_ranged o (number w n ∷ fs) bytes h = (h.1, fields_are_ranged o fs (drop w bytes) h.2)
fields_are_ranged o (signed z ∷ fs) bytes h = (h.1, fields_are_ranged o fs (drop 4 bytes) h.2)
fields_are_ranged o (pad w ∷ fs) bytes h = fields_are_ranged o fs (drop w bytes) h.1
