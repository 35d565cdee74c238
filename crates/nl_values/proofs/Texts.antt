-- The first zero byte, or the end; and when bytes are a text.
use Rattle.std.proofs.Common.{◌≡◌, ◌≤◌, ◌==◌, ◌&&◌, ℕ, Bool, true, false, not, cond, if◌then◌else◌, ltb, List, length, Some, None, refl, subst, sym, arith, ltb-false, unwrap_or}
use Rattle.std.specs.List.{position, position_or_len}
use Rattle.std.specs.Str.{IsUtf8, is_utf8}
use Rattle.std.proofs.lemmas.List.Sums.{prefix_len-le-length}
use Rattle.std.proofs.lemmas.Str.{IsUtf8-from_is_utf8, is_utf8-from_IsUtf8}
use Rattle.nl_values.specs.Texts.{has_plain, is_ended, is_text, stem_of}

pub or_all : (p : ℕ → Bool) (xs : List ℕ) → unwrap_or (position p xs) (length xs) ≡ position_or_len p xs
or_all p xs = test (ltb (position_or_len p xs) (length xs)) refl where
  test : (b : Bool) → ltb (position_or_len p xs) (length xs) ≡ b → unwrap_or (cond b (Some (position_or_len p xs)) None) (length xs) ≡ position_or_len p xs
  test true e = refl
  test false e = omega (arith, ltb-false (position_or_len p xs) (length xs) e, prefix_len-le-length (λ x. not (p x)) xs)

-- the bytes in front of the first zero byte are no more than all
pub stem_bound : (xs : List ℕ) → position_or_len (λ b. b == 0) xs ≤ length xs
stem_bound xs = prefix_len-le-length (λ x. not (x == 0)) xs

-- bytes that are ended, plain and UTF-8 are a text, which is this stem
pub shown : (bs stem text : List ℕ) → stem ≡ stem_of bs → true ≡ is_ended bs → true ≡ has_plain 0 stem → text ≡ stem → IsUtf8 stem
    → Some text ≡ (if is_text bs then Some (stem_of bs) else None)
shown bs stem text e ended plain same u =
    let p : has_plain 0 (stem_of bs) ≡ true = cc in
    let q : is_utf8 (stem_of bs) ≡ true = is_utf8-from_IsUtf8 (stem_of bs) (subst IsUtf8 e u) in
    rw (← ended, p, q) (cc)

-- bytes whose stem is no UTF-8 are none
pub hidden : (bs stem : List ℕ) → stem ≡ stem_of bs → (IsUtf8 stem → ⊥) → None ≡ (if is_text bs then Some (stem_of bs) else None)
hidden bs stem e broken =
    test (is_ended bs) (has_plain 0 (stem_of bs)) (is_utf8 (stem_of bs)) (λ t. broken (subst IsUtf8 (sym e) (IsUtf8-from_is_utf8 (stem_of bs) t))) where
      test : (x y z : Bool) → (z ≡ true → ⊥) → None ≡ (if x && y && z then Some (stem_of bs) else None)
      test false y z broken = refl
      test true false z broken = refl
      test true true false broken = refl
      test true true true broken = absurd (broken refl)
