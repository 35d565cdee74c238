-- Where lines end, and whether they have blanks, by searches of bytes.
use Rattle.rtnl.proofs.Common.{◌≡◌, ◌==◌, ◌||◌, ℕ, ◌+◌, ◌<◌, ◌≤◌, Bool, true, false, cond, List, [], ◌∷◌, ◌++◌, get_or, take, drop, length, Option, Some, None, refl, sym, ap, ◌∙◌, append_assoc, arith, common_steps, count_by-le-length, sum_by-cons, onto_first, sum_by, drop_more, take-append-drop, length-slice_split, slice_split_at, slice_split_none, Bor, is_blank, is_newline, lines_left, lines_of}
use Rattle.std.specs.List.{All, list_any}
use Rattle.std.specs.Option.{is_some}
use Rattle.std.proofs.lemmas.Bool.{eqb-true}
use Rattle.std.proofs.lemmas.List.Elements.{All-from_get_or}
use Rattle.std.proofs.lemmas.List.Folds.{list_any_at, list_any_none}
use Rattle.memchr.specs.Find.{IsFirstByte, NoneBefore, Nowhere, Passes, is_byte, is_byte3}
use Rattle.std.specs.Iterator.{YieldsFirstRef}
use Rattle.std.proofs.lemmas.Iterator.{YieldsList}
use Rattle.std.proofs.lemmas.Iterator.Consumers.{YieldsList-from_first}
use Rattle.rtnl.specs.declared.recordings.lines.Lines.{Lines}

pub fails : (b : Bool) → (b ≡ true → ⊥) → b ≡ false
fails true never = absurd (never refl)
fails false never = refl

-- no byte passes
none_pass : (test : ℕ → Bool) (xs : List ℕ) → Nowhere (Passes test xs) 0 (length xs) → All (λ x. test x ≡ false) xs
none_pass test xs none = All-from_get_or (λ x. test x ≡ false) xs 0 (λ i below. fails (test (get_or xs i 0)) (none i (omega arith) below))

-- no byte of the front passes
none_pass_before : (test : ℕ → Bool) (xs : List ℕ) (k : ℕ) → NoneBefore (Passes test xs) 0 (length xs) k → All (λ x. test x ≡ false) (take k xs)
none_pass_before test xs k none =
    All-from_get_or (λ x. test x ≡ false) (take k xs) 0 (λ i below.
    let within : i < k = grind (arith, common_steps) in
    let same : get_or (take k xs) i 0 ≡ get_or xs i 0 = grind (arith, common_steps) in
    rw same (fails (test (get_or xs i 0)) (none.before i (omega arith) within)))

-- an input with no newline is one line
pub last_line : (xs : List ℕ) → Nowhere (Passes (is_byte 10) xs) 0 (length xs) → lines_of xs ≡ xs ∷ []
last_line xs none = slice_split_none is_newline xs (none_pass (is_byte 10) xs none)

-- what stands before the first newline is one line
pub first_line : (xs : List ℕ) (k : ℕ) → NoneBefore (Passes (is_byte 10) xs) 0 (length xs) k → lines_of (take k xs) ≡ take k xs ∷ []
first_line xs k none = slice_split_none is_newline (take k xs) (none_pass_before (is_byte 10) xs k none)

-- with the newline and what is behind it that is all
pub line_parts : (xs : List ℕ) (k : ℕ) → NoneBefore (Passes (is_byte 10) xs) 0 (length xs) k → Passes (is_byte 10) xs k → (take k xs ++ 10 ∷ []) ++ drop (k + 1) xs ≡ xs
line_parts xs k none here =
    append_assoc (take k xs) (10 ∷ []) (drop (k + 1) xs) ∙ ap (λ b. take k xs ++ b ∷ drop (k + 1) xs) (sym (eqb-true (get_or xs k 0) 10 here))
    ∙ ap (λ r. take k xs ++ r) (sym (drop_more xs k 0 none.high)) ∙ take-append-drop k xs

-- the first newline ends the first line
pub line_found : (xs : List ℕ) (k : ℕ) → NoneBefore (Passes (is_byte 10) xs) 0 (length xs) k → Passes (is_byte 10) xs k →
    lines_of xs ≡ take k xs ∷ lines_of (drop (k + 1) xs)
line_found xs k none here =
    let below : k < length xs = none.high in
    let whole : take k xs ++ get_or xs k 0 ∷ drop (k + 1) xs ≡ xs = ap (λ r. take k xs ++ r) (sym (drop_more xs k 0 below)) ∙ take-append-drop k xs in
    ap lines_of (sym whole) ∙ slice_split_at is_newline (take k xs) (get_or xs k 0) (drop (k + 1) xs) (none_pass_before (is_byte 10) xs k none) here

-- an input has no more lines than bytes, and one
pub length-lines_of : (input : List ℕ) → length (lines_of input) ≤ length input + 1
length-lines_of input = omega (arith, length-slice_split is_newline input, count_by-le-length is_newline input)

longer_first : (byte : ℕ) (parts : List (List ℕ)) (ends : Bool) → sum_by length (cond ends ([] ∷ parts) (onto_first byte parts)) ≤ 1 + sum_by length parts
longer_first byte parts true = omega (arith, sum_by-cons length [] parts)
longer_first byte [] false = omega arith
longer_first byte (part ∷ parts) false = omega (arith, sum_by-cons length (byte ∷ part) parts, sum_by-cons length part parts)

-- the lines of an input have no more bytes than it
pub total-lines_of : (input : List ℕ) → sum_by length (lines_of input) ≤ length input
total-lines_of [] = omega arith
total-lines_of (byte ∷ input) = omega (arith, longer_first byte (lines_of input) (is_newline byte), total-lines_of input)

-- what the lines of an input give
pub YieldsList-lines : {s : Lines} (input : List ℕ) → lines_left s.0 ≡ lines_of input →
    YieldsList (YieldsFirstRef (λ (t : Lines). lines_left t.0)) (λ (x : Bor (List ℕ)). x.now) s (lines_of input)
YieldsList-lines input is = YieldsList-from_first (λ x. x.now) (λ (t : Lines). lines_left t.0) (lines_of input) is

or_from_left : (a b c : Bool) → (a || (b || c)) ≡ ((a || b) || c)
or_from_left true b c = refl
or_from_left false b c = refl

one_of_three : (x : ℕ) → is_blank x ≡ is_byte3 32 9 13 x
one_of_three x = or_from_left (x == 32) (x == 9) (x == 13)

-- a line with a blank is one where a blank is found
pub blank_found : (xs : List ℕ) (r : Option ℕ) → IsFirstByte (is_byte3 32 9 13) xs r → is_some r ≡ list_any is_blank xs
blank_found xs None none = sym (list_any_none is_blank xs (λ k d below. one_of_three (get_or xs k d) ∙ none_pass (is_byte3 32 9 13) xs none k d below))
blank_found xs (Some k) found = sym (list_any_at is_blank xs k 0 found.0.high (one_of_three (get_or xs k 0) ∙ found.1))
