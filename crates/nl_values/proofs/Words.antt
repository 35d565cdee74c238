-- The names of attributes are short words.
use Rattle.std.proofs.Common.{◌≡◌, ◌≤◌, ◌+◌, ◌-◌, ◌==◌, ◌&&◌, ◌||◌, ◌∙◌, ℕ, zero, suc, Bool, true, false, if◌then◌else◌, List, [], ◌∷◌, length, take, drop, Option, Some, None, refl, ap, arith, rules}
use Rattle.std.proofs.lemmas.Bool.{and_parts}
use Rattle.std.proofs.lemmas.List.{length-take}
use Rattle.std.specs.List.{list_all}
use Rattle.std.specs.Prelude.{nat_le, nat_lt, slice_get, slice_range, option_map}
use Rattle.nl_values.specs.Known.{KnownAttribute, attribute_of, is_word, is_word_byte}
use Rattle.nl_values.specs.Rows.{attribute_by, name_at, part, row_at, row_of}
use Rattle.nl_values.specs.declared.rows.AttributeRow.{AttributeRow}
use Rattle.nl_values.specs.declared.rows.SetRow.{SetRow}
use Rattle.nl_values.specs.declared.set.Set.{Set}
use Rattle.nl_values.specs.declared.tables.TheConstants.{ATTRIBUTES, NAMES_OF_ATTRIBUTES, SETS}

-- each element of a part of a list passes where each of the list does
all_taken : {X : Type 0} (p : X → Bool) (n : ℕ) (xs : List X) → list_all p xs ≡ true → list_all p (take n xs) ≡ true
all_taken p zero xs all = refl
all_taken p (suc n) [] all = refl
all_taken p (suc n) (x ∷ xs) all =
    let parts = and_parts (p x) (list_all p xs) all in
    rw (parts.0, all_taken p n xs parts.1) refl

all_dropped : {X : Type 0} (p : X → Bool) (n : ℕ) (xs : List X) → list_all p xs ≡ true → list_all p (drop n xs) ≡ true
all_dropped p zero xs all = all
all_dropped p (suc n) [] all = refl
all_dropped p (suc n) (x ∷ xs) all = all_dropped p n xs (and_parts (p x) (list_all p xs) all).1

-- a fact of one of two
of_either : {X : Type 0} (P : X → Type 0) (b : Bool) (x y : X) → P x → P y → P (if b then x else y)
of_either P true x y p q = p
of_either P false x y p q = q

all_of_part : {X : Type 0} (p : X → Bool) (xs : List X) (from count : ℕ) → list_all p xs ≡ true → list_all p (part xs from count) ≡ true
all_of_part p xs from count all =
    of_either (λ ys. list_all p ys ≡ true) (nat_lt (length xs) (from + count)) [] (slice_range xs from (from + count)) refl
    (all_taken p (from + count - from) (drop from xs) (all_dropped p from xs all))

length_of_part : {X : Type 0} (xs : List X) (from count : ℕ) → length (part xs from count) ≤ count
length_of_part xs from count =
    of_either (λ ys. length ys ≤ count) (nat_lt (length xs) (from + count)) [] (slice_range xs from (from + count)) (omega arith)
    (omega (arith, length-take (from + count - from) (drop from xs)))

-- all texts of names are words
all_words : list_all is_word_byte NAMES_OF_ATTRIBUTES.now ≡ true
all_words = refl

-- a name of at most 40 bytes
abbrev is_short : AttributeRow → Bool
is_short row = nat_le row.label.len 40

all_short : list_all is_short ATTRIBUTES ≡ true
all_short = refl

abbrev IsShort : Option AttributeRow → Type 0
IsShort None = Unit {0}
IsShort (Some row) = is_short row ≡ true

got : (rows : List AttributeRow) (i : ℕ) → list_all is_short rows ≡ true → IsShort (slice_get rows i)
got [] i all = tt
got (row ∷ rows) zero all = (and_parts (is_short row) (list_all is_short rows) all).0
got (row ∷ rows) (suc i) all = got rows i (and_parts (is_short row) (list_all is_short rows) all).1

of_set : (set : Option SetRow) (n : ℕ) → IsShort (row_of set ATTRIBUTES n)
of_set None n = tt
of_set (Some set) n =
    of_either IsShort (set.prefix.len == 0) _ _ (got ATTRIBUTES set.from all_short)
    (of_either IsShort (nat_lt n set.first || nat_le set.count (n - set.first)) None _ tt (got ATTRIBUTES (set.from + (n - set.first)) all_short))

-- the name of a row is a short word
abbrev pub IsWord : Option KnownAttribute → Type 0
IsWord None = Unit {0}
IsWord (Some it) = is_word it.name ≡ true

both : (n : ℕ) (b : Bool) → n ≤ 40 → b ≡ true → (nat_le n 40 && b) ≡ true
both n b short word = grind (arith, short, word)

of_row : (row : Option AttributeRow) → IsShort row → IsWord (option_map (attribute_by NAMES_OF_ATTRIBUTES.now) row)
of_row None short = tt
of_row (Some row) short =
    let text = NAMES_OF_ATTRIBUTES.now in
    let le : row.label.len ≤ 40 = search (rules, short) in
    both (length (name_at text row.label)) (list_all is_word_byte (name_at text row.label))
    (omega (arith, length_of_part text row.label.at row.label.len, le)) (all_of_part is_word_byte text row.label.at row.label.len all_words)

-- the name of an attribute is a short word
pub word : (set : Set) (n : ℕ) → IsWord (attribute_of set n)
unfolding attribute_of
word set n = of_row (row_at SETS ATTRIBUTES set.0 n) (of_set (slice_get SETS set.0) n)
