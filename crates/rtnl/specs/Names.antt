-- The names of the bits that a number has.
use Rattle.std.specs.Prelude.{ℕ, ◌==◌, Bool, true, false, List, [], ◌∷◌, ◌++◌, map, filter, codes}
use Rattle.std.specs.Int.RustNames.{bit_and}
use Rattle.std.specs.List.{join_with_byte, list_all}
use Rattle.json.specs.Json.{Json}
use Rattle.rtnl.specs.Json.{is_unescaped, strings}
use Rattle.rtnl.specs.NamedBits.{BitName}

-- the names, in the order of the table, of which the number has all bits
abbrev pub names_set : List BitName → ℕ → List (List ℕ)
names_set table bits = map (λ (row : BitName). row.0) (filter (λ (row : BitName). bit_and bits row.1 == row.1) table)

-- names with commas between them, or a dash where there are none
abbrev pub listed : List (List ℕ) → List ℕ
listed [] = codes "-"
listed (name ∷ names) = join_with_byte 44 (name ∷ names)

-- the names of the bits that are set
unfoldable pub names_text : List BitName → ℕ → List ℕ
names_text table bits = listed (names_set table bits)

-- the same as an array
unfoldable pub names_json : List BitName → ℕ → Json
names_json table bits = strings (names_set table bits)

-- the text of the names that are left, after others or as the first
abbrev pub rest_text : Bool → List (List ℕ) → List ℕ
rest_text false names = listed names
rest_text true [] = []
rest_text true (name ∷ names) = 44 ∷ (name ++ rest_text true names)

-- for private clauses: whether each name stands for itself in a string of JSON
abbrev pub are_unescaped : List BitName → Bool
are_unescaped table = list_all (λ (row : BitName). is_unescaped row.0) table
