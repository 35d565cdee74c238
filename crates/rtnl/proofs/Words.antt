-- The names of attributes stand for themselves in a string of JSON.
use Rattle.rtnl.proofs.Common.{◌≡◌, ◌≤◌, ℕ, true, List, [], ◌∷◌, length, refl, arith, and_parts, list_all, IsUnescaped}
use Rattle.std.proofs.Common.{rules}
use Rattle.json.specs.Run.{is_plain}
use Rattle.nl_values.specs.Known.{is_word, is_word_byte}

plain_byte : (b : ℕ) → is_word_byte b ≡ true → is_plain b ≡ true
plain_byte b word = grind (arith, word)

plain_bytes : (name : List ℕ) → list_all is_word_byte name ≡ true → IsUnescaped name
plain_bytes [] word = refl
plain_bytes (b ∷ bs) word =
    let parts = and_parts (is_word_byte b) (list_all is_word_byte bs) word in
    rw (plain_byte b parts.0, plain_bytes bs parts.1) refl

-- a word needs no escape
pub word_unescaped : (name : List ℕ) → is_word name ≡ true → IsUnescaped name
word_unescaped name word = plain_bytes name (and_parts _ (list_all is_word_byte name) word).1

-- and is short
pub word_short : (name : List ℕ) → is_word name ≡ true → length name ≤ 40
word_short name word = search (rules, (and_parts _ (list_all is_word_byte name) word).0)
