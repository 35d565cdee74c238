-- The texts of the tables are ASCII, so a part of one is a text. Each is computed.
use Rattle.std.proofs.Common.{◌≡◌, ◌&&◌, ℕ, zero, suc, Bool, true, false, List, [], ◌∷◌, refl, ltb, ltb-true, arith}
use Rattle.std.specs.List.{list_all}
use Rattle.std.specs.Str.{IsAscii}
use Rattle.nl_values.specs.declared.tables.TheConstants.{NAMES_OF_ATTRIBUTES, NAMES_OF_FIELDS, NAMES_OF_VALUES}

-- a byte is ASCII
abbrev is_ascii : ℕ → Bool
is_ascii b = ltb b 128

both : (x y : Bool) → (x && y) ≡ true → (x ≡ true) × (y ≡ true)
both true y e = (refl, e)
both false y e = absurd (cc)

ascii : (text : List ℕ) → list_all is_ascii text ≡ true → IsAscii text
ascii [] e i = omega arith
ascii (b ∷ bs) e zero = ltb-true b 128 (both (ltb b 128) (list_all is_ascii bs) e).0
ascii (b ∷ bs) e (suc i) = ascii bs (both (ltb b 128) (list_all is_ascii bs) e).1 i

pub attributes : IsAscii NAMES_OF_ATTRIBUTES.now
attributes = ascii NAMES_OF_ATTRIBUTES.now refl

pub fields : IsAscii NAMES_OF_FIELDS.now
fields = ascii NAMES_OF_FIELDS.now refl

pub values : IsAscii NAMES_OF_VALUES.now
values = ascii NAMES_OF_VALUES.now refl
