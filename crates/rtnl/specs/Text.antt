-- The words of the printed text, as lists of bytes.
use Rattle.std.specs.Prelude.{ℕ, ◌-◌, false, List, [], ◌∷◌, ◌++◌, length, replicate, codes}
use Rattle.std.specs.Fmt.{digits}
use Rattle.hex.specs.Hex.{encode_lower}

-- texts one after another, grouped to the right
infixr 60 ◌⨟◌
abbrev pub ◌⨟◌ : List ℕ → List ℕ → List ℕ
first ⨟ rest = first ++ rest

-- a number in lower-case hexadecimal, with zeros before it up to this many digits
unfoldable pub padded_hex : ℕ → ℕ → List ℕ
padded_hex width n = replicate (width - length (digits 16 false n)) 48 ++ digits 16 false n

-- bytes in lower-case hexadecimal, or a dash where there are none
unfoldable pub hex_text : List ℕ → List ℕ
hex_text [] = codes "-"
hex_text (byte ∷ bytes) = encode_lower (byte ∷ bytes)
