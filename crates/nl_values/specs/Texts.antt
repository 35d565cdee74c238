-- Which payloads are texts.
use Rattle.std.specs.Prelude.{ℕ, ◌==◌, ◌&&◌, not, nat_lt, nat_le, Bool, true, List, [], ◌∷◌, drop}
use Rattle.std.specs.List.{list_all, before_first, position_or_len}
use Rattle.std.specs.Str.{is_utf8}

-- the bytes in front of the first zero byte
abbrev pub stem_of : List ℕ → List ℕ
stem_of bs = before_first (λ b. b == 0) bs

-- only zero bytes stand behind them
abbrev pub is_ended : List ℕ → Bool
is_ended bs = list_all (λ b. b == 0) (drop (position_or_len (λ b. b == 0) bs) bs)

-- a byte behind another is no part of a control character: below the space, DEL, or C2 and 80 to 9F
abbrev pub is_plain : ℕ → ℕ → Bool
is_plain before b = nat_le 32 b && not (b == 127) && not (before == 194 && nat_lt b 160)

-- so is each of these, behind this one
abbrev pub has_plain : ℕ → List ℕ → Bool
has_plain before [] = true
has_plain before (b ∷ bs) = is_plain before b && has_plain b bs

-- these bytes are a text: valid UTF-8 without controls, and then maybe zero bytes
abbrev pub is_text : List ℕ → Bool
is_text bs = is_ended bs && has_plain 0 (stem_of bs) && is_utf8 (stem_of bs)
