-- The line of a recording that names the dump which it answers.
use Rattle.std.specs.Prelude.{◌≡◌, ℕ, ◌^◌, ◌==◌, ◌&&◌, not, nat_lt, if◌then◌else◌, Bool, true, false, List, [], ◌∷◌, ◌++◌, codes, length, take, drop, Option, None, Some, option_map}
use Rattle.std.specs.Char.{is_ascii_digit}
use Rattle.std.specs.List.{find, list_all, position}
use Rattle.std.specs.Str.Parse.{IsNumeral, digits_value}
use Rattle.nl_route.specs.declared.family.Family.{Family}
use Rattle.nl_route.specs.declared.family.Family.TheVariants.{Link, Addr, Route, Neigh, Rule}
use Rattle.nl_route.specs.Families.{name_of}
use Rattle.rtnl.specs.Lines.{is_blank}
use Rattle.rtnl.specs.declared.recordings.heading.Heading.{Heading}

-- how the line says a kind, where it does
abbrev pub kind_text : Option Family → List ℕ
kind_text None = []
kind_text (Some kind) = codes " kind " ++ name_of kind

-- blanks, and nothing else
abbrev pub all_blank : List ℕ → Bool
all_blank bytes = list_all is_blank bytes

-- a line `# seq N port N`, or `# seq N port N kind KIND`, of these numbers and this kind, and blanks behind it
pub record Names (line : List ℕ) (seq port : ℕ) (kind : Option Family) (blanks : List ℕ) : Type 0 where
  pub seq_digits : List ℕ
  pub port_digits : List ℕ
  pub stands : line ≡ codes "# seq " ++ seq_digits ++ codes " port " ++ port_digits ++ kind_text kind ++ blanks
  pub is_seq : IsNumeral 10 seq_digits × (digits_value 10 seq_digits ≡ seq)
  pub is_port : IsNumeral 10 port_digits × (digits_value 10 port_digits ≡ port)
  pub all_blank : all_blank blanks ≡ true

-- ---- what such a line says, from left to right

-- what is behind these words, where bytes begin with them
abbrev pub behind : List ℕ → List ℕ → Option (List ℕ)
behind [] bytes = Some bytes
behind (word ∷ words) [] = None
behind (word ∷ words) (byte ∷ bytes) = if word == byte then behind words bytes else None

abbrev pub or_all : List ℕ → Option ℕ → ℕ
or_all bytes None = length bytes
or_all bytes (Some place) = place

-- how many digits stand at the front
abbrev pub leading_digits : List ℕ → ℕ
leading_digits bytes = or_all bytes (position (λ byte. not (is_ascii_digit byte)) bytes)

-- digits alone, and at least one
abbrev pub is_numeral : List ℕ → Bool
is_numeral bytes = not (length bytes == 0) && list_all is_ascii_digit bytes

abbrev pub number_if : Bool → ℕ → Option ℕ
number_if true number = Some number
number_if false number = None

-- the number of these digits, where there are any, and it is below 2^32
abbrev pub number_in : List ℕ → Option ℕ
number_in digits = number_if (is_numeral digits && nat_lt (digits_value 10 digits) (2 ^ 32)) (digits_value 10 digits)

-- the number at the front, and what is behind it
abbrev pub number_at : List ℕ → Option (ℕ × List ℕ)
number_at bytes = let n = leading_digits bytes in option_map (λ number. (number, drop n bytes)) (number_in (take n bytes))

abbrev pub only_blanks : Option (List ℕ) → Bool
only_blanks None = false
only_blanks (Some rest) = all_blank rest

-- the name of this kind, and blanks
abbrev pub is_named : List ℕ → Family → Bool
is_named words kind = only_blanks (behind (name_of kind) words)

-- all kinds
abbrev pub kinds : List Family
kinds = Link ∷ Addr ∷ Route ∷ Neigh ∷ Rule ∷ []

-- the kind that is named
abbrev pub kind_named : List ℕ → Option Family
kind_named words = find (is_named words) kinds

infixl 10 ◌>>=◌
-- a step, and the next one if the line stands so far
abbrev pub ◌>>=◌ : {A B : Type 0} → Option A → (A → Option B) → Option B
(Some x) >>= f = f x
None >>= f = None

-- the kind that a line's end says, or that it says none; it may end in nothing else
abbrev pub kind_at_end : List ℕ → Option (Option Family)
kind_at_end rest = if all_blank rest then Some None else option_map Some (behind (codes " kind ") rest >>= kind_named)

-- what a line of this form says; no other line says anything
unfoldable pub heading : List ℕ → Option Heading
heading line = do
  rest ← behind (codes "# seq ") line
  seq ← number_at rest
  rest ← behind (codes " port ") seq.1
  port ← number_at rest
  kind ← kind_at_end port.1
  Some (record { numbers = record { seq = seq.0; port = port.0 }; kind = kind })
