-- Values of JSON (RFC 8259), and the line that each is written as.
use Rattle.std.specs.Prelude.{◌≡◌, ℕ, ℤ, List, [], ◌∷◌, ◌++◌, map, codes, Bool, true, false, cond}
use Rattle.std.specs.Fmt.{decimal, signed_decimal}
use Rattle.std.specs.List.{flat_map, list_all}
use Rattle.hex.specs.Hex.{encode_lower}
use Rattle.json.specs.Json as json
use Rattle.json.specs.Print.{ends, print, separator, token_text}
use Rattle.json.specs.Run.{is_plain}
use Rattle.json.specs.Token.{Token, begin_object, key}
use Rattle.json.specs.Tree.{json_tokens}

-- a name, and the value that stands behind it
abbrev pub Field : Type 0
Field = List ℕ × json.Json

-- the members of an object
abbrev pub members_of : List Field → json.Members
members_of [] = json.no_members
members_of (field ∷ fields) = json.member field.0 field.1 (members_of fields)

-- the object of these fields, in their order
unfoldable pub object : List Field → json.Json
object fields = json.object (members_of fields)

-- the items of an array
abbrev pub items_of : List json.Json → json.Items
items_of [] = json.no_items
items_of (value ∷ values) = json.item value (items_of values)

-- the array of these values, in their order
unfoldable pub array : List json.Json → json.Json
array values = json.array (items_of values)

-- a number
abbrev pub number : ℕ → json.Json
number n = json.number (decimal n)

-- a number with a sign
abbrev pub signed : ℤ → json.Json
signed z = json.number (signed_decimal z)

-- true or false
abbrev pub boolean : Bool → json.Json
boolean b = json.boolean b

-- a string
abbrev pub string : List ℕ → json.Json
string text = json.string text

-- bytes as a string of lower-case hexadecimal digits
abbrev pub digits : List ℕ → json.Json
digits bytes = json.string (encode_lower bytes)

-- strings
abbrev pub strings : List (List ℕ) → json.Json
strings texts = array (map string texts)

-- the text of a value with no space in it, and the byte that ends a line
unfoldable pub json_line : json.Json → List ℕ
json_line value = print (json_tokens value) ++ codes "\n"

-- ---- for private clauses: what is written of a line

-- the text of a value
abbrev pub value_text : json.Json → List ℕ
value_text value = print (json_tokens value)

-- whether each byte of a text stands for itself in a string
abbrev pub is_unescaped : List ℕ → Bool
is_unescaped text = list_all is_plain text

-- it does
abbrev pub IsUnescaped : List ℕ → Type 0
IsUnescaped text = is_unescaped text ≡ true

-- the text so far, and whether a value has just ended in it
pub record Line : Type 0 where
  pub text : List ℕ
  pub after : Bool

-- a line, and a token more
abbrev pub put : Line → Token → Line
put line t = record { text = line.text ++ (separator line.after t ++ token_text t); after = ends t }

infixl 60 ◌⊕◌
-- a line, and tokens more
unfoldable pub ◌⊕◌ : Line → List Token → Line
line ⊕ [] = line
line ⊕ (t ∷ ts) = put line t ⊕ ts

-- what stands before a token that begins
abbrev pub comma : Bool → List ℕ
comma after = cond after (44 ∷ []) []

-- a line, and the text of tokens of which the first begins
abbrev pub opened : Line → List ℕ → Bool → Line
opened line words after = record { text = line.text ++ (comma line.after ++ words); after = after }

-- a line, and words that end a value
abbrev pub closed : Line → List ℕ → Line
closed line words = record { text = line.text ++ words; after = true }

-- the tokens of fields
unfoldable pub fields_tokens : List Field → List Token
fields_tokens [] = []
fields_tokens (field ∷ fields) = key field.0 ∷ (json_tokens field.1 ++ fields_tokens fields)

-- the tokens of values
abbrev pub values_tokens : List json.Json → List Token
values_tokens values = flat_map json_tokens values

-- a line behind others
abbrev pub behind : List ℕ → Line
behind lines = record { text = lines; after = false }

-- the same, on which an object is begun
unfoldable pub object_behind : List ℕ → Line
object_behind lines = behind lines ⊕ (begin_object ∷ [])
