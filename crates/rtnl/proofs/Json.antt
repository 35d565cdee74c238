-- What is written of a line, a token after another.
use Rattle.std.specs.Fmt.{signed_decimal}
use Rattle.std.proofs.Common.{◌≡◌, ◌+◌, ℕ, ℤ, [], ◌∷◌, ◌++◌, Bool, true, false, cond, List, Some, drop, arith, append_assoc, append-nil, ap, ap₂, codes, decimal, refl, sym, ◌∙◌}
use Rattle.rtnl.proofs.Common.{and_parts, items_tokens, json_tokens, members_tokens, encode_lower}
use Rattle.json.specs.Json.{Json}
use Rattle.json.specs.Print.{begins, ends, escape, escape_byte, print, print_from, quoted, separator, token_text}
use Rattle.json.specs.Run.{is_plain}
use Rattle.json.specs.Token.{Token, begin_array, begin_object, boolean, end_array, end_object, key, null}
use Rattle.json.specs.Token as token
use Rattle.json.proofs.Printed.Strings.{escape_byte_plain}
use Rattle.rtnl.specs.Data.{value_json}
use Rattle.rtnl.specs.MessagesJson.{form_tokens, reading_fields, reading_json}
use Rattle.rtnl.specs.Values.{Reading, ipv4_text, ipv6_text}
use Rattle.rtnl.specs.Values as values
use Rattle.rtnl.specs.Json.{Field, IsUnescaped, Line, ◌⊕◌, array, behind, closed, comma, fields_tokens, is_unescaped, items_of, json_line, members_of, number, object, object_behind, opened, put, signed, string, value_text, values_tokens}

-- a byte that stands for itself
one_byte : (x : ℕ) → is_plain x ≡ true → escape_byte x ≡ x ∷ []
one_byte x plain = escape_byte_plain x (grind arith) (grind arith) (grind arith)

-- bytes that stand for themselves need no escape
pub no_escape : (text : List ℕ) → IsUnescaped text → escape text ≡ text
no_escape [] plain = refl
no_escape (x ∷ text) plain =
    let parts = and_parts (is_plain x) (is_unescaped text) plain in
    ap₂ (λ a b. a ++ b) (one_byte x parts.0) (no_escape text parts.1)

-- what stands before a token that begins
separated : (after : Bool) (t : Token) → begins t ≡ true → separator after t ≡ comma after
separated false t begun = refl
separated true t begun = ap (λ b. cond b (44 ∷ []) []) begun

-- what stands before any other
unseparated : (after : Bool) (t : Token) → begins t ≡ false → separator after t ≡ []
unseparated false t begun = refl
unseparated true t begun = ap (λ b. cond b (44 ∷ []) []) begun

-- whether a value has just ended behind tokens
abbrev pub ended : Bool → List Token → Bool
ended after [] = after
ended after (t ∷ ts) = ended (ends t) ts

-- the text of tokens behind a line
pub written : (w : Line) (ts : List Token) → w ⊕ ts ≡ record { text = w.text ++ print_from w.after ts; after = ended w.after ts }
unfolding ◌⊕◌ print_from
written w [] = λ i. record { text = sym (append-nil w.text) i; after = w.after }
written w (t ∷ ts) =
    let s = separator w.after t in
    let rest = print_from (ends t) ts in
    let text = append_assoc w.text (s ++ token_text t) rest ∙ ap (λ l. w.text ++ l) (append_assoc s (token_text t) rest) in
    written (put w t) ts ∙ λ i. record { text = text i; after = ended (ends t) ts }

-- the text of tokens of which the first begins
pub opens : (w : Line) (t : Token) (ts : List Token) (words : List ℕ) (after : Bool) → begins t ≡ true → words ≡ print (t ∷ ts) → after ≡ ended false (t ∷ ts) → opened w words after ≡ w ⊕ (t ∷ ts)
unfolding print_from
opens w t ts words after begun text is =
    (λ i. record { text = w.text ++ (sym (separated w.after t begun) i ++ text i); after = is i }) ∙ sym (written w (t ∷ ts))

-- a token whose text is written in two parts
pub one_token : (w line : Line) (words rest : List ℕ) (after : Bool) (t : Token) (text : List ℕ) → line ≡ opened w words after → text ≡ line.text ++ rest → begins t ≡ true → words ++ rest ≡ token_text t → after ≡ ends t
    → record { text = text; after = line.after } ≡ w ⊕ (t ∷ [])
unfolding print_from
one_token w line words rest after t text is grown begun whole ended =
    let all : text ≡ w.text ++ (comma w.after ++ token_text t) =
    grown ∙ ap (λ l. l.text ++ rest) is ∙ append_assoc w.text (comma w.after ++ words) rest
    ∙ ap (λ x. w.text ++ x) (append_assoc (comma w.after) words rest ∙ ap (λ x. comma w.after ++ x) whole) in
    (λ i. record { text = all i; after = (is i).after }) ∙ opens w t [] (token_text t) after begun (sym (append-nil (token_text t))) ended

-- a token that ends a value and begins none
pub closes : (w : Line) (t : Token) → begins t ≡ false → ends t ≡ true → closed w (token_text t) ≡ w ⊕ (t ∷ [])
unfolding ◌⊕◌
closes w t begun is = λ i. record { text = w.text ++ (sym (unseparated w.after t begun) i ++ token_text t); after = sym is i }

-- tokens, and then others
pub more : (w : Line) (a b : List Token) → (w ⊕ a) ⊕ b ≡ w ⊕ (a ++ b)
unfolding ◌⊕◌
more w [] b = refl
more w (t ∷ ts) b = more (put w t) ts b

-- the tokens of fields, and then the brace that closes their object
members : (fields : List Field) → members_tokens (members_of fields) ≡ fields_tokens fields ++ end_object ∷ []
unfolding fields_tokens
members [] = refl
members (field ∷ fields) = ap (λ ts. key field.0 ∷ ts) (ap (λ ts. json_tokens field.1 ++ ts) (members fields) ∙ sym (append_assoc (json_tokens field.1) (fields_tokens fields) (end_object ∷ [])))

-- the tokens of an object
pub tokens_object : (fields : List Field) → json_tokens (object fields) ≡ begin_object ∷ (fields_tokens fields ++ end_object ∷ [])
unfolding object
tokens_object fields = ap (λ ts. begin_object ∷ ts) (members fields)

-- the tokens of values, and then the bracket that closes their array
items : (values : List Json) → items_tokens (items_of values) ≡ values_tokens values ++ end_array ∷ []
items [] = refl
items (value ∷ values) = ap (λ ts. json_tokens value ++ ts) (items values) ∙ sym (append_assoc (json_tokens value) (values_tokens values) (end_array ∷ []))

-- the tokens of an array
pub tokens_array : (values : List Json) → json_tokens (array values) ≡ begin_array ∷ (values_tokens values ++ end_array ∷ [])
unfolding array
tokens_array values = ap (λ ts. begin_array ∷ ts) (items values)

-- fields, and then others
tokens_fields : (first rest : List Field) → fields_tokens (first ++ rest) ≡ fields_tokens first ++ fields_tokens rest
unfolding fields_tokens
tokens_fields [] rest = refl
tokens_fields (field ∷ fields) rest = ap (λ ts. key field.0 ∷ ts) (ap (λ ts. json_tokens field.1 ++ ts) (tokens_fields fields rest) ∙ sym (append_assoc (json_tokens field.1) (fields_tokens fields) (fields_tokens rest)))

-- one field
pub one_field : (name : List ℕ) (value : Json) → fields_tokens ((name, value) ∷ []) ≡ key name ∷ json_tokens value
unfolding fields_tokens
one_field name value = ap (λ ts. key name ∷ ts) (append-nil (json_tokens value))

-- fields that are written after others
pub more_fields : (w : Line) (first rest : List Field) → (w ⊕ fields_tokens first) ⊕ fields_tokens rest ≡ w ⊕ fields_tokens (first ++ rest)
more_fields w first rest = more w (fields_tokens first) (fields_tokens rest) ∙ ap (λ ts. w ⊕ ts) (sym (tokens_fields first rest))

-- no token more
pub no_more : (w : Line) → w ⊕ [] ≡ w
unfolding ◌⊕◌
no_more w = refl

-- an object
pub an_object : (w a b c : Line) (fields : List Field) → a ≡ w ⊕ (begin_object ∷ []) → b ≡ a ⊕ fields_tokens fields → c ≡ b ⊕ (end_object ∷ []) → c ≡ w ⊕ json_tokens (object fields)
an_object w a b c fields begun written ended = rw (ended, written, begun) (simp (more, tokens_object))

-- an array
pub an_array : (w a b c : Line) (values : List Json) → a ≡ w ⊕ (begin_array ∷ []) → b ≡ a ⊕ values_tokens values → c ≡ b ⊕ (end_array ∷ []) → c ≡ w ⊕ json_tokens (array values)
an_array w a b c values begun written ended = rw (ended, written, begun) (simp (more, tokens_array))

-- the name of a field, and then its value
pub named_value : (w a d : Line) (name : List ℕ) (value : Json) → a ≡ w ⊕ (key name ∷ []) → d ≡ a ⊕ json_tokens value → d ≡ w ⊕ fields_tokens ((name, value) ∷ [])
named_value w a d name value named written = rw (written, named) (simp (more, one_field))

-- an object of fields that are written in two parts, before other values
pub an_item : (w a b c d : Line) (first rest : List Field) (others : List Json) → a ≡ w ⊕ (begin_object ∷ []) → b ≡ a ⊕ fields_tokens first → c ≡ b ⊕ fields_tokens rest → d ≡ c ⊕ (end_object ∷ [])
    → d ⊕ values_tokens others ≡ w ⊕ values_tokens (object (first ++ rest) ∷ others)
an_item w a b c d first rest others begun front held ended =
    ap (λ l. l ⊕ values_tokens others) (an_object w a c d (first ++ rest) begun (held ∙ ap (λ l. l ⊕ fields_tokens rest) front ∙ more_fields a first rest) ended)
    ∙ more w (json_tokens (object (first ++ rest))) (values_tokens others)

-- fields, and then others
pub then_fields : (w a b : Line) (first rest : List Field) → a ≡ w ⊕ fields_tokens first → b ≡ a ⊕ fields_tokens rest → b ≡ w ⊕ fields_tokens (first ++ rest)
then_fields w a b first rest e h = h ∙ ap (λ l. l ⊕ fields_tokens rest) e ∙ more_fields w first rest

-- no field more
pub no_field : (w : Line) → w ⊕ fields_tokens [] ≡ w
unfolding fields_tokens
no_field w = no_more w

-- one value more
pub next_written : {X : Type 0} (values : List X → List Json) (xs : List X) (i : ℕ) (x : X) (value : Json) (line new all : Line) → drop i xs ≡ x ∷ drop (i + 1) xs
    → values (x ∷ drop (i + 1) xs) ≡ value ∷ values (drop (i + 1) xs) → new ≡ line ⊕ json_tokens value
    → line ⊕ values_tokens (values (drop i xs)) ≡ all → new ⊕ values_tokens (values (drop (i + 1) xs)) ≡ all
next_written values xs i x value line new all here front step h =
    ap (λ l. l ⊕ values_tokens (values (drop (i + 1) xs))) step ∙ more line (json_tokens value) (values_tokens (values (drop (i + 1) xs)))
    ∙ sym (ap (λ vs. line ⊕ values_tokens vs) (ap values here ∙ front)) ∙ h

-- fields that are put together
pub fields_together : (w : Line) (fields : List Field) (words : List ℕ) → words ≡ print (fields_tokens fields) → true ≡ ended false (fields_tokens fields) → opened w words true ≡ w ⊕ fields_tokens fields
unfolding fields_tokens
fields_together w [] words text is = absurd cc
fields_together w (field ∷ fields) words text is = opens w (key field.0) (json_tokens field.1 ++ fields_tokens fields) words true refl text is

-- the text of a string that needs no escape
pub string_text : (text : List ℕ) → IsUnescaped text → value_text (string text) ≡ 34 ∷ (text ++ codes "\"")
unfolding print_from
string_text text plain = append-nil (quoted text) ∙ ap (λ t. 34 ∷ (t ++ codes "\"")) (no_escape text plain)

-- an object that is ended, and the byte that ends its line
pub whole_line : (before : List ℕ) (fields : List Field) (line : Line) → line ≡ object_behind before ⊕ fields_tokens fields → line.text ++ codes "}\n" ≡ before ++ json_line (object fields)
unfolding object_behind json_line ◌⊕◌
whole_line before fields line is =
    let last = line ⊕ (end_object ∷ []) in
    let all : last ≡ behind before ⊕ json_tokens (object fields) = an_object (behind before) (object_behind before) line last fields refl is refl in
    let text : (line.text ++ codes "}") ≡ before ++ print (json_tokens (object fields)) =
    ap (λ l. l.text) (closes line end_object refl refl ∙ all ∙ written (behind before) (json_tokens (object fields))) in
    sym (append_assoc line.text (codes "}") (codes "\n")) ∙ ap (λ t. t ++ codes "\n") text ∙ append_assoc before (print (json_tokens (object fields))) (codes "\n")

-- ---- the tokens whose text is fixed

pub begun_object : (w : Line) → opened w (codes "{") false ≡ w ⊕ (begin_object ∷ [])
unfolding print_from
begun_object w = opens w begin_object [] (codes "{") false refl refl refl

pub begun_array : (w : Line) → opened w (codes "[") false ≡ w ⊕ (begin_array ∷ [])
unfolding print_from
begun_array w = opens w begin_array [] (codes "[") false refl refl refl

pub ended_object : (w : Line) → closed w (codes "}") ≡ w ⊕ (end_object ∷ [])
ended_object w = closes w end_object refl refl

pub ended_array : (w : Line) → closed w (codes "]") ≡ w ⊕ (end_array ∷ [])
ended_array w = closes w end_array refl refl

pub null_written : (w : Line) → opened w (codes "null") true ≡ w ⊕ (null ∷ [])
unfolding print_from
null_written w = opens w null [] (codes "null") true refl refl refl

pub truth_written : (w : Line) → opened w (codes "true") true ≡ w ⊕ (boolean true ∷ [])
unfolding print_from
truth_written w = opens w (boolean true) [] (codes "true") true refl refl refl

pub falsehood_written : (w : Line) → opened w (codes "false") true ≡ w ⊕ (boolean false ∷ [])
unfolding print_from
falsehood_written w = opens w (boolean false) [] (codes "false") true refl refl refl

-- ---- tokens that are written in parts

-- tokens that are put together, of which the first is a key
pub tokens_put : (w : Line) (name : List ℕ) (ts : List Token) → w ⊕ (key name ∷ ts) ≡ opened w (print (key name ∷ ts)) (ended false (key name ∷ ts))
tokens_put w name ts = sym (opens w (key name) ts _ _ refl refl refl)

-- a string
pub quoted_written : (w : Line) (text : List ℕ) → w ⊕ (token.string text ∷ []) ≡ record { text = (w.text ++ (comma w.after ++ [])) ++ quoted text; after = true }
quoted_written w text = sym (one_token w (opened w [] true) [] (quoted text) true (token.string text) _ refl refl refl refl refl)

-- a string that needs no escape
pub plain_written : (w : Line) (text : List ℕ) → IsUnescaped text → w ⊕ (token.string text ∷ []) ≡ record { text = ((w.text ++ (comma w.after ++ codes "\"")) ++ text) ++ codes "\""; after = true }
plain_written w text plain =
    sym (one_token w (opened w (codes "\"") true) (codes "\"") (text ++ codes "\"") true (token.string text) _ refl (append_assoc _ text (codes "\"")) refl
    (ap (λ s. 34 ∷ (s ++ codes "\"")) (sym (no_escape text plain))) refl)

-- the name of a field
pub key_written : (w : Line) (name : List ℕ) → IsUnescaped name → w ⊕ (key name ∷ []) ≡ record { text = ((w.text ++ (comma w.after ++ codes "\"")) ++ name) ++ codes "\":"; after = false }
key_written w name plain =
    sym (one_token w (opened w (codes "\"") false) (codes "\"") (name ++ codes "\":") false (key name) _ refl (append_assoc _ name (codes "\":")) refl
    (ap (λ s. 34 ∷ (s ++ codes "\":")) (sym (no_escape name plain)) ∙ sym (append_assoc (34 ∷ escape name) (codes "\"") (codes ":"))) refl)

-- the name of a field, of which some bytes may need an escape
pub name_written : (w : Line) (name : List ℕ) → w ⊕ (key name ∷ []) ≡ record { text = ((w.text ++ (comma w.after ++ [])) ++ quoted name) ++ codes ":"; after = false }
name_written w name =
    sym (one_token w (opened w [] false) [] (quoted name ++ codes ":") false (key name) _ refl (append_assoc _ (quoted name) (codes ":")) refl refl refl)

-- the name of the field that says what bytes mean
pub data_named : (w : Line) → opened w (codes "\"data\":") false ≡ w ⊕ (key (codes "data") ∷ [])
unfolding print_from escape_byte
data_named w = opens w (key (codes "data")) [] (codes "\"data\":") false refl refl refl

-- the number of a place as the name of a field
pub place_written : (w line : Line) (place : ℕ) (text : List ℕ) → IsUnescaped (decimal place) → line ≡ opened w (codes "\"" ++ (decimal place ++ [])) false → text ≡ line.text ++ codes "\":"
    → record { text = text; after = line.after } ≡ w ⊕ (key (decimal place) ∷ [])
place_written w line place text plain is grown =
    let digits = decimal place in
    one_token w line (codes "\"" ++ (digits ++ [])) (codes "\":") false (key digits) text is grown refl
    (ap (λ s. 34 ∷ (s ++ codes "\":")) (append-nil digits ∙ sym (no_escape digits plain)) ∙ sym (append_assoc (34 ∷ escape digits) (codes "\"") (codes ":"))) refl

-- a text in quotes
pub quoted_behind : (out text : List ℕ) → IsUnescaped text → out ++ quoted text ≡ ((out ++ codes "\"") ++ text) ++ codes "\""
quoted_behind out text plain = rw (no_escape text plain) (simp append_assoc)

-- ---- what is put together

-- the text of tokens, and of others behind them
print_more : (after : Bool) (a b : List Token) → print_from after (a ++ b) ≡ print_from after a ++ print_from (ended after a) b
unfolding print_from
print_more after [] b = refl
print_more after (t ∷ ts) b =
    let s = separator after t in
    let first = print_from (ends t) ts in
    let rest = print_from (ended (ends t) ts) b in
    ap (λ l. s ++ (token_text t ++ l)) (print_more (ends t) ts b)
    ∙ sym (append_assoc s (token_text t ++ first) rest ∙ ap (λ l. s ++ l) (append_assoc (token_text t) first rest))

-- the text of a number
pub number_text : (n : ℕ) → value_text (number n) ≡ decimal n
unfolding print_from
number_text n = append-nil (decimal n)

-- the text of a form, and of the value behind it
pub form_text : (r : Reading) → print (fields_tokens (reading_fields r)) ≡ print (form_tokens r) ++ value_text (reading_json r)
unfolding reading_fields fields_tokens
form_text r = print_more false (form_tokens r) (json_tokens (reading_json r) ++ []) ∙ ap (λ ts. print (form_tokens r) ++ print ts) (append-nil (json_tokens (reading_json r)))

-- a value that is put together
pub value_together : (w : Line) (r : Reading) → opened w (value_text (reading_json r)) true ≡ w ⊕ json_tokens (reading_json r)
unfolding reading_json
value_together w (values.u8 n) = opens w (token.number (decimal n)) [] _ true refl refl refl
value_together w (values.u16 n) = opens w (token.number (decimal n)) [] _ true refl refl refl
value_together w (values.u32 n) = opens w (token.number (decimal n)) [] _ true refl refl refl
value_together w (values.text t) = opens w (token.string t) [] _ true refl refl refl
value_together w (values.ipv4 address) = opens w (token.string (ipv4_text address)) [] _ true refl refl refl
value_together w (values.ipv6 address) = opens w (token.string (ipv6_text address)) [] _ true refl refl refl
value_together w (values.hex bytes) = opens w (token.string (encode_lower bytes)) [] _ true refl refl refl

-- a number that is put together
pub signed_together : (w : Line) (z : ℤ) → opened w (signed_decimal z ++ []) true ≡ w ⊕ json_tokens (signed z)
unfolding print_from
signed_together w z = opens w (token.number (signed_decimal z)) [] _ true refl refl refl

-- a string that is put together
pub string_together : (w : Line) (text : List ℕ) → opened w (value_text (string text) ++ []) true ≡ w ⊕ json_tokens (string text)
string_together w text = ap (λ words. opened w words true) (append-nil (value_text (string text))) ∙ opens w (token.string text) [] _ true refl refl refl

-- a field with a number that is put together
pub number_field : (w : Line) (name : List ℕ) (n : ℕ) → IsUnescaped name → w ⊕ fields_tokens ((name, number n) ∷ []) ≡ opened w (codes "\"" ++ (name ++ (codes "\":" ++ (decimal n ++ [])))) true
unfolding fields_tokens print_from
number_field w name n plain =
    let digits = decimal n ++ [] in
    let named : 34 ∷ (name ++ codes "\":") ≡ token_text (key name) =
    ap (λ t. 34 ∷ (t ++ codes "\":")) (sym (no_escape name plain)) ∙ sym (append_assoc (34 ∷ escape name) (codes "\"") (codes ":")) in
    let words : (codes "\"" ++ (name ++ (codes "\":" ++ digits))) ≡ print (fields_tokens ((name, number n) ∷ [])) =
    ap (λ t. 34 ∷ t) (sym (append_assoc name (codes "\":") digits)) ∙ ap (λ t. t ++ digits) named in
    sym (fields_together w ((name, number n) ∷ []) _ words refl)

-- a field with a signed number that is put together
pub signed_field : (w : Line) (name : List ℕ) (z : ℤ) → IsUnescaped name
    → (w ⊕ (key name ∷ [])) ⊕ json_tokens (signed z) ≡ opened w (codes "\"" ++ (name ++ (codes "\":" ++ (signed_decimal z ++ [])))) true
unfolding print_from
signed_field w name z plain =
    let digits = signed_decimal z ++ [] in
    let named : 34 ∷ (name ++ codes "\":") ≡ token_text (key name) =
    ap (λ t. 34 ∷ (t ++ codes "\":")) (sym (no_escape name plain)) ∙ sym (append_assoc (34 ∷ escape name) (codes "\"") (codes ":")) in
    let words : (codes "\"" ++ (name ++ (codes "\":" ++ digits))) ≡ print (key name ∷ json_tokens (signed z)) =
    ap (λ t. 34 ∷ t) (sym (append_assoc name (codes "\":") digits)) ∙ ap (λ t. t ++ digits) named in
    more w (key name ∷ []) (json_tokens (signed z)) ∙ sym (opens w (key name) (json_tokens (signed z)) _ true refl words refl)

pub signed_written : (w : Line) (name : List ℕ) (z : ℤ) → IsUnescaped name
    → w ⊕ fields_tokens ((name, signed z) ∷ []) ≡ opened w (codes "\"" ++ (name ++ (codes "\":" ++ (signed_decimal z ++ [])))) true
signed_written w name z plain = ap (λ ts. w ⊕ ts) (one_field name (signed z)) ∙ sym (more w (key name ∷ []) (json_tokens (signed z))) ∙ signed_field w name z plain

-- what a next hop says of itself behind its flags, put together
pub hop_numbers_written : (w : Line) (n : ℕ) (z : ℤ)
    → w ⊕ fields_tokens ((codes "hops", number n) ∷ (codes "index", signed z) ∷ []) ≡ opened w (codes "\"hops\":" ++ (decimal n ++ (codes ",\"index\":" ++ (signed_decimal z ++ [])))) true
unfolding fields_tokens print_from escape_byte
hop_numbers_written w n z = sym (fields_together w ((codes "hops", number n) ∷ (codes "index", signed z) ∷ []) _ refl refl)

-- a field with an array of nothing that is put together
pub empty_array_written : (w : Line) (name : List ℕ) → IsUnescaped name
    → w ⊕ fields_tokens ((name, array []) ∷ []) ≡ opened w (codes "\"" ++ (name ++ (codes "\":[]" ++ []))) true
unfolding fields_tokens print_from array
empty_array_written w name plain =
    let named : 34 ∷ (name ++ codes "\":") ≡ token_text (key name) =
    ap (λ t. 34 ∷ (t ++ codes "\":")) (sym (no_escape name plain)) ∙ sym (append_assoc (34 ∷ escape name) (codes "\"") (codes ":")) in
    let words : (codes "\"" ++ (name ++ (codes "\":[]" ++ []))) ≡ print (fields_tokens ((name, array []) ∷ [])) =
    ap (λ t. 34 ∷ t) (sym (append_assoc name (codes "\":") (codes "[]"))) ∙ ap (λ t. t ++ codes "[]") named in
    sym (fields_together w ((name, array []) ∷ []) _ words refl)

-- a value of an enumeration and its name that are put together
pub brief_value : (w : Line) (z : ℤ) (name : List ℕ) → IsUnescaped name
    → w ⊕ json_tokens (value_json z (Some name)) ≡ opened w (codes "{\"number\":" ++ (signed_decimal z ++ (codes ",\"name\":\"" ++ (name ++ (codes "\"}" ++ []))))) true
unfolding value_json object print_from escape_byte
brief_value w z name plain =
    let tokens = key (codes "number") ∷ token.number (signed_decimal z) ∷ key (codes "name") ∷ token.string name ∷ end_object ∷ [] in
    let ending : (escape name ++ codes "\"") ++ codes "}" ≡ name ++ codes "\"}" =
    append_assoc (escape name) (codes "\"") (codes "}") ∙ ap (λ t. t ++ codes "\"}") (no_escape name plain) in
    let words : codes "{\"number\":" ++ (signed_decimal z ++ (codes ",\"name\":\"" ++ (name ++ (codes "\"}" ++ [])))) ≡ print (begin_object ∷ tokens) =
    ap (λ t. codes "{\"number\":" ++ (signed_decimal z ++ (codes ",\"name\":\"" ++ t))) (sym ending) in
    sym (opens w begin_object tokens _ true refl words refl)

-- an object that is put together of its front, what is behind it, and its end
pub together : (w : Line) (front value : List ℕ) → closed (opened (opened w front true) value true) (codes "}") ≡ opened w (front ++ (44 ∷ (value ++ codes "}"))) true
together w front value =
    let all : ((w.text ++ (comma w.after ++ front)) ++ (44 ∷ value)) ++ codes "}" ≡ w.text ++ (comma w.after ++ (front ++ (44 ∷ (value ++ codes "}")))) = simp append_assoc in
    λ i. record { text = all i; after = true }
