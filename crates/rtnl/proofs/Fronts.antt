-- Objects that are put together from pieces.
use Rattle.std.proofs.Common.{◌≡◌, ◌∷◌, ◌++◌, ◌∙◌, ℕ, [], Bool, true, false, List, ap, append-nil, append_assoc, codes, decimal, refl, sym}
use Rattle.json.specs.Json.{Json}
use Rattle.json.specs.Print.{escape_byte, print, print_from, quoted}
use Rattle.rtnl.proofs.Common.{begin_object, json_tokens, Reading}
use Rattle.rtnl.specs.Data.{name_json}
use Rattle.rtnl.specs.Json.{Field, Line, ◌⊕◌, array, comma, fields_tokens, number, object, opened, strings, value_text}
use Rattle.rtnl.specs.MessagesJson.{flag_list, reading_fields, reading_json}
use Rattle.rtnl.specs.Values as values
use Rattle.rtnl.proofs.Json.{an_object, ended, ended_object, fields_together, more, opens, then_fields, together}

-- the fields that every attribute has
abbrev front : List ℕ → ℕ → Json → List Field
front name n flags = (codes "number", number n) ∷ (codes "name", name_json name) ∷ (codes "flags", flags) ∷ []

-- the text of the last of them
last_text : (flags : Json) → value_text flags ++ [] ≡ print (json_tokens flags ++ [])
last_text flags = append-nil (value_text flags) ∙ sym (ap print (append-nil (json_tokens flags)))

front_of : (name : List ℕ) (n : ℕ) (flags : Json)
    → codes "{\"number\":" ++ (decimal n ++ (codes ",\"name\":" ++ (value_text (name_json name) ++ (codes ",\"flags\":" ++ (value_text flags ++ [])))))
    ≡ print (begin_object ∷ fields_tokens (front name n flags))
unfolding print_from escape_byte fields_tokens
front_of [] n flags = ap (λ t. codes "{\"number\":" ++ (decimal n ++ (codes ",\"name\":null,\"flags\":" ++ t))) (last_text flags)
front_of (c ∷ cs) n flags =
    ap (λ q. codes "{\"number\":" ++ (decimal n ++ (codes ",\"name\":" ++ (q ++ (codes ",\"flags\":" ++ (value_text flags ++ [])))))) (append-nil (quoted (c ∷ cs)))
    ∙ ap (λ t. codes "{\"number\":" ++ (decimal n ++ (codes ",\"name\":" ++ (quoted (c ∷ cs) ++ (codes ",\"flags\":" ++ t))))) (last_text flags)

-- texts in front of another
joined : (a b c d e f rest : List ℕ) → a ++ (b ++ (c ++ (d ++ (e ++ (f ++ rest))))) ≡ (a ++ (b ++ (c ++ (d ++ (e ++ (f ++ [])))))) ++ rest
joined a b c d e f rest = simp (append_assoc, append-nil)

-- what every attribute has, put together
pub front_text : (name : List ℕ) (n : ℕ) (nested net : Bool)
    → codes "{\"number\":" ++ (decimal n ++ (codes ",\"name\":" ++ (value_text (name_json name) ++ (codes ",\"flags\":" ++ (value_text (strings (flag_list nested net)) ++ [])))))
    ≡ print (begin_object ∷ fields_tokens (front name n (strings (flag_list nested net))))
front_text name n nested net = front_of name n (strings (flag_list nested net))

-- the same in front of a text
pub front_behind : (name : List ℕ) (n : ℕ) (nested net : Bool) (rest : List ℕ)
    → codes "{\"number\":" ++ (decimal n ++ (codes ",\"name\":" ++ (value_text (name_json name) ++ (codes ",\"flags\":" ++ (value_text (strings (flag_list nested net)) ++ rest)))))
    ≡ print (begin_object ∷ fields_tokens (front name n (strings (flag_list nested net)))) ++ rest
front_behind name n nested net rest =
    joined (codes "{\"number\":") (decimal n) (codes ",\"name\":") (value_text (name_json name)) (codes ",\"flags\":") (value_text (strings (flag_list nested net))) rest
    ∙ ap (λ t. t ++ rest) (front_text name n nested net)

-- a value ends behind it
pub front_ended : (name : List ℕ) (n : ℕ) (nested net : Bool) → true ≡ ended false (begin_object ∷ fields_tokens (front name n (strings (flag_list nested net))))
unfolding fields_tokens array
front_ended [] n false false = refl
front_ended [] n false true = refl
front_ended [] n true false = refl
front_ended [] n true true = refl
front_ended (c ∷ cs) n false false = refl
front_ended (c ∷ cs) n false true = refl
front_ended (c ∷ cs) n true false = refl
front_ended (c ∷ cs) n true true = refl

-- what a payload is read as is the last of an object's fields
reading_ended : (r : Reading) → true ≡ ended false (fields_tokens (reading_fields r))
unfolding reading_fields reading_json fields_tokens
reading_ended (values.u8 n) = refl
reading_ended (values.u16 n) = refl
reading_ended (values.u32 n) = refl
reading_ended (values.text t) = refl
reading_ended (values.ipv4 address) = refl
reading_ended (values.ipv6 address) = refl
reading_ended (values.hex bytes) = refl

-- an attribute of which all is put together
pub whole_object : (w : Line) (name : List ℕ) (n : ℕ) (nested net : Bool) (r : Reading)
    → opened w (print (begin_object ∷ fields_tokens (front name n (strings (flag_list nested net)))) ++ (44 ∷ (print (fields_tokens (reading_fields r)) ++ codes "}"))) true
    ≡ w ⊕ json_tokens (object (front name n (strings (flag_list nested net)) ++ reading_fields r))
whole_object w name n nested net r =
    let fields = front name n (strings (flag_list nested net)) in
    let words = print (begin_object ∷ fields_tokens fields) in
    let value = print (fields_tokens (reading_fields r)) in
    let begun = w ⊕ (begin_object ∷ []) in
    let first : opened w words true ≡ begun ⊕ fields_tokens fields =
    opens w begin_object (fields_tokens fields) words true refl refl (front_ended name n nested net) ∙ sym (more w (begin_object ∷ []) (fields_tokens fields)) in
    let both = then_fields begun (opened w words true) (opened (opened w words true) value true) fields (reading_fields r) first
    (fields_together (opened w words true) (reading_fields r) value refl (reading_ended r)) in
    sym (together w words value) ∙ an_object w begun (opened (opened w words true) value true) _ (fields ++ reading_fields r) refl both (ended_object (opened (opened w words true) value true))

-- the front of an attribute and what is read, put together
pub front_read : (w : Line) (name : List ℕ) (n : ℕ) (nested net : Bool) (r : Reading)
    → opened w (print (begin_object ∷ fields_tokens (front name n (strings (flag_list nested net)))) ++ (44 ∷ print (fields_tokens (reading_fields r)))) true
    ≡ (w ⊕ (begin_object ∷ fields_tokens (front name n (strings (flag_list nested net))))) ⊕ fields_tokens (reading_fields r)
front_read w name n nested net r =
    let fields = front name n (strings (flag_list nested net)) in
    let words = print (begin_object ∷ fields_tokens fields) in
    let value = print (fields_tokens (reading_fields r)) in
    let first : opened w words true ≡ w ⊕ (begin_object ∷ fields_tokens fields) = opens w begin_object (fields_tokens fields) words true refl refl (front_ended name n nested net) in
    let text : w.text ++ (comma w.after ++ (words ++ (44 ∷ value))) ≡ (w.text ++ (comma w.after ++ words)) ++ (44 ∷ value) = simp append_assoc in
    (λ i. record { text = text i; after = true })
    ∙ fields_together (opened w words true) (reading_fields r) value refl (reading_ended r)
    ∙ ap (λ l. l ⊕ fields_tokens (reading_fields r)) first
