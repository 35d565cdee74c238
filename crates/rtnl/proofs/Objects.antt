-- Objects and arrays of JSON that are written in parts.
use Rattle.std.proofs.Common.{◌≡◌, ◌<◌, ◌+◌, ◌==◌, ◌++◌, ◌∙◌, ℕ, [], ◌∷◌, Bool, false, true, if◌then◌else◌, List, Option, ap, append_assoc, arith, codes, drop, get_or, length, not, refl, sym, take}
use Rattle.std.proofs.lemmas.Bool.{false≢true}
use Rattle.json.specs.Json.{Json}
use Rattle.json.specs.Print.{print_from}
use Rattle.json.specs.Token.{begin_array, begin_object, end_array, end_object, key}
use Rattle.nl_attr.proofs.Lemmas.Opened.{next_attr}
use Rattle.nl_attr.specs.Fixed.{STANDARD_LEVELS}
use Rattle.nl_attr.specs.Tree.{holds_of}
use Rattle.nl_attr.specs.declared.tree.Attr.{Attr}
use Rattle.nl_values.specs.Known.{KnownAttribute}
use Rattle.nl_values.specs.Meanings.{Sense}
use Rattle.nl_values.specs.declared.set.Set.{Set}
use Rattle.rtnl.proofs.Common.{Ctx, IsUnescaped, Order, attribute_style, attrs_view, inner_context, json_tokens, ne_eqb, value_text, value_view}
use Rattle.rtnl.specs.Data.{Part, data_fields, kind_for, known, left_behind, name_json, sense_at, shown_sense}
use Rattle.rtnl.specs.Json.{Field, Line, ◌⊕◌, array, fields_tokens, object, values_tokens}
use Rattle.rtnl.specs.MessagesJson.{attr_front, attrs_json, kind_fields, known_type, meant_fields, payload_fields, value_fields}
use Rattle.rtnl.proofs.Json.{an_array, an_object, more, named_value, no_field, string_text, then_fields}

-- a field with an array
pub array_field : (w a b c d : Line) (name : List ℕ) (values : List Json) → a ≡ w ⊕ (key name ∷ []) → b ≡ a ⊕ (begin_array ∷ []) → c ≡ b ⊕ values_tokens values → d ≡ c ⊕ (end_array ∷ [])
    → d ≡ w ⊕ fields_tokens ((name, array values) ∷ [])
array_field w a b c d name values named begun written ended = named_value w a d name (array values) named (an_array a b c d values begun written ended)

-- an object of fields that are written in three parts
pub three_parts : (w a b c d : Line) (front rest others : List Field) → a ≡ w ⊕ (begin_object ∷ fields_tokens front) → b ≡ a ⊕ fields_tokens rest → c ≡ b ⊕ fields_tokens others → d ≡ c ⊕ (end_object ∷ [])
    → d ≡ w ⊕ json_tokens (object (front ++ (rest ++ others)))
three_parts w a b c d front rest others begun second third ended =
    let start = w ⊕ (begin_object ∷ []) in
    let first : a ≡ start ⊕ fields_tokens front = begun ∙ sym (more w (begin_object ∷ []) (fields_tokens front)) in
    let inside : c ≡ a ⊕ fields_tokens (rest ++ others) = then_fields a b c rest others second third in
    an_object w start c d (front ++ (rest ++ others)) refl (then_fields start a c front (rest ++ others) first inside) ended

-- a name of some bytes is not empty
not_empty : (c : ℕ) (cs : List ℕ) → (length (c ∷ cs) == 0) ≡ true → ⊥
not_empty c cs empty =
    let some : (length (c ∷ cs) == 0) ≡ false = ne_eqb _ _ (λ e. omega (arith, e)) in
    false≢true (sym some ∙ empty)

-- the text of no name, and of a name
pub no_name : (name out : List ℕ) → (length name == 0) ≡ true → codes "null" ++ out ≡ value_text (name_json name) ++ out
unfolding print_from
no_name [] out empty = refl
no_name (c ∷ cs) out empty = absurd (not_empty c cs empty)

pub a_name : (name out : List ℕ) → (length name == 0) ≡ false → IsUnescaped name → 34 ∷ (name ++ (34 ∷ out)) ≡ value_text (name_json name) ++ out
a_name [] out some plain = absurd cc
a_name (c ∷ cs) out some plain =
    ap (λ t. 34 ∷ t) (sym (append_assoc (c ∷ cs) (codes "\"") out)) ∙ sym (ap (λ t. t ++ out) (string_text (c ∷ cs) plain))

-- no field for a message type without a name
pub no_kind : (w : Line) (name : List ℕ) → (length name == 0) ≡ true → w ≡ w ⊕ fields_tokens (kind_fields name)
no_kind w [] empty = sym (no_field w)
no_kind w (c ∷ cs) empty = absurd (not_empty c cs empty)

-- a flag that is not set
pub unset : (masked : ℕ) → masked ≡ 0 → not (masked == 0) ≡ false
unset masked e = ap (λ n. not (n == 0)) e

-- fields that are not there
pub absent : (w : Line) (b : Bool) (fields : List Field) → b ≡ false → w ≡ w ⊕ fields_tokens (if b then fields else [])
absent w b fields e = sym (no_field w) ∙ ap (λ b. w ⊕ fields_tokens (if b then fields else [])) (sym e)

-- what a message type is called, and what its payload means
pub meant : (o : Order) (kind : ℕ) (payload family : List ℕ) (it : KnownAttribute) (s : Sense) (w a b : Line) → it ≡ known_type kind → family ≡ take 1 payload
    → s ≡ sense_at o STANDARD_LEVELS it.format [] payload → a ≡ w ⊕ fields_tokens (kind_fields it.name) → b ≡ a ⊕ fields_tokens (data_fields (shown_sense o family s payload))
    → b ≡ w ⊕ fields_tokens (meant_fields o kind payload)
meant o kind payload family it s w a b is front sense named shown =
    let whole : s ≡ sense_at o STANDARD_LEVELS (known_type kind).format [] payload = sense ∙ ap (λ (it : KnownAttribute). sense_at o STANDARD_LEVELS it.format [] payload) is in
    then_fields w a b (kind_fields (known_type kind).name) (payload_fields o kind payload)
    (named ∙ ap (λ (it : KnownAttribute). w ⊕ fields_tokens (kind_fields it.name)) is)
    (shown ∙ λ i. a ⊕ fields_tokens (data_fields (shown_sense o (front i) (whole i) payload)))

-- an attribute more
pub attr_written : (o : Order) (family : List ℕ) (set : Option Set) (left after : ℕ) (all : List Part) (ctx : Ctx) (attrs : List Attr) (i : ℕ) (attr : Attr) (it : KnownAttribute) (kind : List ℕ) (line new total : Line)
    → i < length attrs → attr ≡ get_or attrs i attr → it ≡ known set attr.number → kind ≡ kind_for left family [] all it.format → after ≡ left_behind left it.format
    → new ≡ line ⊕ json_tokens (object (attr_front it.name attr.number attr.flags ++ value_fields o family (attribute_style ctx attr.number) attr.flags.net (inner_context (holds_of ctx attr.number attr.flags)) it.format kind (value_view attr.value)))
    → line ⊕ values_tokens (attrs_json o family set left all ctx (attrs_view (drop i attrs))) ≡ total
    → new ⊕ values_tokens (attrs_json o family set after all ctx (attrs_view (drop (i + 1) attrs))) ≡ total
attr_written o family set left after all ctx attrs i attr it kind line new total inside at is chosen behind written h =
    let whole : KnownAttribute → List ℕ → Json = λ it kind. object (attr_front it.name attr.number attr.flags ++ value_fields o family (attribute_style ctx attr.number) attr.flags.net (inner_context (holds_of ctx attr.number attr.flags)) it.format kind (value_view attr.value)) in
    let it_is = known set attr.number in
    let kind_is : kind ≡ kind_for left family [] all it_is.format = chosen ∙ ap (λ (it : KnownAttribute). kind_for left family [] all it.format) is in
    let after_is : after ≡ left_behind left it_is.format = behind ∙ ap (λ (it : KnownAttribute). left_behind left it.format) is in
    let one : new ≡ line ⊕ json_tokens (whole it_is (kind_for left family [] all it_is.format)) = written ∙ λ j. line ⊕ json_tokens (whole (is j) (kind_is j)) in
    let rest = attrs_view (drop (i + 1) attrs) in
    (λ j. one j ⊕ values_tokens (attrs_json o family set (after_is j) all ctx rest))
    ∙ more line (json_tokens (whole it_is (kind_for left family [] all it_is.format))) (values_tokens (attrs_json o family set (left_behind left it_is.format) all ctx rest))
    ∙ sym (ap (λ items. line ⊕ values_tokens (attrs_json o family set left all ctx items)) (next_attr attrs i attr inside at)) ∙ h
