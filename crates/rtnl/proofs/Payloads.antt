-- What is written of payloads: pieces, fields, names.
use Rattle.std.proofs.Common.{◌≡◌, ◌≤◌, ◌+◌, ◌-◌, ◌*◌, ◌==◌, ◌/◌, ◌∙◌, ℕ, zero, suc, Bool, true, false, if◌then◌else◌, List, [], ◌∷◌, ◌++◌, length, take, drop, map, Option, Some, None, refl, sym, ap, arith, rules, length-drop, ltb, subst, codes, inl, inr, ◌<◌, ◌⊎◌}
use Rattle.std.proofs.Math.Nat.{div-mul-le_self}
use Rattle.std.specs.Prelude.{slice_get}
use Rattle.rtnl.proofs.Common.{Bor, Ok, Err, eq-eqb, ne_eqb, json_tokens, Order}
use Rattle.std.specs.Prelude.{is_some, unwrap_or}
use Rattle.nl_attr.specs.Walk.{GivesPart, Region}
use Rattle.nl_attr.specs.declared.fault.Fault.{Fault}
use Rattle.nl_attr.specs.declared.walk.attrs.Part.{Part as HeldPart}
use Rattle.json.specs.Json.{Json}
use Rattle.json.specs.Token.{Token, key}
use Rattle.std.specs.Int.RustNames.{bit_and}
use Rattle.nl_values.specs.Known.{name_of}
use Rattle.nl_values.specs.declared.names.Names.{Names}
use Rattle.nl_attr.specs.Fixed.{LONGEST_REGION}
use Rattle.nl_values.specs.Known.{KnownAttribute, KnownField}
use Rattle.nl_values.specs.declared.set.Set.{Set}
use Rattle.nl_values.specs.Meanings as sense
use Rattle.nl_values.specs.Meanings.{Sense}
use Rattle.nl_values.specs.declared.format.Format.{Format}
use Rattle.rtnl.specs.Data.{Part, Shows, attr_json, data_fields, kind_for, known, left_behind, parts_at, parts_json, count_in, counters, data_json, field_json, held_json, is_known, only, or_digits, part_json, parts_of, payloads, pieces, place_name, sense_at, sense_json, struct_json}
use Rattle.rtnl.proofs.Regions.{fault_given, nothing_given, order_kept, part_given}
use Rattle.rtnl.specs.NamedBits.{BitName}
use Rattle.rtnl.specs.Names.{names_set}
use Rattle.rtnl.specs.Json.{Field, Line, digits, ◌⊕◌, fields_tokens, values_tokens}
use Rattle.rtnl.proofs.Json.{more, more_fields, named_value, no_field}

-- so many pieces have no more bytes than there are
pub pieces_fit : (size len : ℕ) → count_in size len * size ≤ len
pieces_fit size len = test (size == 0) where
  test : (b : Bool) → (if b then 0 else len / size) * size ≤ len
  test true = omega arith
  test false = div-mul-le_self len size

-- one piece is there where one more is to come
pub piece_fits : (size n i : ℕ) (bs : List ℕ) → i < n → (n - i) * size ≤ length bs → size ≤ length bs
piece_fits size n i bs before fits = more_than_none (n - i) size (length bs) (omega (arith, before)) fits where
  more_than_none : (k size len : ℕ) → 1 ≤ k → k * size ≤ len → size ≤ len
  more_than_none zero size len some fits = absurd (omega (arith, some))
  more_than_none (suc k) size len some fits = omega (arith, fits)

-- behind it there is room for the others
pub others_fit : (size n i : ℕ) (bs rest : List ℕ) → rest ≡ drop size bs → i < n → (n - i) * size ≤ length bs → (n - (i + 1)) * size ≤ length rest
others_fit size n i bs rest cut before fits =
    let k = n - (i + 1) in
    let is : n - i ≡ suc k = omega (arith, before) in
    let whole : suc k * size ≤ length bs = rw (← is) fits in
    rw cut (omega (arith, whole, length-drop size bs))

-- a piece more
pub piece_written : (f : List ℕ → Json) (size n i : ℕ) (bs front rest : List ℕ) (line new all : Line) → front ≡ take size bs → rest ≡ drop size bs → i < n
    → new ≡ line ⊕ json_tokens (f front)
    → line ⊕ values_tokens (map f (pieces size (n - i) bs)) ≡ all → new ⊕ values_tokens (map f (pieces size (n - (i + 1)) rest)) ≡ all
piece_written f size n i bs front rest line new all piece cut before step h =
    let others : List ℕ → List Token = λ bs. values_tokens (map f (pieces size (n - (i + 1)) bs)) in
    let is : n - i ≡ suc (n - (i + 1)) = omega (arith, before) in
    (λ j. step j ⊕ others (cut j)) ∙ ap (λ x. (line ⊕ json_tokens (f x)) ⊕ others (drop size bs)) piece
    ∙ more line (json_tokens (f (take size bs))) (others (drop size bs))
    ∙ sym (ap (λ k. line ⊕ values_tokens (map f (pieces size k bs))) is) ∙ h

-- no piece more
pub pieces_written : (f : List ℕ → Json) (size n i : ℕ) (bs : List ℕ) (line all : Line) → n ≤ i → line ⊕ values_tokens (map f (pieces size (n - i) bs)) ≡ all → line ≡ all
unfolding ◌⊕◌
pieces_written f size n i bs line all after h =
    let is : n - i ≡ 0 = omega (arith, after) in
    sym (ap (λ k. line ⊕ values_tokens (map f (pieces size k bs))) is) ∙ h

-- an element is at the front of what begins there
pub got_some : {X : Type 0} (xs : List X) (i : ℕ) (x : X) → slice_get xs i ≡ Some x → drop i xs ≡ x ∷ drop (i + 1) xs
got_some [] i x e = absurd cc
got_some (y ∷ xs) zero x e = ap (λ z. z ∷ xs) (some e) where
  some : {X : Type 0} {a b : X} → Some a ≡ Some b → a ≡ b
  some e = search (rules, e)
got_some (y ∷ xs) (suc i) x e =
    let next : suc (i + 1) ≡ suc i + 1 = omega arith in
    got_some xs i x e ∙ ap (λ k. x ∷ drop k (y ∷ xs)) next

-- where there is none, nothing is left
pub got_none : {X : Type 0} (xs : List X) (i : ℕ) → slice_get xs i ≡ None → drop i xs ≡ []
got_none [] zero e = refl
got_none [] (suc i) e = refl
got_none (y ∷ xs) zero e = absurd cc
got_none (y ∷ xs) (suc i) e = got_none xs i e

-- nor behind it
pub none_behind : {X : Type 0} (xs : List X) (i : ℕ) → slice_get xs i ≡ None → drop (i + 1) xs ≡ drop i xs
none_behind [] zero e = refl
none_behind [] (suc i) e =
    let next : suc i + 1 ≡ suc (i + 1) = omega arith in
    ap (λ k. drop k []) next
none_behind (y ∷ xs) zero e = absurd cc
none_behind (y ∷ xs) (suc i) e =
    let next : suc i + 1 ≡ suc (i + 1) = omega arith in
    ap (λ k. drop k (y ∷ xs)) next ∙ none_behind xs i e

-- a bit that a number has, and one that it has not
pub bit_set : (bit : BitName) (bits : List BitName) (n : ℕ) → (bit_and n bit.1 == bit.1) ≡ true → names_set (bit ∷ bits) n ≡ bit.0 ∷ names_set bits n
bit_set bit bits n e = rw e refl

pub bit_unset : (bit : BitName) (bits : List BitName) (n : ℕ) → (bit_and n bit.1 == bit.1) ≡ false → names_set (bit ∷ bits) n ≡ names_set bits n
bit_unset bit bits n e = rw e refl

-- a number more, by the name of its place
pub counter_written : (names : Names) (f : List ℕ → Json) (size n i : ℕ) (bs front rest : List ℕ) (line named new all : Line) → front ≡ take size bs → rest ≡ drop size bs → i < n
    → named ≡ line ⊕ (key (place_name i (name_of names i)) ∷ []) → new ≡ named ⊕ json_tokens (f front)
    → line ⊕ fields_tokens (counters names i (map f (pieces size (n - i) bs))) ≡ all
    → new ⊕ fields_tokens (counters names (i + 1) (map f (pieces size (n - (i + 1)) rest))) ≡ all
counter_written names f size n i bs front rest line named new all piece cut before name value h =
    let others : List ℕ → List Field = λ bs. counters names (i + 1) (map f (pieces size (n - (i + 1)) bs)) in
    let is : n - i ≡ suc (n - (i + 1)) = omega (arith, before) in
    let field : Field = (place_name i (name_of names i), f (take size bs)) in
    let written : new ≡ line ⊕ fields_tokens (field ∷ []) = named_value line named new field.0 field.1 name (value ∙ ap (λ x. named ⊕ json_tokens (f x)) piece) in
    (λ j. written j ⊕ fields_tokens (others (cut j))) ∙ more_fields line (field ∷ []) (others (drop size bs))
    ∙ sym (ap (λ k. line ⊕ fields_tokens (counters names i (map f (pieces size k bs)))) is) ∙ h

-- none more
pub counters_written : (names : Names) (f : List ℕ → Json) (size n i : ℕ) (bs : List ℕ) (line all : Line) → n ≤ i
    → line ⊕ fields_tokens (counters names i (map f (pieces size (n - i) bs))) ≡ all → line ≡ all
counters_written names f size n i bs line all after h =
    let is : n - i ≡ 0 = omega (arith, after) in
    sym (no_field line) ∙ sym (ap (λ k. line ⊕ fields_tokens (counters names i (map f (pieces size k bs)))) is) ∙ h

-- an attribute of this number that a walk gives, and one of another
pub part_matches : (o : Order) (n : ℕ) (it next : Region) (p : HeldPart) → it.order ≡ o → GivesPart it (Some (Ok p)) next → p.number ≡ n
    → (next.order ≡ o) × (payloads n (parts_of o it.left) ≡ p.payload.now ∷ payloads n (parts_of o next.left))
part_matches o n it next p is g same =
    let after : next.order ≡ o = order_kept it next p g ∙ is in
    let test : (p.number == n) ≡ true = eq-eqb _ _ same in
    let step : parts_of o it.left ≡ (p.number, p.payload.now) ∷ parts_of o next.left =
    ap (λ o. parts_of o it.left) (sym is) ∙ part_given it next p g ∙ ap (λ o. (p.number, p.payload.now) ∷ parts_of o next.left) after in
    (after, rw (step, test) refl)

pub part_differs : (o : Order) (n : ℕ) (it next : Region) (p : HeldPart) → it.order ≡ o → GivesPart it (Some (Ok p)) next → (p.number ≡ n → ⊥)
    → (next.order ≡ o) × (payloads n (parts_of o it.left) ≡ payloads n (parts_of o next.left))
part_differs o n it next p is g other =
    let after : next.order ≡ o = order_kept it next p g ∙ is in
    let test : (p.number == n) ≡ false = ne_eqb _ _ other in
    let step : parts_of o it.left ≡ (p.number, p.payload.now) ∷ parts_of o next.left =
    ap (λ o. parts_of o it.left) (sym is) ∙ part_given it next p g ∙ ap (λ o. (p.number, p.payload.now) ∷ parts_of o next.left) after in
    (after, rw (step, test) refl)

-- nothing is left behind a fault, and at the end
pub part_faulty : (o : Order) (it next : Region) (f : Fault) → it.order ≡ o → GivesPart it (Some (Err f)) next → parts_of o it.left ≡ []
part_faulty o it next f is g = ap (λ o. parts_of o it.left) (sym is) ∙ fault_given it next f g

pub part_missing : (o : Order) (it next : Region) → it.order ≡ o → GivesPart it None next → parts_of o it.left ≡ []
part_missing o it next is g = ap (λ o. parts_of o it.left) (sym is) ∙ nothing_given it next g

-- a payload, if it was found
abbrev pub found : Option (Bor (List ℕ)) → List (List ℕ)
found None = []
found (Some payload) = payload.now ∷ []

-- a second payload was found
pub two_found : (one : Option (Bor (List ℕ))) (payload : List ℕ) (rest all : List (List ℕ)) → is_some one ≡ true → found one ++ (payload ∷ rest) ≡ all → [] ≡ only all
two_found None payload rest all some is = absurd cc
two_found (Some one) payload rest all some is = ap only is

-- the first was found
pub first_found : (one : Option (Bor (List ℕ))) (payload : List ℕ) (rest all : List (List ℕ)) → is_some one ≡ false → found one ++ (payload ∷ rest) ≡ all → payload ∷ rest ≡ all
first_found None payload rest all none is = is
first_found (Some one) payload rest all none is = absurd cc

-- what was found is the only one, or there is none
pub none_follows : (one : Option (Bor (List ℕ))) (it : Bor (List ℕ)) (rest all : List (List ℕ)) → rest ≡ [] → found one ++ rest ≡ all → it.now ≡ [] → (unwrap_or one it).now ≡ only all
none_follows None it rest all end is empty = empty ∙ ap only (sym end ∙ is)
none_follows (Some one) it rest all end is empty = ap (λ tail. only (one.now ∷ tail)) (sym end) ∙ ap only is

-- ---- what bytes mean

-- nothing is shown where no level is left, or of too many bytes
pub none_shown : (o : Order) (family : List ℕ) (levels : ℕ) (f : Format) (kind : List ℕ) (parts : List Part) (bs : List ℕ)
    → (levels ≡ 0) ⊎ (LONGEST_REGION < length bs) → data_json o family levels f kind parts bs ≡ None
unfolding data_json
none_shown o family zero f kind parts bs why = refl
none_shown o family (suc n) f kind parts bs (inl none) = absurd (omega (arith, none))
none_shown o family (suc n) f kind parts bs (inr long) =
    let test : ltb LONGEST_REGION (length bs) ≡ true = search (rules, long) in
    rw test refl

-- else what the bytes mean is shown
pub one_shown : (o : Order) (family : List ℕ) (levels inner : ℕ) (f : Format) (kind : List ℕ) (parts : List Part) (bs : List ℕ)
    → levels ≡ inner + 1 → data_json o family levels f kind parts bs ≡ sense_json o family (data_json o family inner) parts bs (sense_at o levels f kind bs)
unfolding data_json
one_shown o family levels inner f kind parts bs is =
    let next : levels ≡ suc inner = omega (arith, is) in
    subst (λ n. data_json o family n f kind parts bs ≡ sense_json o family (data_json o family inner) parts bs (sense_at o n f kind bs)) (sym next) refl

-- a meaning is shown, or it is not known
pub sense_shown : (o : Order) (family : List ℕ) (shows : Shows) (parts : List Part) (bs : List ℕ) (s : Sense)
    → (is_known s ≡ true) × (held_json bs (sense_json o family shows parts bs s) ≡ (codes "data", or_digits bs (sense_json o family shows parts bs s)))
    × (data_fields (sense_json o family shows parts bs s) ≡ (codes "data", or_digits bs (sense_json o family shows parts bs s)) ∷ [])
    ⊎ (is_known s ≡ false) × (sense_json o family shows parts bs s ≡ None)
sense_shown o family shows parts bs sense.unknown = inr (refl, refl)
sense_shown o family shows parts bs sense.flag = inl (refl, refl, refl)
sense_shown o family shows parts bs (sense.text t) = inl (refl, refl, refl)
sense_shown o family shows parts bs (sense.integer z) = inl (refl, refl, refl)
sense_shown o family shows parts bs (sense.value z name) = inl (refl, refl, refl)
sense_shown o family shows parts bs (sense.bits n names) = inl (refl, refl, refl)
sense_shown o family shows parts bs (sense.mac address) = inl (refl, refl, refl)
sense_shown o family shows parts bs (sense.ipv4 address) = inl (refl, refl, refl)
sense_shown o family shows parts bs (sense.ipv6 address) = inl (refl, refl, refl)
sense_shown o family shows parts bs (sense.series n) = inl (refl, refl, refl)
sense_shown o family shows parts bs (sense.counters n names) = inl (refl, refl, refl)
sense_shown o family shows parts bs (sense.fields of) = inl (refl, refl, refl)
sense_shown o family shows parts bs (sense.array of size) = inl (refl, refl, refl)
sense_shown o family shows parts bs (sense.headed of set from) = inl (refl, refl, refl)
sense_shown o family shows parts bs (sense.list set) = inl (refl, refl, refl)

-- a field of a struct whose bytes are there
pub field_written : (shows : Shows) (name : List ℕ) (f : Format) (p : Option (List ℕ)) (part : List ℕ) (value : Option Json) (line named new : Line)
    → p ≡ Some part → shows f [] [] part ≡ value → named ≡ line ⊕ (key name ∷ []) → new ≡ named ⊕ json_tokens (or_digits part value)
    → new ≡ line ⊕ fields_tokens (part_json shows name f p)
field_written shows name f p part value line named new is shown begun written =
    named_value line named new name (or_digits part value) begun written
    ∙ ap (λ v. line ⊕ fields_tokens ((name, or_digits part v) ∷ [])) (sym shown) ∙ sym (ap (λ p. line ⊕ fields_tokens (part_json shows name f p)) is)

-- one whose bytes are not there
pub field_missing : (shows : Shows) (name : List ℕ) (f : Format) (p : Option (List ℕ)) (line : Line) → p ≡ None → line ≡ line ⊕ fields_tokens (part_json shows name f p)
field_missing shows name f p line none = sym (no_field line) ∙ sym (ap (λ p. line ⊕ fields_tokens (part_json shows name f p)) none)

-- a field more, and none more
pub struct_more : (shows : Shows) (fields : List KnownField) (i : ℕ) (bs : List ℕ) (field : KnownField) (line new : Line) → slice_get fields i ≡ Some field
    → new ≡ line ⊕ fields_tokens (field_json shows field bs)
    → new ⊕ fields_tokens (struct_json shows (drop (i + 1) fields) bs) ≡ line ⊕ fields_tokens (struct_json shows (drop i fields) bs)
struct_more shows fields i bs field line new got written =
    let rest = struct_json shows (drop (i + 1) fields) bs in
    ap (λ l. l ⊕ fields_tokens rest) written ∙ more_fields line (field_json shows field bs) rest
    ∙ sym (ap (λ fs. line ⊕ fields_tokens (struct_json shows fs bs)) (got_some fields i field got))

pub struct_ended : (shows : Shows) (fields : List KnownField) (i : ℕ) (bs : List ℕ) (line : Line) → slice_get fields i ≡ None
    → line ⊕ fields_tokens (struct_json shows (drop (i + 1) fields) bs) ≡ line ⊕ fields_tokens (struct_json shows (drop i fields) bs)
struct_ended shows fields i bs line none = ap (λ fs. line ⊕ fields_tokens (struct_json shows fs bs)) (none_behind fields i none)

-- what an attribute holds: its name of a field, and the value
pub held_written : (o : Order) (family : List ℕ) (shows : Shows) (parts : List Part) (bs : List ℕ) (s : Sense) (d : Option Json) (line named new : Line)
    → d ≡ sense_json o family shows parts bs s → named ≡ line ⊕ (key (if is_known s then codes "data" else codes "value") ∷ [])
    → new ≡ named ⊕ json_tokens (or_digits bs (sense_json o family shows parts bs s)) → new ≡ line ⊕ fields_tokens (held_json bs d ∷ [])
held_written o family shows parts bs s d line named new is begun written = by_case (sense_shown o family shows parts bs s) where
  by_case : (is_known s ≡ true) × (held_json bs (sense_json o family shows parts bs s) ≡ (codes "data", or_digits bs (sense_json o family shows parts bs s)))
      × (data_fields (sense_json o family shows parts bs s) ≡ (codes "data", or_digits bs (sense_json o family shows parts bs s)) ∷ [])
      ⊎ (is_known s ≡ false) × (sense_json o family shows parts bs s ≡ None) → new ≡ line ⊕ fields_tokens (held_json bs d ∷ [])
  by_case (inl known) =
      named_value line named new (codes "data") (or_digits bs (sense_json o family shows parts bs s)) (begun ∙ ap (λ b. line ⊕ (key (if b then codes "data" else codes "value") ∷ [])) known.0) written
      ∙ ap (λ field. line ⊕ fields_tokens (field ∷ [])) (sym known.1 ∙ ap (held_json bs) (sym is))
  by_case (inr none) =
      named_value line named new (codes "value") (digits bs) (begun ∙ ap (λ b. line ⊕ (key (if b then codes "data" else codes "value") ∷ [])) none.0) (written ∙ ap (λ v. named ⊕ json_tokens (or_digits bs v)) none.1)
      ∙ ap (λ field. line ⊕ fields_tokens (field ∷ [])) (ap (held_json bs) (sym (is ∙ none.1)))

-- an empty region has no attribute
pub no_parts : (o : Order) → parts_of o [] ≡ []
unfolding parts_at
no_parts o = refl

-- an attribute that a walk gives, and the others behind it
pub part_step : (o : Order) (it next : Region) (p : HeldPart) → it.order ≡ o → GivesPart it (Some (Ok p)) next
    → (next.order ≡ o) × (parts_of o it.left ≡ (p.number, p.payload.now) ∷ parts_of o next.left)
part_step o it next p is g =
    let after : next.order ≡ o = order_kept it next p g ∙ is in
    (after, ap (λ o. parts_of o it.left) (sym is) ∙ part_given it next p g ∙ ap (λ o. (p.number, p.payload.now) ∷ parts_of o next.left) after)

-- an attribute more
pub list_more : (shows : Shows) (family : List ℕ) (outer all : List Part) (set : Set) (left after : ℕ) (number : ℕ) (payload : List ℕ) (parts rest : List Part)
    (it : KnownAttribute) (kind : List ℕ) (line new whole : Line)
    → parts ≡ (number, payload) ∷ rest → it ≡ known (Some set) number → kind ≡ kind_for left family outer all it.format → after ≡ left_behind left it.format
    → new ≡ line ⊕ json_tokens (attr_json number it.name payload (shows it.format kind all payload))
    → line ⊕ values_tokens (parts_json shows family outer all set left parts) ≡ whole → new ⊕ values_tokens (parts_json shows family outer all set after rest) ≡ whole
list_more shows family outer all set left after number payload parts rest it kind line new whole here is chosen behind written h =
    let first : KnownAttribute → List ℕ → Json = λ it kind. attr_json number it.name payload (shows it.format kind all payload) in
    let k = known (Some set) number in
    let value = first k (kind_for left family outer all k.format) in
    let others : ℕ → List Token = λ n. values_tokens (parts_json shows family outer all set n rest) in
    let step : new ≡ line ⊕ json_tokens value =
    written ∙ ap (λ kind. line ⊕ json_tokens (first it kind)) chosen ∙ ap (λ (it : KnownAttribute). line ⊕ json_tokens (first it (kind_for left family outer all it.format))) is in
    let next : after ≡ left_behind left k.format = behind ∙ ap (λ (it : KnownAttribute). left_behind left it.format) is in
    (λ j. step j ⊕ others (next j)) ∙ more line (json_tokens value) (others (left_behind left k.format))
    ∙ sym (ap (λ ps. line ⊕ values_tokens (parts_json shows family outer all set left ps)) here) ∙ h

-- no attribute more
pub list_ended : (shows : Shows) (family : List ℕ) (outer all : List Part) (set : Set) (left : ℕ) (parts : List Part) (line whole : Line) → parts ≡ []
    → line ⊕ values_tokens (parts_json shows family outer all set left parts) ≡ whole → line ≡ whole
unfolding ◌⊕◌
list_ended shows family outer all set left parts line whole none h = sym (ap (λ ps. line ⊕ values_tokens (parts_json shows family outer all set left ps)) none) ∙ h

-- the field of what bytes mean
pub data_written : (o : Order) (family : List ℕ) (shows : Shows) (parts : List Part) (bs : List ℕ) (s : Sense) (line named new : Line) → parts ≡ [] → is_known s ≡ true
    → named ≡ line ⊕ (key (codes "data") ∷ []) → new ≡ named ⊕ json_tokens (or_digits bs (sense_json o family shows parts bs s))
    → new ≡ line ⊕ fields_tokens (data_fields (sense_json o family shows [] bs s))
data_written o family shows parts bs s line named new none known begun written = by_case (sense_shown o family shows [] bs s) where
  value : Json
  value = or_digits bs (sense_json o family shows [] bs s)

  by_case : (is_known s ≡ true) × (held_json bs (sense_json o family shows [] bs s) ≡ (codes "data", value)) × (data_fields (sense_json o family shows [] bs s) ≡ (codes "data", value) ∷ [])
      ⊎ (is_known s ≡ false) × (sense_json o family shows [] bs s ≡ None) → new ≡ line ⊕ fields_tokens (data_fields (sense_json o family shows [] bs s))
  by_case (inl so) =
      named_value line named new (codes "data") value begun (written ∙ ap (λ ps. named ⊕ json_tokens (or_digits bs (sense_json o family shows ps bs s))) none)
      ∙ ap (λ fields. line ⊕ fields_tokens fields) (sym so.2)
  by_case (inr out) = let false_too : true ≡ false = sym known ∙ out.0 in absurd (cc)

-- no field where nothing is known
pub data_missing : (o : Order) (family : List ℕ) (shows : Shows) (bs : List ℕ) (s : Sense) (line : Line) → is_known s ≡ false
    → line ≡ line ⊕ fields_tokens (data_fields (sense_json o family shows [] bs s))
data_missing o family shows bs s line unknown = by_case (sense_shown o family shows [] bs s) where
  by_case : (is_known s ≡ true) × (held_json bs (sense_json o family shows [] bs s) ≡ (codes "data", or_digits bs (sense_json o family shows [] bs s)))
      × (data_fields (sense_json o family shows [] bs s) ≡ (codes "data", or_digits bs (sense_json o family shows [] bs s)) ∷ [])
      ⊎ (is_known s ≡ false) × (sense_json o family shows [] bs s ≡ None) → line ≡ line ⊕ fields_tokens (data_fields (sense_json o family shows [] bs s))
  by_case (inl so) = let false_too : false ≡ true = sym unknown ∙ so.0 in absurd (cc)
  by_case (inr out) = sym (no_field line) ∙ sym (ap (λ d. line ⊕ fields_tokens (data_fields d)) out.1)

-- a meaning that is known is not unknown
pub known_apart : (s : Sense) → is_known s ≡ true → s ≡ sense.unknown → ⊥
known_apart s known is = let false_too : true ≡ false = sym known ∙ ap is_known is in cc
