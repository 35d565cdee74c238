-- What was seen of a payload: pieces, numbers, fields, attributes, one after another.
use Rattle.rtnl.proofs.Common.{◌≡◌, ◌≤◌, ◌<◌, ◌+◌, ◌-◌, ◌∙◌, ℕ, zero, suc, List, [], ◌∷◌, ◌++◌, length, take, drop, flat_map, ◌⊎◌, Bool, true, false, Option, Some, None, Order, refl, sym, ap, arith, append_assoc, inl, inr, Mark}
use Rattle.std.proofs.Common.{ltb, replicate, rules}
use Rattle.std.specs.Prelude.{slice_get, unwrap_or}
use Rattle.nl_attr.specs.Fixed.{LONGEST_REGION}
use Rattle.nl_values.specs.Known.{KnownAttribute, KnownField, name_of}
use Rattle.nl_values.specs.Numbers.{size_of}
use Rattle.nl_values.specs.Meanings as sense
use Rattle.nl_values.specs.Meanings.{Sense, resolved_format}
use Rattle.nl_values.specs.declared.format.Format.{Format}
use Rattle.nl_values.specs.declared.format.Format.TheVariants.{Integer}
use Rattle.nl_values.specs.declared.format.Number.{Number}
use Rattle.nl_values.specs.declared.names.Names.{Names}
use Rattle.nl_values.specs.declared.set.Set.{Set}
use Rattle.rtnl.specs.declared.bytes.notation.Notation.TheVariants.{Blank, Meaning}
use Rattle.rtnl.specs.declared.bytes.parts.Depth.{Depth}
use Rattle.rtnl.specs.declared.bytes.parts.Extent.TheVariants.{Bytes}
use Rattle.rtnl.specs.Data.{Part, kind_for, known, left_behind, pieces, sense_at}
use Rattle.rtnl.specs.Inside.{Divides, counter_marks, field_end, field_marks, field_part, held_marks, inside_marks, items_marks, padding_behind, sense_marks, struct_marks, whole}
use Rattle.rtnl.specs.Marks.{gap, named}
use Rattle.rtnl.specs.MessagesJson.{sense_beside, unless_said}
use Rattle.rtnl.specs.Values as reading
use Rattle.rtnl.specs.Values.{Reading}
use Rattle.rtnl.proofs.Payloads.{got_some, none_behind}

-- a piece more
pub piece_seen : (f : List ℕ → List Mark) (size n i : ℕ) (bs front rest : List ℕ) (one two all : List Mark) → front ≡ take size bs → rest ≡ drop size bs → i < n
    → two ≡ one ++ f front → one ++ flat_map f (pieces size (n - i) bs) ≡ all → two ++ flat_map f (pieces size (n - (i + 1)) rest) ≡ all
piece_seen f size n i bs front rest one two all piece cut before step h =
    let others : List ℕ → List Mark = λ bs. flat_map f (pieces size (n - (i + 1)) bs) in
    let is : n - i ≡ suc (n - (i + 1)) = omega (arith, before) in
    (λ j. step j ++ others (cut j)) ∙ ap (λ x. (one ++ f x) ++ others (drop size bs)) piece
    ∙ append_assoc one (f (take size bs)) (others (drop size bs))
    ∙ sym (ap (λ k. one ++ flat_map f (pieces size k bs)) is) ∙ h

-- a number more
pub number_seen : (m : Mark) (n i : ℕ) (one two all : List Mark) → i < n → two ≡ one ++ m ∷ [] → one ++ replicate (n - i) m ≡ all → two ++ replicate (n - (i + 1)) m ≡ all
number_seen m n i one two all before step h =
    let is : n - i ≡ suc (n - (i + 1)) = omega (arith, before) in
    let rest = replicate (n - (i + 1)) m in
    ap (λ t. t ++ rest) step ∙ append_assoc one (m ∷ []) rest ∙ sym (ap (λ k. one ++ replicate k m) is) ∙ h

-- a number more that has a name
pub counter_seen : (depth : Depth) (name : List ℕ) (number : Number) (names : Names) (n i : ℕ) (one two all : List Mark) → i < n
    → two ≡ one ++ named depth (Bytes (size_of number)) (unwrap_or (name_of names i) name) (Meaning (Integer number)) ∷ []
    → one ++ counter_marks depth name number names i (n - i) ≡ all → two ++ counter_marks depth name number names (i + 1) (n - (i + 1)) ≡ all
counter_seen depth name number names n i one two all before step h =
    let is : n - i ≡ suc (n - (i + 1)) = omega (arith, before) in
    let m = named depth (Bytes (size_of number)) (unwrap_or (name_of names i) name) (Meaning (Integer number)) in
    let rest = counter_marks depth name number names (i + 1) (n - (i + 1)) in
    ap (λ t. t ++ rest) step ∙ append_assoc one (m ∷ []) rest ∙ sym (ap (λ k. one ++ counter_marks depth name number names i k) is) ∙ h

-- a field whose bytes are there
pub field_more : (divides : Divides) (depth : Depth) (at count : ℕ) (field : KnownField) (p : Option (List ℕ)) (part : List ℕ) (one two three : List Mark) → p ≡ Some part → count ≡ field.place - at
    → two ≡ one ++ gap depth count ∷ [] → three ≡ two ++ divides depth field.name field.format [] [] part → three ≡ one ++ field_marks divides depth at field p
field_more divides depth at count field p part one two three is between begun seen =
    let mine = divides depth field.name field.format [] [] part in
    seen ∙ ap (λ t. t ++ mine) begun ∙ ap (λ k. (one ++ gap depth k ∷ []) ++ mine) between
    ∙ append_assoc one (gap depth (field.place - at) ∷ []) mine ∙ sym (ap (λ p. one ++ field_marks divides depth at field p) is)

-- a field more, and none more
module _ (divides : Divides) (depth : Depth) (fields : List KnownField) (i at : ℕ) (bs : List ℕ) (one : List Mark) where
  pub field_seen : (field : KnownField) (end : ℕ) (two : List Mark) → slice_get fields i ≡ Some field
      → two ≡ one ++ field_marks divides depth at field (field_part field bs) → end ≡ field_end at field (field_part field bs)
      → two ++ struct_marks divides depth end (drop (i + 1) fields) bs ≡ one ++ struct_marks divides depth at (drop i fields) bs
  field_seen field end two got seen ends =
      let rest : ℕ → List Mark = λ end. struct_marks divides depth end (drop (i + 1) fields) bs in
      (λ j. seen j ++ rest (ends j)) ∙ append_assoc one (field_marks divides depth at field (field_part field bs)) (rest (field_end at field (field_part field bs)))
      ∙ sym (ap (λ fs. one ++ struct_marks divides depth at fs bs) (got_some fields i field got))

  pub no_field_seen : slice_get fields i ≡ None → one ++ struct_marks divides depth at (drop (i + 1) fields) bs ≡ one ++ struct_marks divides depth at (drop i fields) bs
  no_field_seen none = ap (λ fs. one ++ struct_marks divides depth at fs bs) (none_behind fields i none)

-- an attribute more
pub item_seen : (divides : Divides) (depth : Depth) (family : List ℕ) (outer all : List Part) (set : Set) (left after front next size rest : ℕ) (number : ℕ) (payload : List ℕ) (parts others : List Part)
    (it : KnownAttribute) (kind : List ℕ) (one two three whole : List Mark)
    → parts ≡ (number, payload) ∷ others → it ≡ known (Some set) number → kind ≡ kind_for left family outer all it.format → after ≡ left_behind left it.format
    → next ≡ padding_behind (length payload) → rest ≡ size - (front + 4) - length payload
    → two ≡ one ++ gap depth front ∷ [] → three ≡ two ++ held_marks divides depth set number it.format kind all payload
    → one ++ items_marks divides family outer all set depth left front size parts ≡ whole
    → three ++ items_marks divides family outer all set depth after next rest others ≡ whole
item_seen divides depth family outer all set left after front next size rest number payload parts others it kind one two three whole here is chosen behind padded sized begun seen h =
    let held : KnownAttribute → List ℕ → List Mark = λ it kind. held_marks divides depth set number it.format kind all payload in
    let k = known (Some set) number in
    let mine = held k (kind_for left family outer all k.format) in
    let tail : ℕ → ℕ → ℕ → List Mark = λ a b c. items_marks divides family outer all set depth a b c others in
    let ends = tail (left_behind left k.format) (padding_behind (length payload)) (size - (front + 4) - length payload) in
    let next_left : after ≡ left_behind left k.format = behind ∙ ap (λ (it : KnownAttribute). left_behind left it.format) is in
    let all_of : three ≡ (one ++ gap depth front ∷ []) ++ mine =
    seen ∙ ap (λ kind. two ++ held it kind) chosen ∙ ap (λ (it : KnownAttribute). two ++ held it (kind_for left family outer all it.format)) is
    ∙ ap (λ t. t ++ mine) begun in
    (λ j. all_of j ++ tail (next_left j) (padded j) (sized j))
    ∙ append_assoc (one ++ gap depth front ∷ []) mine ends ∙ append_assoc one (gap depth front ∷ []) (mine ++ ends)
    ∙ sym (ap (λ ps. one ++ items_marks divides family outer all set depth left front size ps) here) ∙ h

-- no attribute more: what is left of the bytes
pub no_item_seen : (divides : Divides) (depth : Depth) (family : List ℕ) (outer all : List Part) (set : Set) (left front size : ℕ) (parts : List Part) (one two whole : List Mark)
    → parts ≡ [] → two ≡ one ++ gap depth size ∷ [] → one ++ items_marks divides family outer all set depth left front size parts ≡ whole → two ≡ whole
no_item_seen divides depth family outer all set left front size parts one two whole none seen h =
    seen ∙ sym (ap (λ ps. one ++ items_marks divides family outer all set depth left front size ps) none) ∙ h

-- nothing is said of a payload that is longer than any message
pub long_unknown : (o : Order) (r : Reading) (net : Bool) (f : Format) (kind bs : List ℕ) → LONGEST_REGION < length bs → sense_beside o r net f kind bs ≡ sense.unknown
long_unknown o r true f kind bs long = refl
long_unknown o r false f kind bs long =
    let test : ltb LONGEST_REGION (length bs) ≡ true = search (rules, long) in
    rw test (unsaid r) where
      unsaid : (r : Reading) → unless_said r sense.unknown ≡ sense.unknown
      unsaid (reading.u8 n) = refl
      unsaid (reading.u16 n) = refl
      unsaid (reading.u32 n) = refl
      unsaid (reading.text t) = refl
      unsaid (reading.ipv4 bytes) = refl
      unsaid (reading.ipv6 bytes) = refl
      unsaid (reading.hex bytes) = refl

-- ---- what stands in a payload

module _ (o : Order) (family : List ℕ) (levels : ℕ) (depth : Depth) (name : List ℕ) (f : Format) (kind : List ℕ) (parts : List Part) (bs : List ℕ) where
  -- one part where no level is left, or of too many bytes
  pub none_inside : (levels ≡ 0) ⊎ (LONGEST_REGION < length bs) → inside_marks o family levels depth name f kind parts bs ≡ whole depth name Blank (length bs)
  unfolding inside_marks
  none_inside why = by_levels levels why where
    by_levels : (n : ℕ) → (n ≡ 0) ⊎ (LONGEST_REGION < length bs) → inside_marks o family n depth name f kind parts bs ≡ whole depth name Blank (length bs)
    by_levels zero why = refl
    by_levels (suc n) (inl none) = absurd (omega (arith, none))
    by_levels (suc n) (inr long) =
        let test : ltb LONGEST_REGION (length bs) ≡ true = search (rules, long) in
        rw test refl

  -- else what it means
  pub one_inside : (inner : ℕ) (own : Format) (s : Sense) (one : List Mark) → levels ≡ inner + 1 → length bs ≤ LONGEST_REGION → own ≡ resolved_format o kind f → s ≡ sense_at o levels f kind bs
      → one ++ sense_marks o family (inside_marks o family inner) depth name parts bs Blank (Meaning own) s ≡ one ++ inside_marks o family levels depth name f kind parts bs
  unfolding inside_marks
  one_inside inner own s one is short chosen means =
      let next : levels ≡ suc inner = omega (arith, is) in
      let test : ltb LONGEST_REGION (length bs) ≡ false = search (rules, short) in
      let marks : Format → Sense → List Mark = λ own s. sense_marks o family (inside_marks o family inner) depth name parts bs Blank (Meaning own) s in
      let shown : inside_marks o family (suc inner) depth name f kind parts bs ≡ marks (resolved_format o kind f) (sense_at o (suc inner) f kind bs) = rw test refl in
      (λ j. one ++ marks (chosen j) (means j)) ∙ ap (λ n. one ++ marks (resolved_format o kind f) (sense_at o n f kind bs)) next
      ∙ ap (λ t. one ++ t) (sym shown) ∙ ap (λ n. one ++ inside_marks o family n depth name f kind parts bs) (sym next)
