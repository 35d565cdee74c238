-- A search for the first attribute of a number: what its loop keeps, and what it finds of a list that fits.
use Rattle.std.proofs.Common.{◌≡◌, ◌≢◌, ◌≤◌, ◌<◌, ◌+◌, ◌-◌, ◌%◌, ◌∙◌, ◌++◌, ℕ, Bool, true, false, cond, eqb, max, List, [], length, take, drop, Option, Some, None, Result, Ok, Err, refl, sym, ap, subst, arith, length-drop, length-append, inl, inr}
use Rattle.std.proofs.lemmas.Bool.{cases_lt, eq-eqb, ne_eqb}
use Rattle.rtnl_c.proofs.Common.{drop-drop, take_at, Order, num, kind_of, span_of, Shape, Fault, LONGEST_REGION, IsPart, StandsAt, flags_of, payload_of}
use Rattle.nl_attr.specs.declared.fault.Reason.{Reason}
use Rattle.nl_attr.specs.declared.fault.Reason.TheVariants.{Cut, BadLength, ShortBody, TooLong, TooDeep}
use Rattle.nl_attr.specs.declared.tree.AttrFlags.{AttrFlags}
use Rattle.nl_attr.specs.declared.tree.Ctx.{Ctx}
use Rattle.nl_attr.specs.declared.walk.attrs.Part.{Part}
use Rattle.nl_attr.specs.Codes.{reason_code}
use Rattle.nl_attr.specs.Layout.{Fits, FitsVal, kind_number}
use Rattle.nl_attr.specs.Tree.{Val, Items, no_items, item, holds_of}
use Rattle.nl_attr.specs.Views.{Entry, first_of}
use Rattle.nl_attr.proofs.Lemmas.Fitting.{IsAttr, attr_is}
use Rattle.nl_attr.proofs.Lemmas.Numbers.{head_then, past_head}
use Rattle.nl_attr.proofs.Lemmas.Reading.{sound_within, span_at_least}
use Rattle.nl_attr.proofs.Lemmas.Scan.{span_within}
use Rattle.rtnl_c.specs.declared.cursors.AttrAt.{AttrAt}
use Rattle.rtnl_c.specs.Cursors.{AttrStands, attr_found, no_attr}
use Rattle.rtnl_c.specs.Find.{Finds, found, ended, further, IsEntry, AnswersEntry, IsFirst, from_first}

-- ---- the loop

place_by : (p : ℕ) (x : Option (Result Part Fault)) → (attr_found p x).place ≡ p
place_by p None = refl
place_by p (Some (Err f)) = refl
place_by p (Some (Ok q)) = refl

-- a fault's code is not that of an attribute
no_zero : (r : Reason) → reason_code r ≡ 0 → ⊥
no_zero Cut e = absurd (omega arith)
no_zero BadLength e = absurd (omega arith)
no_zero ShortBody e = absurd (omega arith)
no_zero TooLong e = absurd (omega arith)
no_zero TooDeep e = absurd (omega arith)

module _ (o : Order) (bytes : List ℕ) where
  -- an answer has the place that was asked for
  place_is : (p : ℕ) (a : AttrAt) → AttrStands o bytes p a → a.place ≡ p
  place_is p a s = ap (λ (x : AttrAt). x.place) s.2 ∙ place_by p s.0

  -- the next place is behind this one, and not behind the end
  pub record Rises (p : ℕ) (a : AttrAt) : Type 0 where
    pub before : p < length bytes
    pub behind : p < a.next
    pub within : a.next ≤ length bytes

  rises_by : (p : ℕ) (a : AttrAt) (x : Option (Result Part Fault)) → StandsAt 4 IsPart o bytes p x → a ≡ attr_found p x → a.code ≡ 0 → Rises p a
  rises_by p a None s e z = absurd (omega (arith, ap (λ (x : AttrAt). x.code) e, z))
  rises_by p a (Some (Err f)) s e z = absurd (no_zero f.reason (sym (ap (λ (x : AttrAt). x.code) e) ∙ z))
  rises_by p a (Some (Ok q)) s e z =
      let left = drop p bytes in
      let w = sound_within o 4 2 left s.1 in
      let next : a.next ≡ p + span_of o 2 left = ap (λ (x : AttrAt). x.next) e ∙ ap (λ n. p + n) s.2.span in
      let n : length left + p ≡ length bytes = omega (arith, s.0, length-drop p bytes) in
      record {
        before = s.0;
        behind = omega (arith, next, w.low, span_at_least o 2 left w.high);
        within = omega (arith, next, n, span_within o 2 left);
      }

  module _ (number place : ℕ) where
    -- what is found from here on is what is found from the place that was asked for
    pub record Searches (here : AttrAt) : Type 0 where
      pub stands : AttrStands o bytes here.place here
      pub on : (a : AttrAt) → Finds o bytes number here.place a → Finds o bytes number place a

    pub search_goes : (here there : AttrAt) → Searches here → here.code ≡ 0 → here.number ≢ number → AttrStands o bytes here.next there → Searches there
    search_goes here there g z other s = record {
      stands = subst (λ (p : ℕ). AttrStands o bytes p there) (sym (place_is here.next there s)) s;
      on = λ a f. g.on a (further here.place here a g.stands z other (subst (λ (p : ℕ). Finds o bytes number p a) (place_is here.next there s) f));
    }

    pub search_finds : (here : AttrAt) → Searches here → here.code ≡ 0 → here.number ≡ number → Finds o bytes number place here
    search_finds here g z same = g.on here (found here.place here g.stands z same)

    pub search_ends : (here : AttrAt) → Searches here → here.code ≢ 0 → Finds o bytes number place here
    search_ends here g bad = g.on here (ended here.place here g.stands bad)

    -- what the loop keeps of the attribute at which it is
    abbrev pub Keeps : AttrAt → Type 0
    Keeps here = (length bytes ≤ LONGEST_REGION → Searches here) × (LONGEST_REGION < length bytes → here ≡ no_attr place 6)

    -- it goes on in a region that is not too large
    goes_small : (here : AttrAt) → Keeps here → here.code ≡ 0 → length bytes ≤ LONGEST_REGION
    goes_small here k z = elim (cases_lt LONGEST_REGION (length bytes)) [
      | inl large ↦ absurd (omega (arith, ap (λ (x : AttrAt). x.code) (k.1 large), z))
      | inr small ↦ small
    ]

    pub search_keeps : (here there : AttrAt) → Keeps here → here.code ≡ 0 → here.number ≢ number → (length bytes ≤ LONGEST_REGION → AttrStands o bytes here.next there) → Keeps there
    search_keeps here there k z other s =
        let small = goes_small here k z in
        (λ h. search_goes here there (k.0 h) z other (s h), λ large. absurd (omega (arith, small, large)))

    -- less is left behind the next attribute
    pub search_falls : (here there : AttrAt) → Keeps here → here.code ≡ 0 → (length bytes ≤ LONGEST_REGION → AttrStands o bytes here.next there) → length bytes - there.place < length bytes - here.place
    search_falls here there k z s =
        let small = goes_small here k z in
        let g = (k.0 small).stands in
        let r = rises_by here.place here g.0 g.1 g.2 z in
        omega (arith, r.before, r.behind, place_is here.next there (s small))

-- ---- one answer

-- the answer to C of an attribute
abbrev attr_of : ℕ → ℕ → ℕ → AttrFlags → List ℕ → AttrAt
attr_of place span n flags payload = record { place = place; next = place + span; len = length payload; number = n; nested = flags.nested; net = flags.net; code = 0 }

attr_same : {p s t n m : ℕ} {f g : AttrFlags} {a b : List ℕ} → s ≡ t → n ≡ m → f ≡ g → a ≡ b → attr_of p s n f a ≡ attr_of p t m g b
attr_same e f g h = rw (e, f, g, h) refl

module _ (o : Order) (bytes : List ℕ) where
  -- the answer of an attribute by the fields of its header
  part_is : (p : ℕ) (q : Part) → IsPart q (record { order = o; place = p; left = drop p bytes })
      → attr_found p (Some (Ok q)) ≡ attr_of p (span_of o 2 (drop p bytes)) (kind_of o (drop p bytes) % 16384) (flags_of (kind_of o (drop p bytes))) (payload_of o 4 2 (drop p bytes))
  part_is p q i = attr_same i.span i.number i.flags i.payload

  -- one thing stands at a place
  one_by : (p : ℕ) (x y : Option (Result Part Fault)) → StandsAt 4 IsPart o bytes p x → StandsAt 4 IsPart o bytes p y → attr_found p x ≡ attr_found p y
  one_by p None None s t = refl
  one_by p None (Some (Ok q)) s t = absurd (omega (arith, s, t.0))
  one_by p None (Some (Err f)) s t = absurd (omega (arith, s, t.0))
  one_by p (Some (Ok q)) None s t = absurd (omega (arith, s.0, t))
  one_by p (Some (Ok q)) (Some (Ok r)) s t = part_is p q s.2 ∙ sym (part_is p r t.2)
  one_by p (Some (Ok q)) (Some (Err f)) s t = absurd (let a = s.1 in let b = t.1 in cc)
  one_by p (Some (Err f)) None s t = absurd (omega (arith, s.0, t))
  one_by p (Some (Err f)) (Some (Ok q)) s t = absurd (let a = s.1 in let b = t.1 in cc)
  one_by p (Some (Err f)) (Some (Err g)) s t =
      let same : f.reason ≡ g.reason = let a = s.1 in let b = t.1 in cc in
      ap (λ (r : Reason). no_attr p (reason_code r)) same

  one_stands : (p : ℕ) (a b : AttrAt) → AttrStands o bytes p a → AttrStands o bytes p b → a ≡ b
  one_stands p a b s t = s.2 ∙ one_by p s.0 t.0 s.1 t.1 ∙ sym t.2

  -- at most one answer is found
  pub one_found : (number place : ℕ) (a b : AttrAt) → Finds o bytes number place a → Finds o bytes number place b → a ≡ b
  one_found number place a b (found p x s z same) (found p' y t w same') = one_stands p x y s t
  one_found number place a b (found p x s z same) (ended p' y t bad) = one_stands p x y s t
  one_found number place a b (found p x s z same) (further p' c y t w other f) = absurd (other (sym (ap (λ (q : AttrAt). q.number) (one_stands p x c s t)) ∙ same))
  one_found number place a b (ended p x s bad) (found p' y t w same) = one_stands p x y s t
  one_found number place a b (ended p x s bad) (ended p' y t bad') = one_stands p x y s t
  one_found number place a b (ended p x s bad) (further p' c y t w other f) = absurd (bad (ap (λ (q : AttrAt). q.code) (one_stands p x c s t) ∙ w))
  one_found number place a b (further p c x s z other f) (found p' y t w same) = absurd (other (ap (λ (q : AttrAt). q.number) (one_stands p c y s t) ∙ same))
  one_found number place a b (further p c x s z other f) (ended p' y t bad) = absurd (bad (sym (ap (λ (q : AttrAt). q.code) (one_stands p c y s t)) ∙ z))
  one_found number place a b (further p c x s z other f) (further p' d y t w other' g) =
      one_found number c.next x y f (subst (λ (q : AttrAt). Finds o bytes number q.next y) (sym (one_stands p c d s t)) g)

-- ---- a list that fits

-- what stands where an attribute of the list begins
attr_by : (o : Order) (bytes it rest payload : List ℕ) (place n : ℕ) (flags : AttrFlags) (a : AttrAt) (x : Option (Result Part Fault)) → place < length bytes
    → IsAttr o (drop place bytes) it n flags payload rest → StandsAt 4 IsPart o bytes place x → a ≡ attr_found place x → a ≡ attr_of place (span_of o 2 (drop place bytes)) n flags payload
attr_by o bytes it rest payload place n flags a None lt i s e = absurd (omega (arith, lt, s))
attr_by o bytes it rest payload place n flags a (Some (Err f)) lt i s e = absurd (let sound = i.cut.sound in let broken = s.1 in cc)
attr_by o bytes it rest payload place n flags a (Some (Ok q)) lt i s e =
    e ∙ part_is o bytes place q s.2 ∙ attr_same refl i.number i.flags_are i.payload_is

-- what is answered at the end
end_by : (o : Order) (bytes : List ℕ) (place : ℕ) (a : AttrAt) (x : Option (Result Part Fault)) → length bytes ≤ place → StandsAt 4 IsPart o bytes place x → a ≡ attr_found place x → a ≡ no_attr place 255
end_by o bytes place a None le s e = e
end_by o bytes place a (Some (Err f)) le s e = absurd (omega (arith, le, s.0))
end_by o bytes place a (Some (Ok q)) le s e = absurd (omega (arith, le, s.0))

max_is : (a b : ℕ) → b ≤ a → max a b ≡ a
max_is a b h = omega arith

max_same : (a b c : ℕ) → a ≤ c → b ≤ c → max a c ≡ max b c
max_same a b c h k = omega arith

module _ (S : Shape) (ctx : Ctx) (l : ℕ) (bytes : List ℕ) (number : ℕ) where
  -- nothing is left of the list
  ends : (place : ℕ) (a : AttrAt) → drop place bytes ≡ [] → AttrStands S.order bytes place a → IsFirst S ctx l bytes place no_items number a
  ends place a none s =
      let le : length bytes ≤ place = omega (arith, ap (length {A = ℕ}) none, length-drop place bytes) in
      let is = end_by S.order bytes place a s.0 le s.1 s.2 in
      record {
        entry = is ∙ ap (λ p. no_attr p 255) (sym (max_is place (length bytes) le));
        stands = ap (λ (x : AttrAt). drop x.place bytes) is ∙ none;
      }

  -- nothing stands there
  not_end : (place : ℕ) (a : AttrAt) → drop place bytes ≡ [] → AttrStands S.order bytes place a → a.code ≡ 0 → ⊥
  not_end place a none s z =
      let le : length bytes ≤ place = omega (arith, ap (length {A = ℕ}) none, length-drop place bytes) in
      omega (arith, ap (λ (x : AttrAt). x.code) (end_by S.order bytes place a s.0 le s.1 s.2), z)

  module _ (place n : ℕ) (flags : AttrFlags) (v : Val) (more : Items) (fits : Fits S (item n flags v more) (drop place bytes) ctx l) where
    -- the first attribute of the list, in the bytes
    at_front : IsAttr S.order (drop place bytes) fits.0 n flags fits.3 fits.2
    at_front = attr_is S.order (drop place bytes) fits.0 fits.1 fits.2 fits.3 n flags fits.4 fits.5 fits.6

    -- it lies in them
    long : place + 4 + length fits.3 ≤ length bytes
    long = omega (arith, at_front.size, ap (length {A = ℕ}) fits.4.parts, length-append fits.0 (fits.1 ++ fits.2), length-drop place bytes)

    -- what stands there is it
    stood : (a : AttrAt) → AttrStands S.order bytes place a → a ≡ attr_of place (span_of S.order 2 (drop place bytes)) n flags fits.3
    stood a s = attr_by S.order bytes fits.0 fits.2 fits.3 place n flags a s.0 (omega (arith, long)) at_front s.1 s.2

    -- the payload lies behind the header
    payload_is : take (length fits.3) (drop (place + 4) bytes) ≡ fits.3
    payload_is =
        let k = kind_number n flags in
        let start : drop place bytes ≡ num (length fits.0) 2 S.order ++ (num k 2 S.order ++ (fits.3 ++ (fits.1 ++ fits.2))) = fits.4.parts ∙ ap (λ (t : List ℕ). t ++ (fits.1 ++ fits.2)) fits.5 ∙ head_then S.order (length fits.0) k fits.3 (fits.1 ++ fits.2) in
        ap (take (length fits.3)) (sym (drop-drop 4 place bytes) ∙ ap (drop 4) start ∙ past_head S.order (length fits.0) k (fits.3 ++ (fits.1 ++ fits.2))) ∙ take_at fits.3 (fits.1 ++ fits.2) (length fits.3) refl

    -- it is the first attribute of the number
    here : (a : AttrAt) → AttrStands S.order bytes place a → a.number ≡ number → IsFirst S ctx l bytes place (item n flags v more) number a
    here a s same =
        let is = stood a s in
        let equal : eqb n number ≡ true = eq-eqb n number (sym (ap (λ (x : AttrAt). x.number) is) ∙ same) in
        let e : Entry = record { number = n; flags = flags; value = v } in
        let entry : IsEntry S ctx l bytes e (attr_of place (span_of S.order 2 (drop place bytes)) n flags fits.3) = record {
          code = refl;
          within = long;
          number = refl;
          flags = refl;
          value = subst (λ (x : List ℕ). FitsVal S v (holds_of ctx n flags) x (length fits.3 + 4) l) (sym payload_is) (subst (λ k. FitsVal S v (holds_of ctx n flags) fits.3 k l) at_front.size fits.7);
        } in
        record {
          entry = subst (λ (b : Bool). AnswersEntry S ctx l bytes place (cond b (Some e) (first_of more number)) a) (sym equal) (subst (λ (x : AttrAt). IsEntry S ctx l bytes e x) (sym is) entry);
          stands = subst (λ (b : Bool). Fits S (cond b (item n flags v more) (from_first more number)) (drop a.place bytes) ctx l) (sym equal) (subst (λ (x : AttrAt). Fits S (item n flags v more) (drop x.place bytes) ctx l) (sym is) fits);
        }

    -- the rest of the list fits behind it
    behind : (b : AttrAt) → AttrStands S.order bytes place b → Fits S more (drop b.next bytes) ctx l
    behind b s = subst (λ (x : List ℕ). Fits S more x ctx l) (sym (ap (λ (x : AttrAt). drop x.next bytes) (stood b s) ∙ sym (drop-drop (span_of S.order 2 (drop place bytes)) place bytes) ∙ at_front.cut.rest_is)) fits.8

    -- the end is the same from here
    none_is : (p : ℕ) (found : Option Entry) (a : AttrAt) → place ≤ length bytes → p ≤ length bytes → AnswersEntry S ctx l bytes p found a → AnswersEntry S ctx l bytes place found a
    none_is p None a h k e = e ∙ ap (λ q. no_attr q 255) (max_same p place (length bytes) k h)
    none_is p (Some x) a h k e = e

    -- it is found behind
    there : (a b : AttrAt) → AttrStands S.order bytes place b → b.code ≡ 0 → b.number ≢ number → IsFirst S ctx l bytes b.next more number a → IsFirst S ctx l bytes place (item n flags v more) number a
    there a b s z other first =
        let is = stood b s in
        let differ : eqb n number ≡ false = ne_eqb n number (λ e. other (ap (λ (x : AttrAt). x.number) is ∙ e)) in
        let r = rises_by S.order bytes place b s.0 s.1 s.2 z in
        let e : Entry = record { number = n; flags = flags; value = v } in
        record {
          entry = subst (λ (t : Bool). AnswersEntry S ctx l bytes place (cond t (Some e) (first_of more number)) a) (sym differ) (none_is b.next (first_of more number) a (omega (arith, r.before)) r.within first.entry);
          stands = subst (λ (t : Bool). Fits S (cond t (item n flags v more) (from_first more number)) (drop a.place bytes) ctx l) (sym differ) first.stands;
        }

    -- its header breaks no rule
    sound : (a : AttrAt) → AttrStands S.order bytes place a → a.code ≡ 0
    sound a s = ap (λ (x : AttrAt). x.code) (stood a s)

  -- what is found is the first attribute of the number in the list
  pub first_is : (items : Items) (place : ℕ) (a : AttrAt) → Fits S items (drop place bytes) ctx l → Finds S.order bytes number place a → IsFirst S ctx l bytes place items number a
  first_is no_items place a fits (found p x s z same) = ends p x fits s
  first_is no_items place a fits (ended p x s bad) = ends p x fits s
  first_is no_items place a fits (further p b x s z other f) = absurd (not_end p b fits s z)
  first_is (item n flags v more) place a fits (found p x s z same) = here p n flags v more fits x s same
  first_is (item n flags v more) place a fits (ended p x s bad) = absurd (bad (sound p n flags v more fits x s))
  first_is (item n flags v more) place a fits (further p b x s z other f) = there p n flags v more fits x b s z other (first_is more b.next x (behind p n flags v more fits b s) f)
