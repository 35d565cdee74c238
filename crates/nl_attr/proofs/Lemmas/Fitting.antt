-- What fits a region is what is read of it, so no two lists fit one.
use Rattle.nl_attr.proofs.Common.{◌≡◌, ◌≢◌, ℕ, ◌+◌, ◌-◌, ◌*◌, ◌/◌, ◌%◌, ◌<◌, ◌≤◌, min, Bool, true, false, cond, eqb, ltb, ◌||◌, ◌⊎◌, ℤ, List, [], ◌∷◌, ◌++◌, length, take, drop, Some, None, Result, Ok, refl, sym, ap, subst, ◌∙◌, arith, inl, inr, append_assoc, length-append, length-drop, le-ltb, take_at, drop_at, slice_index, w32, cast_signed, cast_unsigned, to_z-of_z, Fits-lt-pow, Fits-of_z, LONGEST_CONTAINER, Cut, BadLength, TooLong, TooDeep, Fault, AttrFlags, Ctx, Route, Content, Order, Shape, aligned, num, len_of, kind_of, span_of, flags_of, ifindex_of, broken_length, Val, bytes, list, hops, Items, no_items, item, HopItems, no_hops, hop, holds_of, IsPadded, IsPiece, kind_number, FitsVal, Fits, FitsHops, broken_container, Outcome, and_then, map_value, more_visits, look_at, items_at, items_of_region, hops_of_region, value_at, attr_at, payload_of}
use Rattle.nl_attr.specs.declared.tree.Content.TheVariants as content
use Rattle.nl_attr.proofs.Lemmas.Numbers.{number_of-num, kind_of-num, index_of-num, past_head, past_hop, flags_at, count_at, head_length, head_then, hop_then}
use Rattle.nl_attr.proofs.Lemmas.Reading.{one_result, items_step, hops_step}
use Rattle.nl_attr.proofs.Lemmas.Grammars.{no_length}

-- a piece at the front, as the fields of its head have it
pub record IsCut (o : Order) (h w : ℕ) (left it rest : List ℕ) : Type 0 where
  pub sound : broken_length o h w left ≡ None
  pub len : len_of o w left ≡ length it
  pub item : take (len_of o w left) left ≡ it
  pub rest_is : drop (span_of o w left) left ≡ rest

span_is : (len pad n : ℕ) → len + pad ≤ n → (len + pad ≡ (len + 3) / 4 * 4) ⊎ ((len + pad < (len + 3) / 4 * 4) × (len + pad ≡ n)) → min ((len + 3) / 4 * 4) n ≡ len + pad
span_is len pad n le (inl e) = omega arith
span_is len pad n le (inr e) = omega arith

none_broken : (a b c : Bool) → a ≡ false → b ≡ false → c ≡ false → cond a (Some Cut) (cond (b || c) (Some BadLength) None) ≡ None
none_broken a b c e f g = rw (e, f, g) refl

padded_len : (len pad : ℕ) (it pd rest left : List ℕ) → length it ≡ len → length pd ≡ pad → left ≡ it ++ (pd ++ rest) → IsPadded len pad rest → (len + pad ≡ (len + 3) / 4 * 4) ⊎ ((len + pad < (len + 3) / 4 * 4) × (len + pad ≡ length left))
padded_len len pad it pd rest left a b e (inl p) = inl p
padded_len len pad it pd rest left a b e (inr p) = inr (p.0, omega (arith, ap (length {A = ℕ}) e, ap (length {A = ℕ}) p.1, length-append it (pd ++ rest), length-append pd rest))

pub cut_piece : (o : Order) (h w : ℕ) (left it pad rest : List ℕ) → IsPiece o h w left it pad rest → IsCut o h w left it rest
cut_piece o h w left it pad rest p =
    let n = length it in
    let start : left ≡ num n w o ++ (p.body ++ (pad ++ rest)) = p.parts ∙ ap (λ (t : List ℕ). t ++ (pad ++ rest)) p.says ∙ append_assoc (num n w o) p.body (pad ++ rest) in
    let len : len_of o w left ≡ n = ap (len_of o w) start ∙ number_of-num o w n (p.body ++ (pad ++ rest)) p.fits in
    let all : length left ≡ n + (length pad + length rest) = omega (arith, ap (length {A = ℕ}) p.parts, length-append it (pad ++ rest), length-append pad rest) in
    let span : span_of o w left ≡ n + length pad = ap (λ (k : ℕ). min ((k + 3) / 4 * 4) (length left)) len ∙ span_is n (length pad) (length left) (omega arith) (padded_len n (length pad) it pad rest left refl refl p.parts p.padded) in
    record {
      sound = none_broken (ltb (length left) h) (ltb (len_of o w left) h) (ltb (length left) (len_of o w left)) (le-ltb (length left) h (omega (arith, p.least))) (le-ltb (len_of o w left) h (omega (arith, p.least))) (le-ltb (length left) (len_of o w left) (omega arith));
      len = len;
      item = rw (len, p.parts) (take_at it (pad ++ rest) n refl);
      rest_is = rw (span, p.parts) (ap (drop (n + length pad)) (sym (append_assoc it pad rest)) ∙ drop_at (it ++ pad) rest (n + length pad) (length-append it pad));
    }

-- what the type field of an attribute's head says
pub record IsKind (kind n : ℕ) (flags : AttrFlags) : Type 0 where
  pub number : kind % 16384 ≡ n
  pub flags_are : flags_of kind ≡ flags

flags_made : (kind a b : ℕ) → kind / 32768 ≡ a → kind / 16384 % 2 ≡ b → flags_of kind ≡ record { nested = eqb a 1; net = eqb b 1 }
flags_made kind a b e f = rw (e, f) refl

kind_is : (n : ℕ) (flags : AttrFlags) → n < 16384 → IsKind (kind_number n flags) n flags
kind_is n flags h = both flags.nested flags.net where
  both : (a b : Bool) → IsKind (n + cond b 16384 0 + cond a 32768 0) n (record { nested = a; net = b })
  both true true = record { number = omega arith; flags_are = flags_made (n + 16384 + 32768) 1 1 (omega arith) (omega arith) }
  both true false = record { number = omega arith; flags_are = flags_made (n + 0 + 32768) 1 0 (omega arith) (omega arith) }
  both false true = record { number = omega arith; flags_are = flags_made (n + 16384 + 0) 0 1 (omega arith) (omega arith) }
  both false false = record { number = omega arith; flags_are = flags_made (n + 0 + 0) 0 0 (omega arith) (omega arith) }

kind_below : (n : ℕ) (flags : AttrFlags) → n < 16384 → kind_number n flags < 65536
kind_below n flags h = both flags.nested flags.net where
  both : (a b : Bool) → n + cond b 16384 0 + cond a 32768 0 < 65536
  both true true = omega arith
  both true false = omega arith
  both false true = omega arith
  both false false = omega arith

-- an attribute at the front, as the list that fits has it
pub record IsAttr (o : Order) (left it : List ℕ) (n : ℕ) (flags : AttrFlags) (payload rest : List ℕ) : Type 0 where
  pub cut : IsCut o 4 2 left it rest
  pub number : kind_of o left % 16384 ≡ n
  pub flags_are : flags_of (kind_of o left) ≡ flags
  pub payload_is : payload_of o 4 2 left ≡ payload
  pub size : length it ≡ length payload + 4

pub attr_is : (o : Order) (left it pad rest payload : List ℕ) (n : ℕ) (flags : AttrFlags) → IsPiece o 4 2 left it pad rest → it ≡ num (length it) 2 o ++ (num (kind_number n flags) 2 o ++ payload) → n < 16384 → IsAttr o left it n flags payload rest
attr_is o left it pad rest payload n flags p e low =
    let cut = cut_piece o 4 2 left it pad rest p in
    let k = kind_number n flags in
    let start : left ≡ num (length it) 2 o ++ (num k 2 o ++ (payload ++ (pad ++ rest))) = p.parts ∙ ap (λ (t : List ℕ). t ++ (pad ++ rest)) e ∙ head_then o (length it) k payload (pad ++ rest) in
    let kind : kind_of o left ≡ k = ap (kind_of o) start ∙ kind_of-num o (length it) k (payload ++ (pad ++ rest)) (kind_below n flags low) in
    let is = kind_is n flags low in
    record {
      cut = cut;
      number = ap (λ x. x % 16384) kind ∙ is.number;
      flags_are = ap flags_of kind ∙ is.flags_are;
      payload_is = ap (drop 4) (cut.item ∙ e) ∙ past_head o (length it) k payload;
      size = ap (length {A = ℕ}) e ∙ head_length o (length it) k payload;
    }

-- what is behind a piece begins at its aligned length
pub next_span : (o : Order) (h w : ℕ) (left it rest : List ℕ) → IsCut o h w left it rest → rest ≢ [] → span_of o w left ≡ aligned (length it)
next_span o h w left it rest c some =
    whole (aligned (len_of o w left)) (length left) (length rest) (omega (arith, ap (length {A = ℕ}) c.rest_is, length-drop (span_of o w left) left)) (no_length rest some) ∙ ap aligned c.len where
      whole : (a n d : ℕ) → d ≡ n - min a n → 0 < d → min a n ≡ a
      whole a n d e lt = omega arith

abbrev pub ReadAs : {A : Type 0} → Outcome A → A → Type 0
ReadAs o x = (v : ℕ) × (o ≡ (Ok x, v))

-- an outcome that is Ok goes on
pub then_read : {A B : Type 0} (o : Outcome A) (g : A → Outcome B) (x : A) (y : B) → ReadAs o x → ReadAs (g x) y → ReadAs (and_then o g) y
then_read o g x y h k = (h.0 + k.0, ap (λ p. and_then p g) h.1 ∙ ap (λ (p : Outcome _). (p.0, h.0 + p.1)) k.1)

pub map_read : {A B : Type 0} (f : A → B) (o : Outcome A) (x : A) → ReadAs o x → ReadAs (map_value f o) (f x)
map_read f o x h = (h.0, ap (map_value f) h.1)

more_read : {A : Type 0} (n : ℕ) (o : Outcome A) (x : A) → ReadAs o x → ReadAs (more_visits n o) x
more_read n o x h = (n + h.0, ap (more_visits n) h.1)

pub along : {A : Type 0} (o p : Outcome A) (x : A) → o ≡ p → ReadAs p x → ReadAs o x
along o p x e h = (h.0, e ∙ h.1)

attr_read : (S : Shape) (ctx : Ctx) (l place n : ℕ) (flags : AttrFlags) (payload : List ℕ) (v : Val) → broken_container S l (holds_of ctx n flags) (length payload + 4) ≡ None
    → ReadAs (value_at S (holds_of ctx n flags) l (place + 4) payload) v → ReadAs (attr_at S ctx l place n flags payload) (λ more. item n flags v more)
attr_read S ctx l place n flags payload v e h =
    then_read (look_at place 0 (broken_container S l (holds_of ctx n flags) (length payload + 4))) _ tt _ (0, ap (look_at place 0) e) (map_read (λ w more. item n flags w more) _ v h)

tests_pass : (a b : Bool) → a ≡ false → b ≡ false → cond a (Some TooLong) (cond b (Some TooDeep) None) ≡ None
tests_pass a b e f = rw (e, f) refl

four : {n m : ℕ} {f g : AttrFlags} {a b c d : List ℕ} → n ≡ m → f ≡ g → a ≡ b → c ≡ d → ◌≡◌ {A = ℕ × AttrFlags × List ℕ × List ℕ} (n, f, a, c) (m, g, b, d)
four p q r s = cc

five : {n m p q : ℕ} {f g : ℤ} {a b c d : List ℕ} → n ≡ m → p ≡ q → f ≡ g → a ≡ b → c ≡ d → ◌≡◌ {A = ℕ × ℕ × ℤ × List ℕ × List ℕ} (n, p, f, a, c) (m, q, g, b, d)
five p q r s t = cc

mutual
  unfolding items_at

  pub items_fit : (is : Items) (S : Shape) (ctx : Ctx) (l place : ℕ) (left : List ℕ) → Fits S is left ctx l → ReadAs (items_of_region S ctx l place left) is
  items_fit no_items S ctx l place left f = along _ _ no_items (ap (λ x. items_of_region S ctx l place x) f) (0, refl)
  items_fit (item n flags v more) S ctx l place left f =
      let it = f.0 in
      let pad = f.1 in
      let rest = f.2 in
      let payload = f.3 in
      let is = attr_is S.order left it pad rest payload n flags f.4 f.5 f.6 in
      let val = val_fit v (holds_of ctx n flags) S l (place + 4) payload (subst (λ x. FitsVal S v (holds_of ctx n flags) payload x l) is.size f.7) in
      let step : items_of_region S ctx l place left ≡ more_visits (span_of S.order 2 left) (and_then (attr_at S ctx l place n flags payload) (λ m. map_value m (items_of_region S ctx l (place + span_of S.order 2 left) rest))) =
      items_step S ctx l place left is.cut.sound
      ∙ ap (λ (x : ℕ × AttrFlags × List ℕ × List ℕ). more_visits (span_of S.order 2 left) (and_then (attr_at S ctx l place x.0 x.1 x.2) (λ m. map_value m (items_of_region S ctx l (place + span_of S.order 2 left) x.3)))) (four is.number is.flags_are is.payload_is is.cut.rest_is) in
      along _ _ _ step
      (more_read (span_of S.order 2 left) _ _ (then_read (attr_at S ctx l place n flags payload) _ (λ m. item n flags v m) _ (attr_read S ctx l place n flags payload v val.0 val.1)
      (map_read (λ m. item n flags v m) _ more (items_fit more S ctx l (place + span_of S.order 2 left) rest f.8))))

  pub hops_fit : (hs : HopItems) (S : Shape) (l place : ℕ) (left : List ℕ) → FitsHops S hs left l → ReadAs (hops_of_region S l place left) hs
  hops_fit no_hops S l place left f = along _ _ no_hops (ap (λ x. hops_of_region S l place x) f) (0, refl)
  hops_fit (hop flags count index attrs more) S l place left f =
      let it = f.0 in
      let pad = f.1 in
      let rest = f.2 in
      let payload = f.3 in
      let cut = cut_piece S.order 8 2 left it pad rest f.4 in
      let k = cast_unsigned w32 index in
      let start : left ≡ num (length it) 2 S.order ++ (flags ∷ count ∷ (num k 4 S.order ++ (payload ++ (pad ++ rest)))) = f.4.parts ∙ ap (λ (t : List ℕ). t ++ (pad ++ rest)) f.5 ∙ hop_then S.order (length it) flags count k payload (pad ++ rest) in
      let body : payload_of S.order 8 2 left ≡ payload = ap (drop 8) (cut.item ∙ f.5) ∙ past_hop S.order (length it) flags count k payload in
      let flags-is : slice_index left 2 ≡ flags = ap (λ x. slice_index x 2) start ∙ flags_at S.order (length it) flags _ in
      let count-is : slice_index left 3 ≡ count = ap (λ x. slice_index x 3) start ∙ count_at S.order (length it) flags count _ in
      let index-is : ifindex_of S.order left ≡ index = ap (ifindex_of S.order) start ∙ ap (cast_signed w32) (index_of-num S.order (length it) flags count k (payload ++ (pad ++ rest)) (Fits-lt-pow {w = w32} (Fits-of_z {w = w32} f.6))) ∙ to_z-of_z w32 index f.6 in
      let step : hops_of_region S l place left ≡ more_visits (span_of S.order 2 left) (and_then (items_of_region S Route (l + 1) (place + 8) payload) (λ is. map_value (hop flags count index is) (hops_of_region S l (place + span_of S.order 2 left) rest))) =
      hops_step S l place left cut.sound
      ∙ ap (λ (x : ℕ × ℕ × ℤ × List ℕ × List ℕ). more_visits (span_of S.order 2 left) (and_then (items_of_region S Route (l + 1) (place + 8) x.3) (λ is. map_value (hop x.0 x.1 x.2 is) (hops_of_region S l (place + span_of S.order 2 left) x.4)))) (five flags-is count-is index-is body cut.rest_is) in
      along _ _ _ step
      (more_read (span_of S.order 2 left) _ _ (then_read (items_of_region S Route (l + 1) (place + 8) payload) _ attrs _ (items_fit attrs S Route (l + 1) (place + 8) payload f.7)
      (map_read (λ m. hop flags count index attrs m) _ more (hops_fit more S l (place + span_of S.order 2 left) rest f.8))))

  pub val_fit : (v : Val) (c : Content) (S : Shape) (l place : ℕ) (payload : List ℕ) → FitsVal S v c payload (length payload + 4) l → (broken_container S l c (length payload + 4) ≡ None) × ReadAs (value_at S c l place payload) v
  val_fit (bytes bs) content.Bytes S l place payload f = (refl, (0, ap (λ x. (Ok (bytes x), 0)) f))
  val_fit (list is) (content.List c) S l place payload f = (tests_pass (ltb LONGEST_CONTAINER (length payload + 4)) (ltb S.depth (l + 1)) (le-ltb LONGEST_CONTAINER (length payload + 4) f.0) (le-ltb S.depth (l + 1) f.1), map_read list _ is (items_fit is S c (l + 1) place payload f.2))
  val_fit (hops hs) content.Hops S l place payload f = (tests_pass (ltb LONGEST_CONTAINER (length payload + 4)) (ltb S.depth (l + 2)) (le-ltb LONGEST_CONTAINER (length payload + 4) f.0) (le-ltb S.depth (l + 2) f.1), map_read hops _ hs (hops_fit hs S (l + 1) place payload f.2))
  val_fit v c S l place payload f = absurd f

-- at most one list fits a region, and what is read of it is that list
pub read_result : {A : Type 0} (o : Outcome A) (x : A) (r : Result A Fault) (v : ℕ) → ReadAs o x → o ≡ (r, v) → Ok x ≡ r
read_result o x r v h e = one_result (sym h.1 ∙ e)

pub one_list : (is js : Items) (S : Shape) (ctx : Ctx) (l : ℕ) (left : List ℕ) → Fits S is left ctx l → Fits S js left ctx l → is ≡ js
one_list is js S ctx l left f g =
    let j = items_fit js S ctx l 0 left g in
    let same = read_result (items_of_region S ctx l 0 left) is (Ok js) j.0 (items_fit is S ctx l 0 left f) j.1 in
    cc
