-- A list that is read fits the region.
use Rattle.nl_attr.proofs.Common.{◌≡◌, ℕ, zero, suc, ◌+◌, ◌/◌, ◌%◌, ◌^◌, ◌<◌, ◌≤◌, Bool, true, false, cond, eqb, ltb, List, [], ◌∷◌, ◌++◌, length, take, drop, Option, Some, None, Ok, Err, refl, sym, ap, subst, ◌∙◌, arith, slice_index, w32, cast_unsigned, of_z-to_z, sfits_to_z, Fits-of_lt, LONGEST_CONTAINER, ltb-false, take-append-drop, take-take, length-take, nil_from_length, Reason, TooLong, TooDeep, Ctx, Route, Content, Order, Shape, AreBytes, num, number_of, len_of, kind_of, span_of, flags_of, ifindex_of, broken_length, Val, bytes, list, hops, Items, no_items, item, HopItems, no_hops, hop, kind_number, FitsVal, Fits, FitsHops, attr_head, broken_in, broken_container, content_at, Outcome, and_then, map_value, look_at, value_by, items_at, hops_at, payload_of}
use Rattle.nl_attr.proofs.Lemmas.Numbers.{two_bytes, four_bytes, two_fit, four_fit, bytes_take, bytes_drop}
use Rattle.nl_attr.specs.declared.tree.Content.TheVariants as content
use Rattle.nl_attr.proofs.Lemmas.Reading.{one_result, IsWithin, sound_within, or_else_none, payload_shorter, rest_shorter}
use Rattle.nl_attr.proofs.Lemmas.Pieces.{piece_at}

pub same_ok : {A : Type 0} (x y : A) (v w : ℕ) → ◌≡◌ {A = Outcome A} (Ok x, v) (Ok y, w) → x ≡ y
same_ok x y v w e = let r = one_result e in cc

pub then_ok : {A B : Type 0} (o : Outcome A) (g : A → Outcome B) (y : B) (v : ℕ) → and_then o g ≡ (Ok y, v) → (x : A) × (u : ℕ) × (w : ℕ) × (o ≡ (Ok x, u)) × (g x ≡ (Ok y, w))
then_ok {A} {B} (Ok x, u) g y v e = (x, u, (g x).1, refl, ap (λ (p : Outcome B). (p.0, (g x).1)) e)
then_ok {A} {B} (Err d, u) g y v e = absurd (let f = one_result e in cc)

pub map_ok : {A B : Type 0} (f : A → B) (o : Outcome A) (y : B) (v : ℕ) → map_value f o ≡ (Ok y, v) → (x : A) × (u : ℕ) × (o ≡ (Ok x, u)) × (f x ≡ y)
map_ok {A} {B} f (Ok x, u) y v e = (x, u, refl, same_ok (f x) y u v e)
map_ok {A} {B} f (Err d, u) y v e = absurd (let g = one_result e in cc)

look_ok : {B : Type 0} (place span : ℕ) (r : Option Reason) (g : Unit {0} → Outcome B) (y : B) (v : ℕ) → and_then (look_at place span r) g ≡ (Ok y, v) → (r ≡ None) × (w : ℕ) × (g tt ≡ (Ok y, w))
look_ok {B} place span None g y v e = (refl, (g tt).1, ap (λ (p : Outcome B). (p.0, (g tt).1)) e)
look_ok {B} place span (Some r) g y v e = absurd (let f = one_result e in cc)

kind_back : (kind p q : ℕ) → kind < 65536 → kind / 32768 ≡ p → kind / 16384 % 2 ≡ q → kind % 16384 + cond (eqb q 1) 16384 0 + cond (eqb p 1) 32768 0 ≡ kind
kind_back kind zero (suc (suc q)) h e f = absurd (omega arith)
kind_back kind (suc zero) (suc (suc q)) h e f = absurd (omega arith)
kind_back kind (suc (suc p)) q h e f = absurd (omega arith)
kind_back kind p q h e f = omega arith

kind_whole : (kind : ℕ) → kind < 65536 → kind_number (kind % 16384) (flags_of kind) ≡ kind
kind_whole kind h = kind_back kind (kind / 32768) (kind / 16384 % 2) h refl refl

-- an item begins with its length and its type
attr_says : (o : Order) (left : List ℕ) → AreBytes left → IsWithin o 4 2 left → take (len_of o 2 left) left ≡ num (len_of o 2 left) 2 o ++ (num (kind_of o left) 2 o ++ payload_of o 4 2 left)
attr_says o (a ∷ b ∷ c ∷ d ∷ xs) fits w =
    let left = a ∷ b ∷ c ∷ d ∷ xs in
    let k = len_of o 2 left in
    sym (take-append-drop 4 (take k left))
    ∙ ap (λ (t : List ℕ). t ++ drop 4 (take k left)) (take-take 4 k left w.low)
    ∙ ap (λ (t : List ℕ). t ++ (c ∷ d ∷ drop 4 (take k left))) (sym (two_bytes o a b (c ∷ d ∷ xs) (fits 0) (fits 1)))
    ∙ ap (λ (t : List ℕ). num k 2 o ++ (t ++ drop 4 (take k left))) (sym (two_bytes o c d xs (fits 2) (fits 3)))
attr_says _ _ fits w = absurd (omega (arith, w.head))

kind_fits : (o : Order) (left : List ℕ) → AreBytes left → 4 ≤ length left → kind_of o left < 65536
kind_fits o (a ∷ b ∷ c ∷ d ∷ xs) fits h = two_fit o c d xs (fits 2) (fits 3)
kind_fits _ _ fits h = absurd (omega arith)

both_pass : (a b : Bool) → cond a (Some TooLong) (cond b (Some TooDeep) None) ≡ None → (a ≡ false) × (b ≡ false)
both_pass true b e = absurd cc
both_pass false true e = absurd cc
both_pass false false e = (refl, refl)

value_sound : (c : Content) (S : Shape) (l len : ℕ) (payload : List ℕ) (is : Ctx → Outcome Items) (hs : Unit {0} → Outcome HopItems) (v : Val) (u : ℕ) → broken_container S l c len ≡ None → value_by c payload is hs ≡ (Ok v, u)
    → ((k : Ctx) (x : Items) (w : ℕ) → is k ≡ (Ok x, w) → Fits S x payload k (l + 1)) → ((x : HopItems) (w : ℕ) → hs tt ≡ (Ok x, w) → FitsHops S x payload (l + 1)) → FitsVal S v c payload len l
value_sound content.Bytes S l len payload is hs v u e f g h = subst (λ (x : Val). FitsVal S x content.Bytes payload len l) (same_ok (bytes payload) v 0 u f) refl
value_sound (content.List c) S l len payload is hs v u e f g h =
    let m = map_ok list (is c) v u f in
    let b = both_pass (ltb LONGEST_CONTAINER len) (ltb S.depth (l + 1)) e in
    subst (λ (x : Val). FitsVal S x (content.List c) payload len l) m.3 (ltb-false _ _ b.0, ltb-false _ _ b.1, g c m.0 m.1 m.2)
value_sound content.Hops S l len payload is hs v u e f g h =
    let m = map_ok hops (hs tt) v u f in
    let b = both_pass (ltb LONGEST_CONTAINER len) (ltb S.depth (l + 2)) e in
    subst (λ (x : Val). FitsVal S x content.Hops payload len l) m.3 (ltb-false _ _ b.0, ltb-false _ _ b.1, h m.0 m.1 m.2)

attr_fits : (left : List ℕ) (ctx : Ctx) (l : ℕ) (S : Shape) (v : Val) (more : Items) → AreBytes left → broken_length S.order 4 2 left ≡ None → FitsVal S v (content_at S.order ctx left) (payload_of S.order 4 2 left) (len_of S.order 2 left) l
    → Fits S more (drop (span_of S.order 2 left) left) ctx l → Fits S (item (kind_of S.order left % 16384) (flags_of (kind_of S.order left)) v more) left ctx l
attr_fits left ctx l S v more fits e val others =
    let w = sound_within S.order 4 2 left e in
    let it = take (len_of S.order 2 left) left in
    let len : length it ≡ len_of S.order 2 left = omega (arith, length-take (len_of S.order 2 left) left, w.high) in
    let kind = kind_whole (kind_of S.order left) (kind_fits S.order left fits w.head) in
    let says : it ≡ num (length it) 2 S.order ++ (num (kind_number (kind_of S.order left % 16384) (flags_of (kind_of S.order left))) 2 S.order ++ payload_of S.order 4 2 left) =
    attr_says S.order left fits w ∙ ap (λ (x : ℕ × ℕ). num x.0 2 S.order ++ (num x.1 2 S.order ++ payload_of S.order 4 2 left)) (two (sym len) (sym kind)) in (
      it,
      drop (len_of S.order 2 left) (take (span_of S.order 2 left) left),
      drop (span_of S.order 2 left) left,
      payload_of S.order 4 2 left,
      piece_at S.order 4 2 left (omega arith) fits e,
      says,
      omega arith,
      subst (λ (x : ℕ). FitsVal S v (content_at S.order ctx left) (payload_of S.order 4 2 left) x l) (sym len) val,
      others,
    ) where
      two : {a b c d : ℕ} → a ≡ b → c ≡ d → ◌≡◌ {A = ℕ × ℕ} (a, c) (b, d)
      two p q = cc

-- a next hop begins with its length and its fields
hop_says : (o : Order) (left : List ℕ) → AreBytes left → IsWithin o 8 2 left → take (len_of o 2 left) left ≡ num (len_of o 2 left) 2 o ++ (slice_index left 2 ∷ slice_index left 3 ∷ (num (number_of o 4 (drop 4 left)) 4 o ++ payload_of o 8 2 left))
hop_says o (a ∷ b ∷ c ∷ d ∷ e ∷ f ∷ g ∷ h ∷ xs) fits w =
    let left = a ∷ b ∷ c ∷ d ∷ e ∷ f ∷ g ∷ h ∷ xs in
    let k = len_of o 2 left in
    sym (take-append-drop 8 (take k left))
    ∙ ap (λ (t : List ℕ). t ++ drop 8 (take k left)) (take-take 8 k left w.low)
    ∙ ap (λ (t : List ℕ). t ++ (c ∷ d ∷ e ∷ f ∷ g ∷ h ∷ drop 8 (take k left))) (sym (two_bytes o a b (c ∷ d ∷ e ∷ f ∷ g ∷ h ∷ xs) (fits 0) (fits 1)))
    ∙ ap (λ (t : List ℕ). num k 2 o ++ (c ∷ d ∷ (t ++ drop 8 (take k left)))) (sym (four_bytes o e f g h xs (fits 4) (fits 5) (fits 6) (fits 7)))
hop_says _ _ fits w = absurd (omega (arith, w.head))

index_fits : (o : Order) (left : List ℕ) → AreBytes left → 8 ≤ length left → number_of o 4 (drop 4 left) < 2 ^ 32
index_fits o (a ∷ b ∷ c ∷ d ∷ e ∷ f ∷ g ∷ h ∷ xs) fits w = four_fit o e f g h xs (fits 4) (fits 5) (fits 6) (fits 7)
index_fits _ _ fits w = absurd (omega arith)

hop_fits : (left : List ℕ) (l : ℕ) (S : Shape) (is : Items) (more : HopItems) → AreBytes left → broken_length S.order 8 2 left ≡ None → Fits S is (payload_of S.order 8 2 left) Route (l + 1)
    → FitsHops S more (drop (span_of S.order 2 left) left) l → FitsHops S (hop (slice_index left 2) (slice_index left 3) (ifindex_of S.order left) is more) left l
hop_fits left l S is more fits e inner others =
    let w = sound_within S.order 8 2 left e in
    let it = take (len_of S.order 2 left) left in
    let len : length it ≡ len_of S.order 2 left = omega (arith, length-take (len_of S.order 2 left) left, w.high) in
    let n = number_of S.order 4 (drop 4 left) in
    let small : n < 2 ^ 32 = index_fits S.order left fits w.head in
    let says : it ≡ num (length it) 2 S.order ++ (slice_index left 2 ∷ slice_index left 3 ∷ (num (cast_unsigned w32 (ifindex_of S.order left)) 4 S.order ++ payload_of S.order 8 2 left)) =
    hop_says S.order left fits w ∙ ap (λ (x : ℕ × ℕ). num x.0 2 S.order ++ (slice_index left 2 ∷ slice_index left 3 ∷ (num x.1 4 S.order ++ payload_of S.order 8 2 left))) (two (sym len) (sym (of_z-to_z w32 n small))) in
    (it, drop (len_of S.order 2 left) (take (span_of S.order 2 left) left), drop (span_of S.order 2 left) left, payload_of S.order 8 2 left, piece_at S.order 8 2 left (omega arith) fits e, says, sfits_to_z {w = w32} (Fits-of_lt {w = w32} small), inner, others) where
      two : {a b c d : ℕ} → a ≡ b → c ≡ d → ◌≡◌ {A = ℕ × ℕ} (a, c) (b, d)
      two p q = cc

mutual
  unfolding items_at

  pub items_sound : (n : ℕ) (S : Shape) (ctx : Ctx) (l place : ℕ) (left : List ℕ) (is : Items) (v : ℕ) → length left ≤ n → AreBytes left → items_at S n ctx l place left ≡ (Ok is, v) → Fits S is left ctx l
  items_sound zero S ctx l place left is v h fits e = subst (λ (x : Items). Fits S x left ctx l) (same_ok no_items is 0 v e) (nil_from_length left (omega arith))
  items_sound (suc n) S ctx l place [] is v h fits e = subst (λ (x : Items). Fits S x [] ctx l) (same_ok no_items is 0 v e) refl
  items_sound (suc n) S ctx l place (b ∷ bs) is v h fits e =
      let left = b ∷ bs in
      let a = look_ok place (span_of S.order 2 left) (broken_in S ctx l attr_head left) _ is v e in
      let s = or_else_none _ _ a.0 in
      let w = sound_within S.order 4 2 left s.0 in
      let c = then_ok _ _ is a.1 a.2 in
      let m = map_ok _ _ is c.2 c.4 in
      let payload = payload_of S.order 4 2 left in
      let p-le = payload_shorter S.order 4 2 n left (omega arith) h in
      let p-fits = bytes_drop 4 (take (len_of S.order 2 left) left) (bytes_take (len_of S.order 2 left) left fits) in
      let val = value_sound (content_at S.order ctx left) S l (len_of S.order 2 left) payload _ _ c.0 c.1 s.1 c.3
      (λ k x u f. items_sound n S k (l + 1) (place + 4) payload x u p-le p-fits f) (λ x u f. hops_sound n S (l + 1) (place + 4) payload x u p-le p-fits f) in
      subst (λ (x : Items). Fits S x left ctx l) m.3
      (attr_fits left ctx l S c.0 m.0 fits s.0 val (items_sound n S ctx l (place + span_of S.order 2 left) (drop (span_of S.order 2 left) left) m.0 m.1 (rest_shorter S.order 4 2 n left (omega arith) w h) (bytes_drop (span_of S.order 2 left) left fits) m.2))

  pub hops_sound : (n : ℕ) (S : Shape) (l place : ℕ) (left : List ℕ) (hs : HopItems) (v : ℕ) → length left ≤ n → AreBytes left → hops_at S n l place left ≡ (Ok hs, v) → FitsHops S hs left l
  hops_sound zero S l place left hs v h fits e = subst (λ (x : HopItems). FitsHops S x left l) (same_ok no_hops hs 0 v e) (nil_from_length left (omega arith))
  hops_sound (suc n) S l place [] hs v h fits e = subst (λ (x : HopItems). FitsHops S x [] l) (same_ok no_hops hs 0 v e) refl
  hops_sound (suc n) S l place (b ∷ bs) hs v h fits e =
      let left = b ∷ bs in
      let a = look_ok place (span_of S.order 2 left) (broken_length S.order 8 2 left) _ hs v e in
      let w = sound_within S.order 8 2 left a.0 in
      let c = then_ok _ _ hs a.1 a.2 in
      let m = map_ok _ _ hs c.2 c.4 in
      let payload = payload_of S.order 8 2 left in
      let p-le = payload_shorter S.order 8 2 n left (omega arith) h in
      let p-fits = bytes_drop 8 (take (len_of S.order 2 left) left) (bytes_take (len_of S.order 2 left) left fits) in
      subst (λ (x : HopItems). FitsHops S x left l) m.3
      (hop_fits left l S c.0 m.0 fits a.0 (items_sound n S Route (l + 1) (place + 8) payload c.0 c.1 p-le p-fits c.3)
      (hops_sound n S l (place + span_of S.order 2 left) (drop (span_of S.order 2 left) left) m.0 m.1 (rest_shorter S.order 8 2 n left (omega arith) w h) (bytes_drop (span_of S.order 2 left) left fits) m.2))
