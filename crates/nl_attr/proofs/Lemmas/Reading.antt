-- Reading step by step, whatever number bounds the items.
use Rattle.nl_attr.proofs.Common.{◌≡◌, ℕ, zero, suc, ◌+◌, ◌-◌, ◌*◌, ◌/◌, ◌%◌, ◌<◌, ◌≤◌, ◌≢◌, min, Bool, true, false, cond, ltb, ◌||◌, List, [], ◌∷◌, length, take, drop, Option, Some, None, Result, Ok, Err, refl, sym, ap, ◌∙◌, arith, length-drop, add_assoc, ltb-false, length-take, drop-take, LONGEST_CONTAINER, Fault, Reason, Cut, BadLength, TooLong, TooDeep, Ctx, Route, Content, Order, Shape, len_of, kind_of, span_of, flags_of, ifindex_of, broken_length, Val, list, hops, Items, item, HopItems, hop, attr_head, broken_container, broken_in, or_else, content_at, Outcome, and_then, map_value, more_visits, fault_visits, look_at, value_by, items_at, hops_at, items_of_region, hops_of_region, value_at, attr_at, slice_index, payload_of}
use Rattle.nl_attr.specs.declared.tree.Content.TheVariants as content

-- ---- outcomes

-- the one result of an outcome
pub one_result : {A : Type 0} {r s : Result A Fault} {v w : ℕ} → ◌≡◌ {A = Outcome A} (r, v) (s, w) → r ≡ s
one_result {A} e = ap (λ (p : Outcome A). p.0) e

pub and_then_both : {A B : Type 0} (o p : Outcome A) (f g : A → Outcome B) → o ≡ p → ((x : A) → f x ≡ g x) → and_then o f ≡ and_then p g
and_then_both (Ok x, v) p f g e h = ap (λ (r : Outcome _). (r.0, v + r.1)) (h x) ∙ ap (λ q. and_then q g) e
and_then_both (Err d, v) p f g e h = ap (λ q. and_then q g) e

pub look_same : {B : Type 0} (place span : ℕ) (r : Option Reason) (f g : Unit {0} → Outcome B) → (r ≡ None → f tt ≡ g tt) → and_then (look_at place span r) f ≡ and_then (look_at place span r) g
look_same place span None f g h = ap (λ (o : Outcome _). (o.0, span + o.1)) (h refl)
look_same place span (Some r) f g h = refl

pub value_same : (c : Content) (payload : List ℕ) (is js : Ctx → Outcome Items) (hs gs : Unit {0} → Outcome HopItems) → ((k : Ctx) → is k ≡ js k) → hs tt ≡ gs tt → value_by c payload is hs ≡ value_by c payload js gs
value_same content.Bytes payload is js hs gs h k = refl
value_same (content.List c) payload is js hs gs h k = ap (map_value list) (h c)
value_same content.Hops payload is js hs gs h k = ap (map_value hops) k

-- ---- heads

pub or_else_none : (r s : Option Reason) → or_else r s ≡ None → (r ≡ None) × (s ≡ None)
or_else_none None s e = (refl, e)
or_else_none (Some r) s e = absurd cc

-- the length of a head is there and within bounds
pub record IsWithin (o : Order) (h w : ℕ) (left : List ℕ) : Type 0 where
  pub head : h ≤ length left
  pub low : h ≤ len_of o w left
  pub high : len_of o w left ≤ length left

pub tests_within : (a b c : Bool) → cond a (Some Cut) (cond (b || c) (Some BadLength) None) ≡ None → (a ≡ false) × (b ≡ false) × (c ≡ false)
tests_within false false false e = (refl, refl, refl)
tests_within a b c e = absurd cc

pub sound_within : (o : Order) (h w : ℕ) (left : List ℕ) → broken_length o h w left ≡ None → IsWithin o h w left
sound_within o h w left e =
    let t = tests_within (ltb (length left) h) (ltb (len_of o w left) h) (ltb (length left) (len_of o w left)) e in
    record { head = ltb-false _ _ t.0; low = ltb-false _ _ t.1; high = ltb-false _ _ t.2 }

pub span_at_least : (o : Order) (w : ℕ) (left : List ℕ) → len_of o w left ≤ length left → len_of o w left ≤ span_of o w left
span_at_least o w left h = at_least (len_of o w left) (length left) h where
  at_least : (len n : ℕ) → len ≤ n → len ≤ min ((len + 3) / 4 * 4) n
  at_least len n h = omega arith

pub payload_is : (o : Order) (h w len : ℕ) (left : List ℕ) → len ≡ len_of o w left → h ≤ len → take (len - h) (drop h left) ≡ payload_of o h w left
payload_is o h w len left e le =
    let sum : h + (len - h) ≡ len_of o w left = omega arith in
    sym (drop-take h (len - h) left) ∙ ap (λ (n : ℕ). drop h (take n left)) sum

-- what is read next is shorter
pub payload_shorter : (o : Order) (h w n : ℕ) (left : List ℕ) → 1 ≤ h → length left ≤ suc n → length (payload_of o h w left) ≤ n
payload_shorter o h w n left pos le = omega (arith, length-drop h (take (len_of o w left) left), length-take (len_of o w left) left)

pub rest_shorter : (o : Order) (h w n : ℕ) (left : List ℕ) → 1 ≤ h → IsWithin o h w left → length left ≤ suc n → length (drop (span_of o w left) left) ≤ n
rest_shorter o h w n left pos i le = omega (arith, length-drop (span_of o w left) left, span_at_least o w left i.high, i.low, i.high)

-- ---- the number does not matter

mutual
  unfolding items_at

  pub items_enough : (n m : ℕ) (S : Shape) (ctx : Ctx) (l place : ℕ) (left : List ℕ) → length left ≤ n → length left ≤ m → items_at S n ctx l place left ≡ items_at S m ctx l place left
  items_enough zero (suc m) S ctx l place (b ∷ bs) h k = absurd (omega arith)
  items_enough (suc n) zero S ctx l place (b ∷ bs) h k = absurd (omega arith)
  items_enough (suc n) (suc m) S ctx l place (b ∷ bs) h k =
      let left = b ∷ bs in
      look_same place (span_of S.order 2 left) (broken_in S ctx l attr_head left) _ _ (λ sound.
      let w = sound_within S.order 4 2 left (or_else_none _ _ sound).0 in
      let pn = payload_shorter S.order 4 2 n left (omega arith) h in
      let pm = payload_shorter S.order 4 2 m left (omega arith) k in
      and_then_both _ _ _ _
      (value_same (content_at S.order ctx left) (payload_of S.order 4 2 left) _ _ _ _ (λ c. items_enough n m S c (l + 1) (place + 4) (payload_of S.order 4 2 left) pn pm) (hops_enough n m S (l + 1) (place + 4) (payload_of S.order 4 2 left) pn pm))
      (λ v. ap (map_value (item (kind_of S.order left % 16384) (flags_of (kind_of S.order left)) v)) (items_enough n m S ctx l (place + span_of S.order 2 left) (drop (span_of S.order 2 left) left) (rest_shorter S.order 4 2 n left (omega arith) w h) (rest_shorter S.order 4 2 m left (omega arith) w k))))
  items_enough n m S ctx l place left h k = refl

  pub hops_enough : (n m : ℕ) (S : Shape) (l place : ℕ) (left : List ℕ) → length left ≤ n → length left ≤ m → hops_at S n l place left ≡ hops_at S m l place left
  hops_enough zero (suc m) S l place (b ∷ bs) h k = absurd (omega arith)
  hops_enough (suc n) zero S l place (b ∷ bs) h k = absurd (omega arith)
  hops_enough (suc n) (suc m) S l place (b ∷ bs) h k =
      let left = b ∷ bs in
      look_same place (span_of S.order 2 left) (broken_length S.order 8 2 left) _ _ (λ sound.
      let w = sound_within S.order 8 2 left sound in
      and_then_both _ _ _ _
      (items_enough n m S Route (l + 1) (place + 8) (payload_of S.order 8 2 left) (payload_shorter S.order 8 2 n left (omega arith) h) (payload_shorter S.order 8 2 m left (omega arith) k))
      (λ is. ap (map_value (hop (slice_index left 2) (slice_index left 3) (ifindex_of S.order left) is)) (hops_enough n m S l (place + span_of S.order 2 left) (drop (span_of S.order 2 left) left) (rest_shorter S.order 8 2 n left (omega arith) w h) (rest_shorter S.order 8 2 m left (omega arith) w k))))
  hops_enough n m S l place left h k = refl

-- ---- one item after the other

-- the length of an item's payload
pub payload_length : (o : Order) (h w : ℕ) (left : List ℕ) → IsWithin o h w left → length (payload_of o h w left) + h ≡ len_of o w left
payload_length o h w left i = omega (arith, i.low, i.high, i.head, length-drop h (take (len_of o w left) left), length-take (len_of o w left) left)

-- what the container breaks comes after what its length breaks
look_at_container : {B : Type 0} (place span : ℕ) (r : Option Reason) (s : Option Reason) (f : Unit {0} → Outcome B) → r ≡ None → ((t : Reason) (n : ℕ) → s ≡ Some t → fault_visits t n ≡ n) →
    and_then (look_at place span (or_else r s)) f ≡ more_visits span (and_then (look_at place 0 s) f)
look_at_container place span None None f e h = ap (λ (n : ℕ). ((f tt).0, n)) (omega arith)
look_at_container place span None (Some t) f e h =
    let one : fault_visits t span ≡ span + fault_visits t 0 = omega (arith, h t span refl, h t 0 refl) in
    ap (λ (n : ℕ). (Err (record { place = place; reason = t }), n)) one
look_at_container place span (Some r) s f e h = absurd cc

tests_count : (a b : Bool) (t : Reason) (n : ℕ) → cond a (Some TooLong) (cond b (Some TooDeep) None) ≡ Some t → fault_visits t n ≡ n
tests_count true b t n e = ap (λ (r : Option Reason). elim r [ None ↦ n | Some s ↦ fault_visits s n ]) (sym e)
tests_count false true t n e = ap (λ (r : Option Reason). elim r [ None ↦ n | Some s ↦ fault_visits s n ]) (sym e)
tests_count false false t n e = absurd cc

pub container_counts : (S : Shape) (l : ℕ) (c : Content) (len : ℕ) (t : Reason) (n : ℕ) → broken_container S l c len ≡ Some t → fault_visits t n ≡ n
container_counts S l content.Bytes len t n e = absurd cc
container_counts S l (content.List c) len t n e = tests_count (ltb LONGEST_CONTAINER len) (ltb S.depth (l + 1)) t n e
container_counts S l content.Hops len t n e = tests_count (ltb LONGEST_CONTAINER len) (ltb S.depth (l + 2)) t n e

pub more_then : {A B : Type 0} (v : ℕ) (o : Outcome A) (g : A → Outcome B) → and_then (more_visits v o) g ≡ more_visits v (and_then o g)
more_then v (Ok y, u) g = ap (λ (n : ℕ). ((g y).0, n)) (add_assoc v u (g y).1)
more_then v (Err d, u) g = refl

pub then_then : {A B C : Type 0} (o : Outcome A) (f : A → Outcome B) (g : B → Outcome C) → and_then (and_then o f) g ≡ and_then o (λ x. and_then (f x) g)
then_then (Ok x, v) f g = more_then v (f x) g
then_then (Err d, v) f g = refl

pub map_then : {A B C : Type 0} (h : A → B) (o : Outcome A) (g : B → Outcome C) → and_then (map_value h o) g ≡ and_then o (λ x. g (h x))
map_then h (Ok x, v) g = refl
map_then h (Err d, v) g = refl

items_open : (n : ℕ) (S : Shape) (ctx : Ctx) (l place : ℕ) (left : List ℕ) → 0 < length left → items_at S (suc n) ctx l place left
    ≡ and_then (look_at place (span_of S.order 2 left) (broken_in S ctx l attr_head left)) (λ _.
    and_then (value_by (content_at S.order ctx left) (payload_of S.order 4 2 left) (λ c. items_at S n c (l + 1) (place + 4) (payload_of S.order 4 2 left)) (λ _. hops_at S n (l + 1) (place + 4) (payload_of S.order 4 2 left))) (λ v.
    map_value (item (kind_of S.order left % 16384) (flags_of (kind_of S.order left)) v) (items_at S n ctx l (place + span_of S.order 2 left) (drop (span_of S.order 2 left) left))))
unfolding items_at
items_open n S ctx l place [] h = absurd (omega arith)
items_open n S ctx l place (b ∷ bs) h = refl

-- the item at the front, and then the others
pub items_step : (S : Shape) (ctx : Ctx) (l place : ℕ) (left : List ℕ) → broken_length S.order 4 2 left ≡ None →
    items_of_region S ctx l place left
    ≡ more_visits (span_of S.order 2 left) (and_then (attr_at S ctx l place (kind_of S.order left % 16384) (flags_of (kind_of S.order left)) (payload_of S.order 4 2 left))
    (λ f. map_value f (items_of_region S ctx l (place + span_of S.order 2 left) (drop (span_of S.order 2 left) left))))
items_step S ctx l place left e =
    let w = sound_within S.order 4 2 left e in
    let n = length left in
    let c = content_at S.order ctx left in
    let payload = payload_of S.order 4 2 left in
    let rest = items_of_region S ctx l (place + span_of S.order 2 left) (drop (span_of S.order 2 left) left) in
    let make : Val → Items → Items = λ v more. item (kind_of S.order left % 16384) (flags_of (kind_of S.order left)) v more in
    let len-is : len_of S.order 2 left ≡ length payload + 4 = sym (payload_length S.order 4 2 left w) in
    let p-le : length payload ≤ n = payload_shorter S.order 4 2 n left (omega arith) (omega arith) in
    let r-le : length (drop (span_of S.order 2 left) left) ≤ n = rest_shorter S.order 4 2 n left (omega arith) w (omega arith) in
    items_enough n (suc n) S ctx l place left (omega arith) (omega arith)
    ∙ items_open n S ctx l place left (omega (arith, w.head))
    ∙ look_at_container place (span_of S.order 2 left) (broken_length S.order 4 2 left) (broken_container S l c (len_of S.order 2 left)) _ e (λ t m. container_counts S l c (len_of S.order 2 left) t m)
    ∙ ap (λ (k : ℕ). more_visits (span_of S.order 2 left) (and_then (look_at place 0 (broken_container S l c k)) (λ _.
    and_then (value_by c payload (λ k. items_at S n k (l + 1) (place + 4) payload) (λ _. hops_at S n (l + 1) (place + 4) payload)) (λ v.
    map_value (make v) (items_at S n ctx l (place + span_of S.order 2 left) (drop (span_of S.order 2 left) left)))))) len-is
    ∙ ap (more_visits (span_of S.order 2 left))
    (and_then_both (look_at place 0 (broken_container S l c (length payload + 4))) _ _ _ refl (λ u.
    and_then_both _ _ _ _
    (value_same c payload _ _ _ _ (λ k. items_enough n (length payload) S k (l + 1) (place + 4) payload p-le (omega arith)) (hops_enough n (length payload) S (l + 1) (place + 4) payload p-le (omega arith)))
    (λ v. ap (map_value (make v)) (items_enough n (length (drop (span_of S.order 2 left) left)) S ctx l (place + span_of S.order 2 left) (drop (span_of S.order 2 left) left) r-le (omega arith)))
    ∙ sym (map_then make (value_at S c l (place + 4) payload) (λ f. map_value f rest)))
    ∙ sym (then_then (look_at place 0 (broken_container S l c (length payload + 4))) (λ _. map_value make (value_at S c l (place + 4) payload)) (λ f. map_value f rest)))

length_counts : (o : Order) (h w : ℕ) (left : List ℕ) (t : Reason) (n : ℕ) → broken_length o h w left ≡ Some t → fault_visits t n ≡ 0
length_counts o h w left t n e = count (ltb (length left) h) (ltb (len_of o w left) h || ltb (length left) (len_of o w left)) e where
  count : (a b : Bool) → cond a (Some Cut) (cond b (Some BadLength) None) ≡ Some t → fault_visits t n ≡ 0
  count true b e = ap (λ (r : Option Reason). elim r [ None ↦ 0 | Some s ↦ fault_visits s n ]) (sym e)
  count false true e = ap (λ (r : Option Reason). elim r [ None ↦ 0 | Some s ↦ fault_visits s n ]) (sym e)
  count false false e = absurd cc

-- a head whose length is wrong
pub items_cut : (S : Shape) (ctx : Ctx) (l place : ℕ) (left : List ℕ) (t : Reason) → left ≢ [] → broken_length S.order 4 2 left ≡ Some t → items_of_region S ctx l place left ≡ (Err (record { place = place; reason = t }), 0)
items_cut S ctx l place [] t full e = absurd (full refl)
items_cut S ctx l place (b ∷ bs) t full e =
    items_open (length bs) S ctx l place (b ∷ bs) (omega arith)
    ∙ rw e (ap (λ (k : ℕ). (Err (record { place = place; reason = t }), k)) (length_counts S.order 4 2 (b ∷ bs) t (span_of S.order 2 (b ∷ bs)) e))

hops_open : (n : ℕ) (S : Shape) (l place : ℕ) (left : List ℕ) → 0 < length left → hops_at S (suc n) l place left
    ≡ and_then (look_at place (span_of S.order 2 left) (broken_length S.order 8 2 left)) (λ _.
    and_then (items_at S n Route (l + 1) (place + 8) (payload_of S.order 8 2 left)) (λ is.
    map_value (hop (slice_index left 2) (slice_index left 3) (ifindex_of S.order left) is) (hops_at S n l (place + span_of S.order 2 left) (drop (span_of S.order 2 left) left))))
unfolding items_at
hops_open n S l place [] h = absurd (omega arith)
hops_open n S l place (b ∷ bs) h = refl

pub hops_step : (S : Shape) (l place : ℕ) (left : List ℕ) → broken_length S.order 8 2 left ≡ None →
    hops_of_region S l place left
    ≡ more_visits (span_of S.order 2 left) (and_then (items_of_region S Route (l + 1) (place + 8) (payload_of S.order 8 2 left))
    (λ is. map_value (hop (slice_index left 2) (slice_index left 3) (ifindex_of S.order left) is) (hops_of_region S l (place + span_of S.order 2 left) (drop (span_of S.order 2 left) left))))
hops_step S l place left e =
    let w = sound_within S.order 8 2 left e in
    let n = length left in
    let payload = payload_of S.order 8 2 left in
    hops_enough n (suc n) S l place left (omega arith) (omega arith)
    ∙ hops_open n S l place left (omega (arith, w.head))
    ∙ rw e (ap (more_visits (span_of S.order 2 left)) (and_then_both _ _ _ _ (items_enough n (length payload) S Route (l + 1) (place + 8) payload (payload_shorter S.order 8 2 n left (omega arith) (omega arith)) (omega arith))
    (λ is. ap (map_value (hop (slice_index left 2) (slice_index left 3) (ifindex_of S.order left) is)) (hops_enough n (length (drop (span_of S.order 2 left) left)) S l (place + span_of S.order 2 left) (drop (span_of S.order 2 left) left) (rest_shorter S.order 8 2 n left (omega arith) w (omega arith)) (omega arith)))))

pub hops_cut : (S : Shape) (l place : ℕ) (left : List ℕ) (t : Reason) → left ≢ [] → broken_length S.order 8 2 left ≡ Some t → hops_of_region S l place left ≡ (Err (record { place = place; reason = t }), 0)
hops_cut S l place [] t full e = absurd (full refl)
hops_cut S l place (b ∷ bs) t full e =
    hops_open (length bs) S l place (b ∷ bs) (omega arith)
    ∙ rw e (ap (λ (k : ℕ). (Err (record { place = place; reason = t }), k)) (length_counts S.order 8 2 (b ∷ bs) t (span_of S.order 2 (b ∷ bs)) e))
