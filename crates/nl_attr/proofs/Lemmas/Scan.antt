-- The heads of attributes and of next hops: where those behind and inside an item stand.
use Rattle.nl_attr.proofs.Common.{◌≡◌, ℕ, ◌+◌, ◌-◌, ◌*◌, ◌/◌, ◌≤◌, min, Bool, true, false, cond, ltb, List, length, Option, Some, None, refl, ap, subst, ◌∙◌, arith, length-drop, ltb-false, mul-le-mul_left, LONGEST_CONTAINER, TooLong, TooDeep, Content, Ctx, Order, Shape, len_of, span_of, broken_length, payload_of, Sort, attr_head, hop_head, Head, MayStand, least, content_at, broken, broken_in, broken_container, IsSound, span_at, follower, inner_in, inner_at, inner_of, heads}
use Rattle.nl_attr.specs.declared.tree.Content.TheVariants as content
use Rattle.nl_attr.proofs.Lemmas.Grammars.{IsLawful, Costs}
use Rattle.nl_attr.proofs.Lemmas.Reading.{or_else_none, sound_within, span_at_least, payload_length}

pub span_within : (o : Order) (w : ℕ) (left : List ℕ) → span_of o w left ≤ length left
span_within o w left = below (len_of o w left) (length left) where
  below : (len n : ℕ) → min ((len + 3) / 4 * 4) n ≤ n
  below len n = omega arith

pub least_some : (s : Sort) → 4 ≤ least s
least_some attr_head = omega arith
least_some hop_head = omega arith

pub tests_none : (a b : Bool) → cond a (Some TooLong) (cond b (Some TooDeep) None) ≡ None → b ≡ false
tests_none true b e = absurd cc
tests_none false true e = absurd cc
tests_none false false e = refl

-- how many levels may be opened in it, its own with them
abbrev pub room : ℕ → Sort → ℕ → ℕ
room d attr_head l = d - l + 1
room d hop_head l = d - (l + 1) + 2

module _ (S : Shape) where
  -- the first head inside the item of a head of this sort at a place
  pub record IsInner (s : Sort) (place l : ℕ) (left : List ℕ) (k : Head) : Type 0 where
    pub place_is : k.place ≡ place + least s
    pub left_is : k.left ≡ payload_of S.order (least s) 2 left
    pub level : k.level ≡ l + 1
    pub room_in : room S.depth k.sort k.level + 1 ≤ room S.depth s l
    pub low : MayStand S.depth s l → MayStand S.depth k.sort k.level × (l + 1 ≤ S.depth)

  some_head : (j k : Head) → ◌≡◌ {A = Option Head} (Some j) (Some k) → j ≡ k
  some_head j k e = cc

  in_attr : (c : Content) (place l len : ℕ) (left payload : List ℕ) (k : Head) → broken_container S l c len ≡ None → inner_in c (place + 4) (l + 1) payload ≡ Some k → payload ≡ payload_of S.order 4 2 left → IsInner attr_head place l left k
  in_attr content.Bytes place l len left payload k e is p = absurd cc
  in_attr (content.List c) place l len left payload k e is p =
      let up = ltb-false _ _ (tests_none (ltb LONGEST_CONTAINER len) (ltb S.depth (l + 1)) e) in
      subst (IsInner attr_head place l left) (some_head _ k is) (record { place_is = refl; left_is = p; level = refl; room_in = omega (arith, up); low = λ low. (up, up) })
  in_attr content.Hops place l len left payload k e is p =
      let up = ltb-false _ _ (tests_none (ltb LONGEST_CONTAINER len) (ltb S.depth (l + 2)) e) in
      subst (IsInner attr_head place l left) (some_head _ k is) (record { place_is = refl; left_is = p; level = refl; room_in = omega (arith, up); low = λ low. (omega (arith, up), omega (arith, up)) })

  inner_of_sort : (s : Sort) (c : Ctx) (place l : ℕ) (left : List ℕ) (k : Head) → broken_in S c l s left ≡ None → inner_at S s place c l left ≡ Some k → IsInner s place l left k
  inner_of_sort attr_head c place l left k e is = in_attr (content_at S.order c left) place l (len_of S.order 2 left) left (payload_of S.order 4 2 left) k (or_else_none _ _ e).1 is refl
  inner_of_sort hop_head c place l left k e is = subst (IsInner hop_head place l left) (some_head _ k is) (record { place_is = refl; left_is = refl; level = refl; room_in = omega arith; low = λ low. (low, low) })

  sound_of_sort : (s : Sort) (c : Ctx) (l : ℕ) (left : List ℕ) → broken_in S c l s left ≡ None → broken_length S.order (least s) 2 left ≡ None
  sound_of_sort hop_head c l left e = e
  sound_of_sort attr_head c l left e = (or_else_none _ _ e).0

  pub sound_of : (h : Head) → broken S h ≡ None → IsSound S h
  sound_of h e = sound_of_sort h.sort h.ctx h.level h.left e

  pub inner_is : (h k : Head) → broken S h ≡ None → inner_of S h ≡ Some k → IsInner h.sort h.place h.level h.left k
  inner_is h k e is = inner_of_sort h.sort h.ctx h.place h.level h.left k e is

  -- an item occupies its length at least, and what is left behind it is the rest
  pub record Fills (h : Head) : Type 0 where
    pub low : least h.sort ≤ len_of S.order 2 h.left
    pub high : len_of S.order 2 h.left ≤ span_at S h
    pub rest : span_at S h + length (follower S h).left ≡ length h.left
    pub payload : length (payload_of S.order (least h.sort) 2 h.left) + least h.sort ≡ len_of S.order 2 h.left
    pub some : 4 ≤ least h.sort

  pub fills : (h : Head) → IsSound S h → Fills h
  fills h e =
      let w = sound_within S.order (least h.sort) 2 h.left e in
      record {
        low = w.low;
        high = span_at_least S.order 2 h.left w.high;
        rest = omega (arith, length-drop (span_at S h) h.left, span_within S.order 2 h.left);
        payload = payload_length S.order (least h.sort) 2 h.left w;
        some = least_some h.sort;
      }

  -- what is inside an item has its bytes behind the head, and within the item
  pub inner_fills : (h k : Head) → broken S h ≡ None → inner_of S h ≡ Some k → (k.place ≡ h.place + least h.sort) × (length k.left + least h.sort ≡ len_of S.order 2 h.left)
  inner_fills h k e is = let i = inner_is h k e is in (i.place_is, ap (λ (xs : List ℕ). length xs + least h.sort) i.left_is ∙ (fills h (sound_of h e)).payload)

  pub laws : IsLawful (heads S)
  unfolding heads
  laws = record {
    counts = sound_of;
    leads = λ h e. e;
    behind = λ h e. let f = fills h e in (omega (arith, f.some, f.low, f.high), omega (arith, f.rest));
    within = λ h k e is. let f = fills h (sound_of h e) in let i = inner_fills h k e is in (omega (arith, i.0, f.some), omega (arith, i.0, i.1, f.high));
  }

  -- each byte is visited once for each level at most
  spread : (k s m n : ℕ) → 1 ≤ k → s + m ≡ n → s + k * m ≤ k * n
  spread k s m n some e = subst (λ (x : ℕ). s + k * m ≤ k * x) e (omega (arith, mul-le-mul_left s some))

  nested : (k j s p m n : ℕ) → k + 1 ≤ j → p ≤ s → s + m ≡ n → s + (k * p + j * m) ≤ j * n
  nested k j s p m n up le e = subst (λ (x : ℕ). s + (k * p + j * m) ≤ j * x) e (omega (arith, mul-le-mul_left k le, mul-le-mul_left s up))

  alone_in : (s : Sort) (l a m n : ℕ) → a + m ≡ n → a + room S.depth s l * m ≤ room S.depth s l * n
  alone_in attr_head l a m n e = spread (S.depth - l + 1) a m n (omega arith) e
  alone_in hop_head l a m n e = spread (S.depth - (l + 1) + 2) a m n (omega arith) e

  pub visits_cost : Costs (heads S) (heads S).visited (λ h. room S.depth h.sort h.level)
  unfolding heads
  visits_cost = record {
    alone = λ h e. alone_in h.sort h.level (span_at S h) (length (follower S h).left) (length h.left) (fills h e).rest;
    holding = λ h k e is.
        let f = fills h (sound_of h e) in
        let i = inner_fills h k e is in
        nested (room S.depth k.sort k.level) (room S.depth h.sort h.level) (span_at S h) (length k.left) (length (follower S h).left) (length h.left) (inner_is h k e is).room_in (omega (arith, i.1, f.high)) f.rest;
  }

  -- each head has four bytes of its own at least
  pub few_cost : Costs (heads S) (λ h. 4) (λ h. 1)
  unfolding heads
  few_cost = record {
    alone = λ h e. let f = fills h e in omega (arith, f.some, f.low, f.high, f.rest);
    holding = λ h k e is. let f = fills h (sound_of h e) in omega (arith, f.some, f.high, f.rest, (inner_fills h k e is).1);
  }
