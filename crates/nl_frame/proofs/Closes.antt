-- What a builder holds where the innermost head is closed.
use Rattle.nl_frame.proofs.Common.{◌≡◌, ◌≢◌, ℕ, ℤ, suc, ◌+◌, ◌-◌, ◌%◌, ◌≤◌, List, [], ◌∷◌, ◌++◌, length, take, drop, replicate, None, refl, sym, ap, subst, ◌∙◌, arith, inl, inr, append_assoc, append-nil, length-append, FitsSigned, w32, cast_unsigned, splice, take_at, drop_at, LONGEST_ITEM, LONGEST_CONTAINER, Order, Route, Content, aligned, num, Val, bytes, list, hops, Items, with_padding, val_len, items_whole, hops_whole, AttrFlags, kind_number, holds_of, length-num, length-attr, length-hop, length-val, length-items, Bounds, OpenHead, MessageVal, Built, order_of, levels_in, ended, head_ended, length_from, attr_begun, hop_begun, or_next, close_refusal, Layer, Draft, attribute, content_at, content_in, begun_bytes, laid, heads_of, layers_and_item, val_and_item, val_and_hop, layers_and_hop, layers_and, layers_closed, message, next_hop, Begun, IsDeepIn, HasLongIn, Holds}
use Rattle.nl_attr.specs.declared.tree.Content.TheVariants as content
use Rattle.nl_attr.specs.Proper.{IsMismatchedVal, IsMismatched, IsDeepVal, IsDeep, HasLongVal, HasLong, IsRangedVal, IsRanged}
use Rattle.nl_attr.specs.Written.{attr_item, hop_item, written_val, written, items_len}
use Rattle.nl_frame.specs.Draft as draft
use Rattle.nl_frame.proofs.Puts.{IsItem, layer_and_item, laid_more, val_written, neither}
use Rattle.nl_frame.proofs.Snocs.{hop_written, hop_matched, hop_shallow, hop_short, hop_ranged}

-- ---- a length is set

-- what is written over the front of what is behind some bytes
pub over_head : (before old rest field : List ℕ) (s t : ℕ) → s ≡ length before → length old ≡ length field → t ≡ s + length field
    → splice (before ++ (old ++ rest)) s t field ≡ before ++ (field ++ rest)
over_head before old rest field s t e g h =
    let len : t ≡ length (before ++ old) = omega (arith, length-append before old, e, g, h) in
    let front : take s (before ++ (old ++ rest)) ≡ before = take_at before (old ++ rest) s (sym e) in
    let back : drop t (before ++ (old ++ rest)) ≡ rest = ap (drop t) (sym (append_assoc before old rest)) ∙ drop_at (before ++ old) rest t (sym len) in
    rw (front, back) refl

-- an item of whole words needs no padding
pub no_padding : (it : List ℕ) → length it % 4 ≡ 0 → with_padding it ≡ it
no_padding it e =
    let none : aligned (length it) - length it ≡ 0 = omega (arith, e) in
    ap (λ k. it ++ replicate k 0) none ∙ append-nil it

-- ---- what was put into a region

val_whole : (v : Val) (k : Content) → (IsMismatchedVal v k → ⊥) → k ≢ content.Bytes → val_len v % 4 ≡ 0
val_whole (bytes bs) content.Bytes m n = absurd (n refl)
val_whole (list is) (content.List c) m n = items_whole is
val_whole (hops hs) content.Hops m n = hops_whole hs
val_whole v k m n = absurd (m tt)

val_shallow : (v : Val) (k : Content) (l D : ℕ) → (IsMismatchedVal v k → ⊥) → l + 1 + levels_in k ≤ D → (IsDeepIn v (l + 1) D → ⊥) → IsDeepVal v l D → ⊥
val_shallow (bytes bs) content.Bytes l D m h s x = x
val_shallow (list is) (content.List c) l D m h s (inl x) = omega (arith, h, x)
val_shallow (list is) (content.List c) l D m h s (inr x) = s x
val_shallow (hops hs) content.Hops l D m h s (inl x) = omega (arith, h, x)
val_shallow (hops hs) content.Hops l D m h s (inr x) = s x
val_shallow v k l D m h s x = absurd (m tt)

val_short : (v : Val) → val_len v ≤ LONGEST_ITEM → (HasLongIn v → ⊥) → HasLongVal v → ⊥
val_short (bytes bs) h s x = x
val_short (list is) h s (inl x) = omega (arith, h, x)
val_short (list is) h s (inr x) = s x
val_short (hops hs) h s (inl x) = omega (arith, h, x)
val_short (hops hs) h s (inr x) = s x

-- ---- the innermost of some heads is closed

-- what stands behind the heads around it, and is so much, begins with w bytes for its length; then that is set
module _ (b : Built) (ms : List MessageVal) (x : Layer) (xs : List Layer) (w : ℕ) (rest : List ℕ) where
  set_front : b.front ≡ laid (order_of b) ms (x ∷ xs) → begun_bytes (order_of b) x.head ++ written_val (order_of b) x.inside ≡ num 0 w (order_of b) ++ rest
      → splice b.front (length (laid (order_of b) ms xs)) (length (laid (order_of b) ms xs) + length (num (length b.front - length (laid (order_of b) ms xs)) w (order_of b))) (num (length b.front - length (laid (order_of b) ms xs)) w (order_of b))
      ≡ laid (order_of b) ms xs ++ (num (w + length rest) w (order_of b) ++ rest)
  set_front e g =
      let o = order_of b in
      let before = laid o ms xs in
      let s = length before in
      let all : b.front ≡ before ++ (num 0 w o ++ rest) = e ∙ ap (λ (ys : List ℕ). before ++ ys) g in
      let len : length b.front ≡ s + (w + length rest) = ap (length {A = ℕ}) all ∙ length-append before (num 0 w o ++ rest) ∙ ap (λ k. s + k) (length-append (num 0 w o) rest ∙ ap (λ k. k + length rest) (length-num o 0 w)) in
      let size : length b.front - s ≡ w + length rest = omega (arith, len) in
      let field = num (length b.front - s) w o in
      ap (λ (ys : List ℕ). splice ys s (s + length field) field) all
      ∙ over_head before (num 0 w o) rest field s (s + length field) refl (length-num o 0 w ∙ sym (length-num o (length b.front - s) w)) refl
      ∙ ap (λ k. before ++ (num k w o ++ rest)) size

  -- the head is no longer open
  pub closed_is : b.heads ≡ heads_of (order_of b) ms (x ∷ xs) → b.front ≡ laid (order_of b) ms (x ∷ xs) → begun_bytes (order_of b) x.head ++ written_val (order_of b) x.inside ≡ num 0 w (order_of b) ++ rest
      → ended b w ≡ record b { front = laid (order_of b) ms xs ++ (num (w + length rest) w (order_of b) ++ rest); heads = heads_of (order_of b) ms xs }
  closed_is h e g =
      ap (λ (hs : List OpenHead). head_ended b hs (num (length_from b hs) w (order_of b))) h
      ∙ ap (λ (ys : List ℕ). record b { front = ys; heads = heads_of (order_of b) ms xs }) (set_front e g)

-- ---- an attribute is closed

module _ {L : Bounds} (b : Built) (ms : List MessageVal) (n : ℕ) (f : AttrFlags) (v : Val) (y : Layer) (zs : List Layer) where
  close_attr : Holds L b (record { ended = ms; layers = record { head = attribute n f; inside = v } ∷ y ∷ zs }) → length_from b b.heads ≤ LONGEST_CONTAINER
      → Holds L (ended b 2) (record { ended = ms; layers = layers_and_item (y ∷ zs) n f v })
  close_attr h short =
      let o = order_of b in
      let D = b.bounds.shape.depth in
      let x : Layer = record { head = attribute n f; inside = v } in
      let xs = y ∷ zs in
      let before = laid o ms xs in
      let body = written_val o v in
      let kind = num (kind_number n f) 2 o in
      let l = h.layers.0 in
      let ctx = l.head.1 in
      let held = holds_of ctx n f in
      let at : content_at (x ∷ xs) ≡ held = ap (λ (k : Content). content_in k n f) l.head.2 in
      let matched : IsMismatchedVal v held → ⊥ = subst (λ (k : Content). IsMismatchedVal v k → ⊥) at l.matched in
      let parts = append_assoc (num 0 2 o) kind body in
      let is = closed_is b ms x xs 2 (kind ++ body) h.heads h.front parts in
      let rest : length (kind ++ body) ≡ 2 + val_len v = length-append kind body ∙ sum (length-num o (kind_number n f) 2) (length-val o v) in
      let four : 2 + length (kind ++ body) ≡ 4 + length body = omega (arith, rest, length-val o v) in
      let all : length b.front ≡ length before + (4 + val_len v) = ap (length {A = ℕ}) h.front ∙ length-append before (attr_begun o n f ++ body) ∙ ap (λ k. length before + k) (ap (length {A = ℕ}) parts ∙ length-append (num 0 2 o) (kind ++ body) ∙ sum_two (length-num o 0 2) rest) in
      let from : length_from b b.heads ≡ length b.front - length before = ap (length_from b) h.heads in
      let size : 4 + val_len v ≤ LONGEST_ITEM = omega (arith, from, all, short) in
      let size_of_item : length (attr_item o n f body) ≡ 4 + val_len v = length-attr o n f body ∙ ap (λ k. 4 + k) (length-val o v) in
      let whole = no_padding (attr_item o n f body) (omega (arith, size_of_item, val_whole v held matched l.head.3)) in
      let item = ap (λ k. num k 2 o ++ (kind ++ body)) four ∙ sym whole in
      let room : length zs + 1 + levels_in held ≤ D = omega (arith, l.head.4) in
      let deeper : length xs ≡ length zs + 1 = omega arith in
      let m = h.layers.1.0 in
      let below : val_len v ≤ LONGEST_ITEM = omega (arith, size) in
      let i : IsItem D (length zs) ctx n f v = record {
        number = l.head.0;
        matched = matched;
        shallow = val_shallow v held (length zs) D matched room (subst (λ (k : ℕ). IsDeepIn v k D → ⊥) deeper l.shallow);
        size = size;
        short = val_short v below l.short;
        ranged = l.ranged;
      } in
      let attrs = subst (λ (k : Content). IsMismatchedVal y.inside k → ⊥) l.head.2 m.matched in
      let new = num (2 + length (kind ++ body)) 2 o ++ (kind ++ body) in
      subst (λ (z : Built). Holds L z (record { ended = ms; layers = layers_and_item (y ∷ zs) n f v })) (sym is) (record {
        bounds = h.bounds;
        front = ap (λ (ys : List ℕ). before ++ ys) item ∙ sym (laid_more o ms y zs (val_and_item y.inside n f v) (with_padding (attr_item o n f body)) (val_written n f v o y.inside ctx attrs));
        heads = refl;
        layers = (layer_and_item D y zs ctx n f v m l.head.2 i, h.layers.1.1);
        matched = h.matched;
        shallow = h.shallow;
        short = h.short;
        ranged = h.ranged;
        limits = h.limits;
        size = omega (arith, h.size, all, rest, length-append before new, length-append (num (2 + length (kind ++ body)) 2 o) (kind ++ body), length-num o (2 + length (kind ++ body)) 2);
      })
    where
      sum : {a c : ℕ} → a ≡ 2 → c ≡ val_len v → a + c ≡ 2 + val_len v
      sum p q = omega (arith, p, q)

      sum_two : {a c : ℕ} → a ≡ 2 → c ≡ 2 + val_len v → a + c ≡ 4 + val_len v
      sum_two p q = omega (arith, p, q)

-- ---- a next hop is closed

-- next hops with one more behind them
module _ (f c : ℕ) (i : ℤ) (is : Items) where
  hops_written : (o : Order) (w : Val) → (IsMismatchedVal w content.Hops → ⊥) → written_val o (val_and_hop w f c i is) ≡ written_val o w ++ with_padding (hop_item o f c i (written o is))
  hops_written o (hops hs) m = hop_written f c i is o hs
  hops_written o (bytes bs) m = absurd (m tt)
  hops_written o (list js) m = absurd (m tt)

  hops_matched : (w : Val) → (IsMismatchedVal w content.Hops → ⊥) → (IsMismatched is Route → ⊥) → IsMismatchedVal (val_and_hop w f c i is) content.Hops → ⊥
  hops_matched (hops hs) m a = hop_matched f c i is hs m a
  hops_matched (bytes bs) m a = absurd (m tt)
  hops_matched (list js) m a = absurd (m tt)

  hops_shallow : (w : Val) (l D : ℕ) → (IsDeepIn w l D → ⊥) → (IsDeep is (l + 1) D → ⊥) → IsDeepIn (val_and_hop w f c i is) l D → ⊥
  hops_shallow (hops hs) l D s a = hop_shallow f c i is hs l D s a
  hops_shallow (bytes bs) l D s a = s
  hops_shallow (list js) l D s a = s

  hops_short : (w : Val) → (HasLongIn w → ⊥) → 8 + items_len is ≤ LONGEST_ITEM → (HasLong is → ⊥) → HasLongIn (val_and_hop w f c i is) → ⊥
  hops_short (hops hs) s a b = hop_short f c i is hs s (λ z. omega (arith, z, a)) (λ z. omega (arith, z, a)) b
  hops_short (bytes bs) s a b = s
  hops_short (list js) s a b = s

  hops_ranged : (w : Val) → IsRangedVal w → FitsSigned w32 i → IsRanged is → IsRangedVal (val_and_hop w f c i is)
  hops_ranged (hops hs) r a b = hop_ranged f c i is hs r a b
  hops_ranged (bytes bs) r a b = r
  hops_ranged (list js) r a b = r

module _ {L : Bounds} (b : Built) (ms : List MessageVal) (f c : ℕ) (i : ℤ) (is : Items) (y : Layer) (zs : List Layer) where
  close_hop : Holds L b (record { ended = ms; layers = record { head = next_hop f c i; inside = list is } ∷ y ∷ zs }) → length_from b b.heads ≤ LONGEST_CONTAINER
      → Holds L (ended b 2) (record { ended = ms; layers = layers_and_hop (y ∷ zs) f c i is })
  close_hop h short =
      let o = order_of b in
      let D = b.bounds.shape.depth in
      let x : Layer = record { head = next_hop f c i; inside = list is } in
      let xs = y ∷ zs in
      let before = laid o ms xs in
      let body = written o is in
      let kind = f ∷ c ∷ num (cast_unsigned w32 i) 4 o in
      let l = h.layers.0 in
      let m = h.layers.1.0 in
      let parts = append_assoc (num 0 2 o) kind body in
      let closed = closed_is b ms x xs 2 (kind ++ body) h.heads h.front parts in
      let rest : length (kind ++ body) ≡ 6 + items_len is = length-append kind body ∙ six (length-num o (cast_unsigned w32 i) 4) (length-items o is) in
      let eight : 2 + length (kind ++ body) ≡ 8 + length body = omega (arith, rest, length-items o is) in
      let all : length b.front ≡ length before + (8 + items_len is) = ap (length {A = ℕ}) h.front ∙ length-append before (hop_begun o f c i ++ body) ∙ ap (λ k. length before + k) (ap (length {A = ℕ}) parts ∙ length-append (num 0 2 o) (kind ++ body) ∙ sum_two (length-num o 0 2) rest) in
      let from : length_from b b.heads ≡ length b.front - length before = ap (length_from b) h.heads in
      let size : 8 + items_len is ≤ LONGEST_ITEM = omega (arith, from, all, short) in
      let size_of_item : length (hop_item o f c i body) ≡ 8 + items_len is = length-hop o f c i body ∙ ap (λ k. 8 + k) (length-items o is) in
      let whole = no_padding (hop_item o f c i body) (omega (arith, size_of_item, items_whole is)) in
      let item = ap (λ k. num k 2 o ++ (kind ++ body)) eight ∙ sym whole in
      let deeper : length xs ≡ length zs + 1 = omega arith in
      let at = l.head.1 in
      let matched = subst (λ (k : Content). IsMismatchedVal y.inside k → ⊥) at m.matched in
      let w = val_and_hop y.inside f c i is in
      let new = num (2 + length (kind ++ body)) 2 o ++ (kind ++ body) in
      subst (λ (z : Built). Holds L z (record { ended = ms; layers = layers_and_hop (y ∷ zs) f c i is })) (sym closed) (record {
        bounds = h.bounds;
        front = ap (λ (ys : List ℕ). before ++ ys) item ∙ sym (laid_more o ms y zs w (with_padding (hop_item o f c i body)) (hops_written f c i is o y.inside matched));
        heads = refl;
        layers = (
          record {
            head = m.head;
            matched = subst (λ (k : Content). IsMismatchedVal w k → ⊥) (sym at) (hops_matched f c i is y.inside matched l.matched);
            shallow = hops_shallow f c i is y.inside (length zs) D m.shallow (subst (λ (k : ℕ). IsDeep is k D → ⊥) deeper l.shallow);
            short = hops_short f c i is y.inside m.short size l.short;
            ranged = hops_ranged f c i is y.inside m.ranged l.head.0 l.ranged;
          },
          h.layers.1.1,
        );
        matched = h.matched;
        shallow = h.shallow;
        short = h.short;
        ranged = h.ranged;
        limits = h.limits;
        size = omega (arith, h.size, all, rest, length-append before new, length-append (num (2 + length (kind ++ body)) 2 o) (kind ++ body), length-num o (2 + length (kind ++ body)) 2);
      })
    where
      six : {a d : ℕ} → a ≡ 4 → d ≡ items_len is → suc (suc a) + d ≡ 6 + items_len is
      six p q = omega (arith, p, q)

      sum_two : {a d : ℕ} → a ≡ 2 → d ≡ 6 + items_len is → a + d ≡ 8 + items_len is
      sum_two p q = omega (arith, p, q)

-- ---- either is closed

closes_at : (b : Built) → close_refusal b ≡ None → (2 ≤ length b.heads) × (length_from b b.heads ≤ LONGEST_CONTAINER)
closes_at b e = (grind arith, grind arith)

module _ {L : Bounds} (b : Built) (ms : List MessageVal) (short : length_from b b.heads ≤ LONGEST_CONTAINER) where
  close_layer : (h : Begun) (v : Val) (y : Layer) (zs : List Layer) → Holds L b (record { ended = ms; layers = record { head = h; inside = v } ∷ y ∷ zs })
      → Holds L (ended b 2) (record { ended = ms; layers = layers_and h v (y ∷ zs) })
  close_layer (message kind flags seq port head) v y zs h = let e = h.layers.0.head.0 in absurd (cc)
  close_layer (attribute n f) v y zs h = close_attr b ms n f v y zs h short
  close_layer (next_hop f c i) (list is) y zs h = close_hop b ms f c i is y zs h short
  close_layer (next_hop f c i) (bytes bs) y zs h = absurd (h.layers.0.matched tt)
  close_layer (next_hop f c i) (hops hs) y zs h = absurd (h.layers.0.matched tt)

  close_at : (xs : List Layer) → 2 ≤ length b.heads → Holds L b (record { ended = ms; layers = xs }) → Holds L (ended b 2) (record { ended = ms; layers = layers_closed xs })
  close_at [] two h = absurd (omega (arith, two, ap (length {A = OpenHead}) h.heads))
  close_at (x ∷ []) two h = absurd (omega (arith, two, ap (length {A = OpenHead}) h.heads))
  close_at (x ∷ y ∷ zs) two h = close_layer x.head x.inside y zs h

pub close_holds : {L : Bounds} (b new : Built) (d : Draft) → or_next b.refusal (close_refusal b) ≡ None → new ≡ ended b 2 → Holds L b d → Holds L new (draft.close d)
close_holds {L} b new d e made h =
    let at = closes_at b (neither b.refusal (close_refusal b) e).1 in
    subst (λ (x : Built). Holds L x (draft.close d)) (sym made) (close_at b d.ended at.1 d.layers at.0 h)
