-- What each call of a builder puts.
use Rattle.nl_frame.proofs.Common.{◌≡◌, ℕ, ◌+◌, ◌<◌, ◌≤◌, List, [], ◌∷◌, ◌++◌, length, Option, Some, None, Result, Ok, Err, refl, sym, ap, subst, ◌∙◌, arith, append_assoc, length-append, NUMBERS, LONGEST_ITEM, Order, AttrFlags, Ctx, Content, aligned, Val, bytes, list, hops, holds_of, with_padding, attr_item, written_val, val_len, IsMismatchedVal, IsDeepVal, IsLongItem, HasLongVal, IsRangedVal, length-padded_attr, Bounds, BuildError, OpenHead, MessageVal, Built, order_of, grown, or_next, lacks, top, held, held_in, bytes_refusal, Layer, Draft, content_at, val_and_item, begun_bytes, laid, IsDeepIn, HasLongIn, IsLayer, Holds}
use Rattle.nl_attr.specs.declared.tree.Content.TheVariants as content
use Rattle.nl_frame.specs.Draft as draft
use Rattle.nl_frame.proofs.Opens.{has_room}
use Rattle.nl_frame.proofs.Snocs.{item_written, item_matched, item_shallow, item_short, item_ranged}

-- ---- calls that aren't refused

-- where a call is not refused there was no refusal before it, and it has none of its own
pub neither : (r e : Option BuildError) → or_next r e ≡ None → (r ≡ None) × (e ≡ None)
neither None e h = (refl, h)
neither (Some x) e h = absurd (cc)

-- an attribute stands where attributes are, and holds this
pub record IsHeld (k : Content) (n : ℕ) (f : AttrFlags) (c : Content) : Type 0 where
  pub ctx : Ctx
  pub is : k ≡ content.List ctx
  pub number : n < NUMBERS
  pub holds : holds_of ctx n f ≡ c

pub is_held : (k : Content) (n : ℕ) (f : AttrFlags) (c : Content) → held_in k n f ≡ Ok c → IsHeld k n f c
is_held (content.List ctx) n f c e = record { ctx = ctx; is = refl; number = grind arith; holds = grind arith }
is_held content.Hops n f c e = absurd (cc)
is_held content.Bytes n f c e = absurd (cc)

-- bytes have room in such an attribute
pub record HasBytes (b : Built) (r : Result Content BuildError) (n : ℕ) : Type 0 where
  pub held : r ≡ Ok content.Bytes
  pub short : 4 + n ≤ LONGEST_ITEM
  pub room : lacks b (aligned (4 + n)) ≡ None

pub has_bytes : (b : Built) (r : Result Content BuildError) (n : ℕ) → bytes_refusal b r n ≡ None → HasBytes b r n
has_bytes b (Ok content.Bytes) n e = record { held = refl; short = grind arith; room = grind arith }
has_bytes b (Ok (content.List c)) n e = absurd (cc)
has_bytes b (Ok content.Hops) n e = absurd (cc)
has_bytes b (Err x) n e = absurd (cc)

-- ---- one more attribute behind the innermost head

module _ (n : ℕ) (f : AttrFlags) (v : Val) where
  pub val_written : (o : Order) (w : Val) (c : Ctx) → (IsMismatchedVal w (content.List c) → ⊥) → written_val o (val_and_item w n f v) ≡ written_val o w ++ with_padding (attr_item o n f (written_val o v))
  val_written o (list is) c m = item_written n f v o is
  val_written o (bytes bs) c m = absurd (m tt)
  val_written o (hops hs) c m = absurd (m tt)

  val_matched : (w : Val) (c : Ctx) → (IsMismatchedVal w (content.List c) → ⊥) → (NUMBERS ≤ n → ⊥) → (IsMismatchedVal v (holds_of c n f) → ⊥) → IsMismatchedVal (val_and_item w n f v) (content.List c) → ⊥
  val_matched (list is) c m a b = item_matched n f v is c m a b
  val_matched (bytes bs) c m a b = absurd (m tt)
  val_matched (hops hs) c m a b = absurd (m tt)

  val_shallow : (w : Val) (l D : ℕ) → (IsDeepIn w l D → ⊥) → (IsDeepVal v l D → ⊥) → IsDeepIn (val_and_item w n f v) l D → ⊥
  val_shallow (list is) l D s a = item_shallow n f v is l D s a
  val_shallow (bytes bs) l D s a = s
  val_shallow (hops hs) l D s a = s

  val_short : (w : Val) → (HasLongIn w → ⊥) → (IsLongItem (4 + val_len v) → ⊥) → (HasLongVal v → ⊥) → HasLongIn (val_and_item w n f v) → ⊥
  val_short (list is) s a b = item_short n f v is s a b
  val_short (bytes bs) s a b = s
  val_short (hops hs) s a b = s

  val_ranged : (w : Val) → IsRangedVal w → IsRangedVal v → IsRangedVal (val_and_item w n f v)
  val_ranged (list is) r a = item_ranged n f v is r a
  val_ranged (bytes bs) r a = r
  val_ranged (hops hs) r a = r

-- an attribute that may stand at level l
pub record IsItem (D l : ℕ) (c : Ctx) (n : ℕ) (f : AttrFlags) (v : Val) : Type 0 where
  pub number : n < NUMBERS
  pub matched : IsMismatchedVal v (holds_of c n f) → ⊥
  pub shallow : IsDeepVal v l D → ⊥
  pub size : 4 + val_len v ≤ LONGEST_ITEM
  pub short : HasLongVal v → ⊥
  pub ranged : IsRangedVal v

not_above : (a b : ℕ) → a ≤ b → b < a → ⊥
not_above a b h k = omega (arith, h, k)

pub layer_and_item : (D : ℕ) (x : Layer) (xs : List Layer) (c : Ctx) (n : ℕ) (f : AttrFlags) (v : Val) → IsLayer D x xs → content_at (x ∷ xs) ≡ content.List c → IsItem D (length xs) c n f v
    → IsLayer D (record x { inside = val_and_item x.inside n f v }) xs
layer_and_item D x xs c n f v l e i =
    let w = val_and_item x.inside n f v in
    let same = subst (λ (k : Content). IsMismatchedVal x.inside k → ⊥) e l.matched in
    record {
      head = l.head;
      matched = subst (λ (k : Content). IsMismatchedVal w k → ⊥) (sym e) (val_matched n f v x.inside c same (λ h. omega (arith, h, i.number)) i.matched);
      shallow = val_shallow n f v x.inside (length xs) D l.shallow i.shallow;
      short = val_short n f v x.inside l.short (λ h. not_above (4 + val_len v) LONGEST_ITEM i.size h) i.short;
      ranged = val_ranged n f v x.inside l.ranged i.ranged;
    }

-- the bytes behind the innermost head are more by so much
pub laid_more : (o : Order) (ms : List MessageVal) (x : Layer) (xs : List Layer) (w : Val) (more : List ℕ) → written_val o w ≡ written_val o x.inside ++ more
    → laid o ms (record x { inside = w } ∷ xs) ≡ laid o ms (x ∷ xs) ++ more
laid_more o ms x xs w more e =
    let head = begun_bytes o x.head in
    ap (λ (ys : List ℕ). laid o ms xs ++ (head ++ ys)) e ∙ ap (λ (ys : List ℕ). laid o ms xs ++ ys) (sym (append_assoc head (written_val o x.inside) more))
    ∙ sym (append_assoc (laid o ms xs) (head ++ written_val o x.inside) more)

-- ---- bytes are put

-- the draft of these messages and open heads
abbrev of : List MessageVal → List Layer → Draft
of ms xs = record { ended = ms; layers = xs }

no_head : (b : Built) (n : ℕ) (f : AttrFlags) (len : ℕ) → or_next b.refusal (bytes_refusal b (held None n f) len) ≡ None → ⊥
no_head b n f len e = let h = (neither b.refusal _ e).1 in cc

put_at : {L : Bounds} (b : Built) (ms : List MessageVal) (xs : List Layer) (n : ℕ) (f : AttrFlags) (bs : List ℕ) → Holds L b (of ms xs) → or_next b.refusal (bytes_refusal b (held (top b.heads) n f) (length bs)) ≡ None
    → Holds L (grown b (with_padding (attr_item (order_of b) n f bs))) (draft.put (of ms xs) n f bs)
put_at b ms [] n f bs h e = absurd (no_head b n f (length bs) (ap (λ (hs : List OpenHead). or_next b.refusal (bytes_refusal b (held (top hs) n f) (length bs))) (sym h.heads) ∙ e))
put_at b ms (x ∷ xs) n f bs h e =
    let o = order_of b in
    let k = content_at (x ∷ xs) in
    let has = has_bytes b (held_in k n f) (length bs) (neither b.refusal _ (ap (λ (hs : List OpenHead). or_next b.refusal (bytes_refusal b (held (top hs) n f) (length bs))) (sym h.heads) ∙ e)).1 in
    let at = is_held k n f content.Bytes has.held in
    let one = with_padding (attr_item o n f bs) in
    let len : length one ≡ aligned (4 + length bs) = length-padded_attr o n f (bytes bs) in
    let room = has_room b (aligned (4 + length bs)) has.room in
    let l = h.layers.0 in
    let i : IsItem b.bounds.shape.depth (length xs) at.ctx n f (bytes bs) = record {
      number = at.number;
      matched = subst (λ (c : Content). IsMismatchedVal (bytes bs) c → ⊥) (sym at.holds) (λ z. z);
      shallow = λ z. z;
      size = has.short;
      short = λ z. z;
      ranged = tt;
    } in
    record {
      bounds = h.bounds;
      front = ap (λ (ys : List ℕ). ys ++ one) h.front ∙ sym (laid_more o ms x xs (val_and_item x.inside n f (bytes bs)) one (val_written n f (bytes bs) o x.inside at.ctx (subst (λ (c : Content). IsMismatchedVal x.inside c → ⊥) at.is l.matched)));
      heads = h.heads;
      layers = (layer_and_item b.bounds.shape.depth x xs at.ctx n f (bytes bs) l at.is i, h.layers.1);
      matched = h.matched;
      shallow = h.shallow;
      short = h.short;
      ranged = h.ranged;
      limits = h.limits;
      size = omega (arith, length-append b.front one, len, room.1);
    }

pub put_holds : {L : Bounds} (b new : Built) (d : Draft) (n : ℕ) (f : AttrFlags) (bs : List ℕ) → or_next b.refusal (bytes_refusal b (held (top b.heads) n f) (length bs)) ≡ None
    → new ≡ grown b (with_padding (attr_item (order_of b) n f bs)) → Holds L b d → Holds L new (draft.put d n f bs)
put_holds {L} b new d n f bs e g h = subst (λ (x : Built). Holds L x (draft.put d n f bs)) (sym g) (put_at b d.ended d.layers n f bs h e)
