-- What a builder holds behind a head that opens.
use Rattle.nl_frame.proofs.Common.{◌≡◌, ◌≢◌, ℕ, ℤ, ◌+◌, ◌<◌, ◌≤◌, ◌^◌, List, [], ◌∷◌, ◌++◌, length, true, Option, None, Result, Ok, Err, refl, sym, ap, subst, ◌∙◌, arith, inl, inr, append-nil, length-append, FitsSigned, w32, cast_unsigned, Order, AttrFlags, Route, Content, num, kind_number, holds_of, length-num, written_val, IsMismatchedVal, IsRangedVal, Family, AnyHead, head_size, family_of, fields_of, context_of, AreRanged, length-written, one_or_other, size_of_head, Bounds, Form, BuildError, OpenHead, MessageVal, form_of, header_fields, Begun, message, attribute, next_hop, Layer, Draft, content_at, content_in, content_behind, none_of, begun_bytes, laid, heads_of, IsDeepIn, HasLongIn, MayBegin, Holds}
use Rattle.nl_attr.specs.declared.tree.Content.TheVariants as content
use Rattle.nl_route.specs.Fields as fields
use Rattle.nl_frame.specs.declared.form.Form.TheVariants as form
use Rattle.nl_frame.specs.declared.building.refusal.BuildError.TheVariants.{NothingOpen}
use Rattle.nl_frame.specs.Building.{Built, order_of, opened, or_next, settled, open_hop, lacks, top, held, open_refusal, levels_in, attr_begun, hop_begun, header_begun, message_begun, hop_refusal, hop_refusal_in, begin, begin_refusal, has_head}
use Rattle.nl_frame.specs.Draft as draft
use Rattle.nl_frame.proofs.Opens.{has_room, begin_allowed}
use Rattle.nl_frame.proofs.Puts.{neither, is_held}

-- ---- nothing behind a head

none_written : (o : Order) (k : Content) → written_val o (none_of k) ≡ []
none_written o content.Bytes = refl
none_written o (content.List c) = refl
none_written o content.Hops = refl

none_matched : (k : Content) → IsMismatchedVal (none_of k) k → ⊥
none_matched content.Bytes x = x
none_matched (content.List c) x = x
none_matched content.Hops x = x

none_shallow : (k : Content) (l D : ℕ) → IsDeepIn (none_of k) l D → ⊥
none_shallow content.Bytes l D x = x
none_shallow (content.List c) l D x = x
none_shallow content.Hops l D x = x

none_short : (k : Content) → HasLongIn (none_of k) → ⊥
none_short content.Bytes x = x
none_short (content.List c) x = x
none_short content.Hops x = x

none_ranged : (k : Content) → IsRangedVal (none_of k)
none_ranged content.Bytes = tt
none_ranged (content.List c) = tt
none_ranged content.Hops = tt

-- ---- how long heads are

module _ (o : Order) where
  pub attr_length : (n : ℕ) (f : AttrFlags) → length (attr_begun o n f) ≡ 4
  attr_length n f = omega (arith, length-append (num 0 2 o) (num (kind_number n f) 2 o), length-num o 0 2, length-num o (kind_number n f) 2)

  pub hop_length : (f c : ℕ) (i : ℤ) → length (hop_begun o f c i) ≡ 8
  hop_length f c i = omega (arith, length-append (num 0 2 o) (f ∷ c ∷ num (cast_unsigned w32 i) 4 o), length-num o 0 2, length-num o (cast_unsigned w32 i) 4)

  pub message_length : (kind flags seq port : ℕ) (h : AnyHead) → length (message_begun o (header_begun kind flags seq port) h) ≡ 16 + head_size (family_of h)
  message_length kind flags seq port h =
      let front = header_fields (header_begun kind flags seq port) in
      length-append (fields.written o front) (fields.written o (fields_of h)) ∙ two (length-written o front) (length-written o (fields_of h) ∙ size_of_head h) where
        two : {m n : ℕ} → m ≡ 16 → n ≡ head_size (family_of h) → m + n ≡ 16 + head_size (family_of h)
        two x y = omega (arith, x, y)

-- ---- a head opens

-- what a call does that isn't refused
pub goes_on : (b new next : Built) (r : Option BuildError) → r ≡ None → new ≡ settled b r next → new ≡ next
goes_on b new next r e f = f ∙ ap (λ (x : Option BuildError). settled b x next) e

pub opens : {L : Bounds} (b new : Built) (d : Draft) (h : Begun) (c : Content) (bytes : List ℕ) → Holds L b d → MayBegin b.bounds.shape.depth h d.layers
    → c ≡ content_behind h (content_at d.layers) → bytes ≡ begun_bytes (order_of b) h → lacks b (length bytes) ≡ None → new ≡ opened b c bytes
    → Holds L new (draft.open_head d h)
opens {L} b new d h c bytes holds may e g room is =
    let o = order_of b in
    let k = content_behind h (content_at d.layers) in
    let has = has_room b (length bytes) room in
    let before = laid o d.ended d.layers in
    let start : OpenHead = record { start = length b.front; content = c } in
    let first : start ∷ b.heads ≡ heads_of o d.ended (record { head = h; inside = none_of k } ∷ d.layers) =
    ap (λ (hs : List OpenHead). start ∷ hs) holds.heads
    ∙ ap (λ (x : Content). record { start = length b.front; content = x } ∷ heads_of o d.ended d.layers) e
    ∙ ap (λ (xs : List ℕ). record { start = length xs; content = k } ∷ heads_of o d.ended d.layers) holds.front in
    subst (λ (x : Built). Holds L x (draft.open_head d h)) (sym is) (record {
      bounds = holds.bounds;
      front = ap (λ (xs : List ℕ). xs ++ bytes) holds.front ∙ ap (λ (xs : List ℕ). before ++ xs) (g ∙ sym (append-nil (begun_bytes o h)) ∙ ap (λ (xs : List ℕ). begun_bytes o h ++ xs) (sym (none_written o k)));
      heads = first;
      layers = (
        record {
          head = may;
          matched = none_matched k;
          shallow = none_shallow k (length d.layers) b.bounds.shape.depth;
          short = none_short k;
          ranged = none_ranged k;
        },
        holds.layers,
      );
      matched = holds.matched;
      shallow = holds.shallow;
      short = holds.short;
      ranged = holds.ranged;
      limits = holds.limits;
      size = omega (arith, length-append b.front bytes, has.1);
    })

-- ---- an attribute

-- it opens
pub record Opens (b : Built) (r : Result Content BuildError) : Type 0 where
  pub what : Content
  pub held : r ≡ Ok what
  pub region : what ≢ content.Bytes
  pub level : length b.heads + levels_in what ≤ b.bounds.shape.depth
  pub room : lacks b 4 ≡ None

pub opens_at : (b : Built) (r : Result Content BuildError) → open_refusal b r ≡ None → Opens b r
opens_at b (Ok content.Bytes) e = absurd (cc)
opens_at b (Ok (content.List c)) e = record { what = content.List c; held = refl; region = λ x. cc; level = grind arith; room = grind arith }
opens_at b (Ok content.Hops) e = record { what = content.Hops; held = refl; region = λ x. cc; level = grind arith; room = grind arith }
opens_at b (Err x) e = absurd (cc)

-- there are as many open heads as layers
pub length-heads : (o : Order) (ms : List MessageVal) (xs : List Layer) → length (heads_of o ms xs) ≡ length xs
length-heads o ms [] = refl
length-heads o ms (x ∷ xs) = let e = length-heads o ms xs in omega (arith, e)

module _ {L : Bounds} (b : Built) (ms : List MessageVal) (n : ℕ) (f : AttrFlags) (c : Content) where
  may_open : (xs : List Layer) → Holds L b (record { ended = ms; layers = xs }) → or_next b.refusal (open_refusal b (held (top b.heads) n f)) ≡ None → held (top b.heads) n f ≡ Ok c
      → MayBegin b.bounds.shape.depth (attribute n f) xs × (c ≡ content_behind (attribute n f) (content_at xs)) × (lacks b 4 ≡ None)
  may_open [] h e g = let z : Err NothingOpen ≡ Ok c = sym (ap (λ (hs : List OpenHead). held (top hs) n f) h.heads) ∙ g in absurd (cc)
  may_open (x ∷ xs) h e g =
      let k = content_at (x ∷ xs) in
      let at = is_held k n f c (sym (ap (λ (hs : List OpenHead). held (top hs) n f) h.heads) ∙ g) in
      let o = opens_at b (held (top b.heads) n f) (neither b.refusal _ e).1 in
      let same : Ok o.what ≡ Ok c = sym o.held ∙ g in
      let one : o.what ≡ c = cc in
      let all : o.what ≡ holds_of at.ctx n f = one ∙ sym at.holds in
      let level : length (x ∷ xs) + levels_in (holds_of at.ctx n f) ≤ b.bounds.shape.depth = omega (arith, o.level, ap levels_in all, ap (length {A = OpenHead}) h.heads, length-heads (order_of b) ms (x ∷ xs)) in (
        (at.number, at.ctx, at.is, (λ z. o.region (all ∙ z)), level),
        sym (ap (λ (y : Content). content_in y n f) at.is ∙ at.holds),
        o.room,
      )

pub open_holds : {L : Bounds} (b new : Built) (d : Draft) (n : ℕ) (f : AttrFlags) (c : Content) (bytes : List ℕ) → or_next b.refusal (open_refusal b (held (top b.heads) n f)) ≡ None
    → held (top b.heads) n f ≡ Ok c → bytes ≡ attr_begun (order_of b) n f → new ≡ opened b c bytes → Holds L b d → Holds L new (draft.open_head d (attribute n f))
open_holds b new d n f c bytes e g is made h =
    let may = may_open b d.ended n f c d.layers h e g in
    opens b new d (attribute n f) c bytes h may.0 may.1 is (ap (lacks b) (ap (length {A = ℕ}) is ∙ attr_length (order_of b) n f) ∙ may.2) made

-- ---- a next hop

pub hop_may : {L : Bounds} (b : Built) (ms : List MessageVal) (xs : List Layer) → Holds L b (record { ended = ms; layers = xs }) → or_next b.refusal (hop_refusal b (top b.heads)) ≡ None
    → (content_at xs ≡ content.Hops) × (lacks b 8 ≡ None)
hop_may b ms [] h e = let z = ap (λ (hs : List OpenHead). hop_refusal b (top hs)) (sym h.heads) ∙ (neither b.refusal _ e).1 in absurd (cc)
hop_may b ms (x ∷ xs) h e = in_hops (content_at (x ∷ xs)) (ap (λ (hs : List OpenHead). hop_refusal b (top hs)) (sym h.heads) ∙ (neither b.refusal _ e).1) where
  in_hops : (k : Content) → hop_refusal_in b k ≡ None → (k ≡ content.Hops) × (lacks b 8 ≡ None)
  in_hops content.Hops z = (refl, z)
  in_hops (content.List c) z = absurd (cc)
  in_hops content.Bytes z = absurd (cc)

pub hop_holds : {L : Bounds} (b new : Built) (d : Draft) (f c : ℕ) (i : ℤ) → or_next b.refusal (hop_refusal b (top b.heads)) ≡ None → FitsSigned w32 i
    → new ≡ open_hop b f c i → Holds L b d → Holds L new (draft.open_head d (next_hop f c i))
hop_holds b new d f c i e r made h =
    let may = hop_may b d.ended d.layers h e in
    let bytes = hop_begun (order_of b) f c i in
    opens b new d (next_hop f c i) (content.List Route) bytes h (r, may.0) refl refl (ap (lacks b) (hop_length (order_of b) f c i) ∙ may.1) (goes_on b new _ _ e made)

-- ---- a message

is_object : (f : Form) (g : Family) → has_head f g ≡ true → f ≡ form.Object g
is_object (form.Object k) g e = elim (one_or_other k g) [
  | inl x ↦ ap form.Object x.0
  | inr x ↦ absurd (let y = sym e ∙ x.1 in cc)
]
is_object form.Noop g e = absurd (cc)
is_object form.Error g e = absurd (cc)
is_object form.Done g e = absurd (cc)
is_object form.Overrun g e = absurd (cc)
is_object form.Get g e = absurd (cc)
is_object form.Other g e = absurd (cc)

-- what a message's header and head say is in the range of its type
abbrev pub HasRanges : ℕ → ℕ → ℕ → ℕ → AnyHead → Type 0
HasRanges kind flags seq port h = (kind < 2 ^ 16) × (flags < 2 ^ 16) × (seq < 2 ^ 32) × (port < 2 ^ 32) × AreRanged (fields_of h)

pub no_layers : (o : Order) (ms : List MessageVal) (xs : List Layer) → heads_of o ms xs ≡ [] → xs ≡ []
no_layers o ms [] e = refl
no_layers o ms (x ∷ xs) e = absurd (cc)

pub begin_holds : {L : Bounds} (b new : Built) (d : Draft) (kind flags seq port : ℕ) (head : AnyHead) → or_next b.refusal (begin_refusal b b.heads kind (family_of head)) ≡ None
    → HasRanges kind flags seq port head → new ≡ begin b kind flags seq port head → Holds L b d → Holds L new (draft.open_head d (message kind flags seq port head))
begin_holds b new d kind flags seq port head e r made h =
    let g = family_of head in
    let a = begin_allowed b kind g e in
    let bytes = message_begun (order_of b) (header_begun kind flags seq port) head in
    let layers = no_layers (order_of b) d.ended d.layers (sym h.heads ∙ a.0) in
    opens b new d (message kind flags seq port head) (content.List (context_of g)) bytes h (layers, is_object (form_of kind) g a.2, r.0, r.1, r.2, r.3, r.4) refl refl (ap (lacks b) (message_length (order_of b) kind flags seq port head) ∙ a.1) (goes_on b new _ _ e made)
