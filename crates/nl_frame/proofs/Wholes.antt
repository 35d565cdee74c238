-- What a builder holds where a whole message is put.
use Rattle.nl_frame.proofs.Common.{◌≡◌, ℕ, ◌+◌, ◌<◌, ◌≤◌, ◌^◌, Bool, true, false, List, [], ◌∷◌, ◌++◌, length, take, drop, Option, Some, None, Ok, refl, sym, ap, subst, ◌∙◌, arith, inl, length-append, take-append-drop, LONGEST_REGION, Order, Shape, aligned, AreBytes, with_padding, length-padded, one_result, Field, byte, number, signed, pad, AreFields, length-written, Form, BuildError, OpenHead, form_of, least_body, header_fields, BodyOf, Bounds, BodyVal, noop, error, done, overrun, object, get, other, MessageVal, IsTheBody, body_at, body_written, message_item, written, IsMismatchedBody, IsDeepBody, IsLongBody, IsRanged, Layer, Draft, Holds}
use Rattle.nl_route.specs.Fields as fields
use Rattle.nl_frame.specs.declared.form.Form.TheVariants as form
use Rattle.nl_frame.specs.Building.{Built, order_of, grown, or_next, lacks, is_no_body, body_refusal, message_refusal, header_whole, put_message}
use Rattle.nl_frame.specs.Draft as draft
use Rattle.nl_frame.proofs.Layouts.{body_fit, body_sound}
use Rattle.nl_frame.proofs.ProperLayouts.{body_allowed}
use Rattle.nl_frame.proofs.WrittenLayouts.{length-body, same_form}
use Rattle.nl_frame.proofs.Opens.{has_room}
use Rattle.nl_frame.proofs.Begins.{no_layers, goes_on}
use Rattle.nl_frame.proofs.Snocs.{message_written, message_matched, message_shallow, message_short, message_ranged}

-- ---- the bytes that a body is of are what it is written as

-- fields of which every byte is kept
abbrev AreKept : List Field → Type 0
AreKept [] = Unit {0}
AreKept (pad w ∷ fs) = ⊥
AreKept (f ∷ fs) = AreKept fs

module _ (o : Order) where
  two_parts : (w : ℕ) (front more bytes : List ℕ) → take w bytes ≡ front → more ≡ drop w bytes → front ++ more ≡ bytes
  two_parts w front more bytes e f = ap (λ (xs : List ℕ). xs ++ more) (sym e) ∙ ap (λ (xs : List ℕ). take w bytes ++ xs) f ∙ take-append-drop w bytes

  -- fields are written as the bytes that have them
  back : (fs : List Field) (bytes : List ℕ) → AreKept fs → AreFields o fs bytes → fields.written o fs ≡ bytes
  back [] bytes k a = sym a
  back (byte n ∷ fs) bytes k a = two_parts 1 (n ∷ []) (fields.written o fs) bytes a.0 (back fs (drop 1 bytes) k a.2)
  back (number w n ∷ fs) bytes k a = two_parts w _ (fields.written o fs) bytes a.0 (back fs (drop w bytes) k a.2)
  back (signed z ∷ fs) bytes k a = two_parts 4 _ (fields.written o fs) bytes a.0 (back fs (drop 4 bytes) k a.2)
  back (pad w ∷ fs) bytes k a = absurd k

  front_back : (fs : List Field) (n : ℕ) (bytes tail : List ℕ) → AreKept fs → AreFields o fs (take n bytes) → drop n bytes ≡ tail → fields.written o fs ++ tail ≡ bytes
  front_back fs n bytes tail k a e = ap (λ (xs : List ℕ). xs ++ tail) (back fs (take n bytes) k a) ∙ ap (λ (xs : List ℕ). take n bytes ++ xs) (sym e) ∙ take-append-drop n bytes

pub written_back : (S : Shape) (v : BodyVal) (f : Form) (bytes : List ℕ) (n : ℕ) → is_no_body f n ≡ false → BodyOf S v f bytes → body_written S.order v ≡ bytes
written_back S (error z h tail) f bytes n e b = front_back S.order (signed z ∷ header_fields h) 20 bytes tail tt b.2 b.3
written_back S (done (Some z) tail) f bytes n e b = front_back S.order (signed z ∷ []) 4 bytes tail tt b.2 b.3
written_back S (done None tail) f bytes n e b = sym b.2
written_back S (object h is) f bytes n e b = absurd (let z = sym e ∙ ap (λ (g : Form). is_no_body g n) b.0 in cc)
written_back S (noop bs) f bytes n e b = sym b.1
written_back S (overrun bs) f bytes n e b = sym b.1
written_back S (get k tail) f bytes n e b = sym b.1
written_back S (other bs) f bytes n e b = sym b.1

-- ---- bytes that are long enough are one body

one_body : (S : Shape) (f : Form) (bytes : List ℕ) (v : BodyVal) → AreBytes bytes → least_body f ≤ length bytes → body_at S f 0 bytes ≡ (Ok v, 0) → IsTheBody S f bytes v
one_body S f bytes v fits le e = record {
  is = body_sound S f 0 bytes v 0 fits le e;
  only = λ w b. let r = (body_fit S w f 0 bytes b).1 in let z = one_result (sym r.1 ∙ e) in cc;
}

pub the_body : (S : Shape) (f : Form) (bytes : List ℕ) → AreBytes bytes → is_no_body f (length bytes) ≡ false → (v : BodyVal) × IsTheBody S f bytes v
the_body S (form.Object g) bytes fits e = absurd (cc)
the_body S form.Noop bytes fits e = (_, one_body S form.Noop bytes _ fits (omega arith) refl)
the_body S form.Error bytes fits e = (_, one_body S form.Error bytes _ fits (grind arith) refl)
the_body S form.Done bytes fits e = (_, one_body S form.Done bytes _ fits (omega arith) refl)
the_body S form.Overrun bytes fits e = (_, one_body S form.Overrun bytes _ fits (omega arith) refl)
the_body S form.Get bytes fits e = (_, one_body S form.Get bytes _ fits (grind arith) refl)
the_body S form.Other bytes fits e = (_, one_body S form.Other bytes _ fits (omega arith) refl)

-- ---- a whole message

-- one that is not refused
pub record IsWhole (b : Built) (kind n : ℕ) : Type 0 where
  pub heads : b.heads ≡ []
  pub form : is_no_body (form_of kind) n ≡ false
  pub short : 16 + n ≤ LONGEST_REGION
  pub room : lacks b (aligned (16 + n)) ≡ None

pub is_whole : (b : Built) (kind n : ℕ) → or_next b.refusal (message_refusal b b.heads kind n) ≡ None → IsWhole b kind n
is_whole b kind n e = at b.refusal b.heads (is_no_body (form_of kind) n) refl refl e where
  at : (r : Option BuildError) (hs : List OpenHead) (t : Bool) → b.heads ≡ hs → is_no_body (form_of kind) n ≡ t → or_next r (body_refusal b hs t n) ≡ None → IsWhole b kind n
  at (Some x) hs t h f e = absurd (cc)
  at None (k ∷ hs) t h f e = absurd (cc)
  at None [] true h f e = absurd (cc)
  at None [] false h f e = record { heads = h; form = f; short = grind arith; room = grind arith }

-- it holds no attributes
no_attributes : (v : BodyVal) (f : Form) (n D : ℕ) → is_no_body f n ≡ false → (IsMismatchedBody v f → ⊥) → (IsDeepBody v D → ⊥) × (IsLongBody v → ⊥)
no_attributes (object h is) f n D e m = absurd (let z = sym e ∙ ap (λ (g : Form). is_no_body g n) (same_form f _ (λ x. m (inl x))) in cc)
no_attributes (noop bs) f n D e m = (λ x. x, λ x. x)
no_attributes (error z h tail) f n D e m = (λ x. x, λ x. x)
no_attributes (done s tail) f n D e m = (λ x. x, λ x. x)
no_attributes (overrun bs) f n D e m = (λ x. x, λ x. x)
no_attributes (get k tail) f n D e m = (λ x. x, λ x. x)
no_attributes (other bs) f n D e m = (λ x. x, λ x. x)

-- the bytes of a message, without its padding
abbrev item : Order → MessageVal → List ℕ → List ℕ
item o m bs = fields.written o (header_fields (header_whole m.kind m.flags m.seq m.port (length bs))) ++ bs

module _ {L : Bounds} (b : Built) (m : MessageVal) (bs : List ℕ) where
  put_at : (ms : List MessageVal) (xs : List Layer) → xs ≡ [] → body_written (order_of b) m.body ≡ bs → IsWhole b m.kind (length bs) → (IsMismatchedBody m.body (form_of m.kind) → ⊥) → IsRanged (m ∷ [])
      → Holds L b (record { ended = ms; layers = xs }) → Holds L (grown b (with_padding (item (order_of b) m bs))) (record { ended = ms ++ m ∷ []; layers = xs })
  put_at ms (x ∷ xs) z e w mm r h = absurd (cc)
  put_at ms [] z e w mm r h =
      let o = order_of b in
      let D = b.bounds.shape.depth in
      let one = item o m bs in
      let same : one ≡ message_item o m =
      ap (λ (ys : List ℕ). item o m ys) (sym e)
      ∙ ap (λ k. fields.written o (header_fields (header_whole m.kind m.flags m.seq m.port k)) ++ body_written o m.body) (length-body o m.body) in
      let few = no_attributes m.body (form_of m.kind) (length bs) D w.form mm in
      let len : length one ≡ 16 + length bs = length-append (fields.written o (header_fields (header_whole m.kind m.flags m.seq m.port (length bs)))) bs ∙ ap (λ k. k + length bs) (length-written o (header_fields (header_whole m.kind m.flags m.seq m.port (length bs)))) in
      let padded : length (with_padding one) ≡ aligned (16 + length bs) = length-padded one ∙ ap aligned len in
      record {
        bounds = h.bounds;
        front = ap (λ (ys : List ℕ). ys ++ with_padding one) h.front ∙ ap (λ (ys : List ℕ). written o ms ++ with_padding ys) same ∙ sym (message_written m o ms);
        heads = h.heads;
        layers = tt;
        matched = message_matched m ms h.matched mm;
        shallow = message_shallow m ms D h.shallow few.0;
        short = message_short m ms h.short few.1;
        ranged = message_ranged m ms h.ranged r;
        limits = h.limits;
        size = omega (arith, length-append b.front (with_padding one), padded, (has_room b (aligned (16 + length bs)) w.room).1);
      }

pub message_holds : {L : Bounds} (b new : Built) (d : Draft) (m : MessageVal) (bs : List ℕ) → or_next b.refusal (message_refusal b b.heads m.kind (length bs)) ≡ None → body_written (order_of b) m.body ≡ bs
    → (IsMismatchedBody m.body (form_of m.kind) → ⊥) → IsRanged (m ∷ []) → new ≡ put_message b m.kind m.flags m.seq m.port bs → Holds L b d → Holds L new (draft.put_message d m.kind m.flags m.seq m.port m.body)
message_holds {L} b new d m bs e is mm r made h =
    let w = is_whole b m.kind (length bs) e in
    let none = no_layers (order_of b) d.ended d.layers (sym h.heads ∙ w.heads) in
    subst (λ (x : Built). Holds L x (draft.put_message d m.kind m.flags m.seq m.port m.body)) (sym (goes_on b new _ _ e made)) (put_at b m bs d.ended d.layers none is w mm r h)

-- the one body that bytes are is put
pub bytes_hold : (b new : Built) (d : Draft) (L : Bounds) (kind flags seq port : ℕ) (v : BodyVal) (bs : List ℕ) → AreBytes bs → (kind < 2 ^ 16) × (flags < 2 ^ 16) × (seq < 2 ^ 32) × (port < 2 ^ 32)
    → or_next b.refusal (message_refusal b b.heads kind (length bs)) ≡ None → new ≡ put_message b kind flags seq port bs → BodyOf L.shape v (form_of kind) bs → Holds L b d
    → Holds L new (draft.put_message d kind flags seq port v)
bytes_hold b new d L kind flags seq port v bs fits r e made body h =
    let a = body_allowed L.shape v (form_of kind) bs body in
    let w = is_whole b kind (length bs) e in
    let is : body_written (order_of b) v ≡ bs = ap (λ (x : Bounds). body_written x.shape.order v) h.bounds ∙ written_back L.shape v (form_of kind) bs (length bs) w.form body in
    message_holds b new d (record { kind = kind; flags = flags; seq = seq; port = port; body = v }) bs e is a.matched (r.0, r.1, r.2, r.3, a.ranged fits, tt) made h
