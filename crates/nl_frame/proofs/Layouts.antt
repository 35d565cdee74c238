-- What is read of a payload is its body, and nothing else is; and the layout of a datagram is what is read of it.
use Rattle.nl_frame.proofs.Common.{◌≡◌, ℕ, ◌+◌, ◌≤◌, ℤ, List, [], ◌∷◌, length, take, drop, Some, None, Ok, refl, sym, ap, subst, ◌∙◌, arith, inl, inr, ◌-◌, ◌≢◌, zero, suc, Option, le-ltb, lt-ltb, cases_lt, length-take, take-take, drop-take, drop-drop, nil_from_length, slice_index, Order, Reason, Shape, AreBytes, number_of, len_of, Items, Fits, IsPiece, Outcome, map_value, items_of_region, ReadAs, items_fit, then_read, map_read, along, IsCut, cut_piece, bytes_drop, bytes_take, number_take, piece_at, one_result, sound_within, rest_shorter, or_else_none, signed, AreFields, Field, value_at, signed_at, any_only, any_fields, head_size, context_of, AnyHead, family_of, head_of, Header, Form, Family, header_fields, header_of, least_body, form_of, form_at, span_at, payload_at, broken_frame, broken_message, BodyVal, noop, error, done, overrun, object, get, other, MessageVal, BodyOf, Layout, w32, cast_signed}
use Rattle.nl_attr.proofs.Lemmas.Sound.{items_sound, map_ok, same_ok, then_ok}
use Rattle.nl_route.proofs.Known.{fields_of_read, read_of_fields, IsKnown}
use Rattle.nl_frame.specs.declared.form.Form.TheVariants as form
use Rattle.nl_frame.specs.Reading.{signed_of, done_at, body_at, message_of, message_at, unless, messages_at, messages_of}
use Rattle.nl_frame.proofs.Steps.{messages_step, messages_none}
use Rattle.nl_frame.proofs.Fronts.{sound_of, long_of}

-- ---- what is read of the fixed fields at the front of a message or a body

pub header_known : IsKnown 16 header_fields header_of
header_known =
    record {
      is = λ o v bytes. refl;
      made = λ fs. record { len = value_at fs 0; kind = value_at fs 1; flags = value_at fs 2; seq = value_at fs 3; port = value_at fs 4 };
      back = λ v. refl;
      size_is = λ v. refl;
    }

-- the status of a DONE
abbrev pub status_fields : ℤ → List Field
status_fields z = signed z ∷ []

pub status_known : IsKnown 4 status_fields signed_of
status_known = record { is = λ o v bytes. refl; made = λ fs. signed_at fs 0; back = λ v. refl; size_is = λ v. refl }

-- the code of an ERROR and the header that it answers
abbrev pub Answer : Type 0
Answer = ℤ × Header

abbrev pub answer_fields : Answer → List Field
answer_fields a = signed a.0 ∷ header_fields a.1

abbrev pub answer_of : Order → List ℕ → Answer
answer_of o bytes = (signed_of o bytes, header_of o (drop 4 bytes))

pub answer_known : IsKnown 20 answer_fields answer_of
answer_known =
    record {
      is = λ o v bytes. rw (drop-drop 4 4 bytes, drop-drop 6 4 bytes, drop-drop 8 4 bytes, drop-drop 12 4 bytes) refl;
      made = λ fs. (signed_at fs 0, record { len = value_at fs 1; kind = value_at fs 2; flags = value_at fs 3; seq = value_at fs 4; port = value_at fs 5 });
      back = λ v. refl;
      size_is = λ v. refl;
    }

-- a number is read of its own bytes alone
number_front : (o : Order) (w k n : ℕ) (xs : List ℕ) → k + w ≤ n → number_of o w (drop k (take n xs)) ≡ number_of o w (drop k xs)
number_front o w k n xs le =
    let e : n ≡ k + (n - k) = omega arith in
    ap (λ (m : ℕ). number_of o w (drop k (take m xs))) e
    ∙ ap (number_of o w) (drop-take k (n - k) xs)
    ∙ sym (number_take o w (take (n - k) (drop k xs)))
    ∙ ap (number_of o w) (take-take w (n - k) (drop k xs) (omega arith))
    ∙ number_take o w (drop k xs)

header_same : {a b c d e f g h i j : ℕ} → a ≡ b → c ≡ d → e ≡ f → g ≡ h → i ≡ j → ◌≡◌ {A = Header} (record { len = a; kind = c; flags = e; seq = g; port = i }) (record { len = b; kind = d; flags = f; seq = h; port = j })
header_same p q r s t = cc

-- a header is read of the first 16 bytes alone, and so are the others
pub header_front : (o : Order) (xs : List ℕ) → header_of o (take 16 xs) ≡ header_of o xs
header_front o xs = header_same (number_front o 4 0 16 xs (omega arith)) (number_front o 2 4 16 xs (omega arith)) (number_front o 2 6 16 xs (omega arith)) (number_front o 4 8 16 xs (omega arith)) (number_front o 4 12 16 xs (omega arith))

pub status_front : (o : Order) (xs : List ℕ) → signed_of o (take 4 xs) ≡ signed_of o xs
status_front o xs = ap (cast_signed w32) (number_front o 4 0 4 xs (omega arith))

answer_same : {y z : ℤ} {v w : Header} → y ≡ z → v ≡ w → ◌≡◌ {A = Answer} (y, v) (z, w)
answer_same p q = cc

pub answer_front : (o : Order) (xs : List ℕ) → answer_of o (take 20 xs) ≡ answer_of o xs
answer_front o xs =
    answer_same (ap (cast_signed w32) (number_front o 4 0 20 xs (omega arith)))
    (ap (header_of o) (drop-take 4 16 xs) ∙ header_front o (drop 4 xs))

-- ---- what is a body is read

error_only : (o : Order) (z : ℤ) (h : Header) (tail payload : List ℕ) → AreFields o (signed z ∷ header_fields h) (take 20 payload) → drop 20 payload ≡ tail
    → error (signed_of o payload) (header_of o (drop 4 payload)) (drop 20 payload) ≡ error z h tail
error_only o z h tail payload is rest =
    let same : answer_of o payload ≡ (z, h) = sym (answer_front o payload) ∙ sym (read_of_fields answer_known o (z, h) (take 20 payload) is) in
    ap (λ (a : Answer). error a.0 a.1 (drop 20 payload)) same ∙ ap (error z h) rest

done_only : (o : Order) (z : ℤ) (tail payload : List ℕ) → 4 ≤ length payload → AreFields o (signed z ∷ []) (take 4 payload) → drop 4 payload ≡ tail → done_at o payload ≡ done (Some z) tail
done_only o z tail payload le is rest =
    let same : signed_of o payload ≡ z = sym (status_front o payload) ∙ sym (read_of_fields status_known o z (take 4 payload) is) in
    rw (le-ltb (length payload) 4 le) (ap (λ (x : ℤ). done (Some x) (drop 4 payload)) same ∙ ap (done (Some z)) rest)

-- the form is long enough, and its body is read
abbrev pub IsRead : Shape → Form → ℕ → List ℕ → BodyVal → Type 0
IsRead S f place payload c = (least_body f ≤ length payload) × ReadAs (body_at S f place payload) c

of_form : (S : Shape) (f g : Form) (place : ℕ) (payload : List ℕ) (c : BodyVal) → f ≡ g → IsRead S g place payload c → IsRead S f place payload c
of_form S f g place payload c e h = subst (λ (x : Form). IsRead S x place payload c) (sym e) h

ok_same : (x y : BodyVal) → x ≡ y → ◌≡◌ {A = Outcome BodyVal} (Ok x, 0) (Ok y, 0)
ok_same x y e = ap (λ (z : BodyVal). (Ok z, 0)) e

pub body_fit : (S : Shape) (c : BodyVal) (f : Form) (place : ℕ) (payload : List ℕ) → BodyOf S c f payload → IsRead S f place payload c
body_fit S (noop bs) f place payload b = of_form S f form.Noop place payload (noop bs) b.0 (omega arith, (0, ok_same _ _ (ap noop b.1)))
body_fit S (error z h tail) f place payload b = of_form S f form.Error place payload (error z h tail) b.0 (b.1, (0, ok_same _ _ (error_only S.order z h tail payload b.2 b.3)))
body_fit S (done None tail) f place payload b = of_form S f form.Done place payload (done None tail) b.0 (omega arith, (0, ok_same _ _ (rw (lt-ltb (length payload) 4 b.1) (ap (done None) b.2))))
body_fit S (done (Some z) tail) f place payload b = of_form S f form.Done place payload (done (Some z) tail) b.0 (omega arith, (0, ok_same _ _ (done_only S.order z tail payload b.1 b.2 b.3)))
body_fit S (overrun bs) f place payload b = of_form S f form.Overrun place payload (overrun bs) b.0 (omega arith, (0, ok_same _ _ (ap overrun b.1)))
body_fit S (object h is) f place payload b =
    let g = family_of h in
    let n = head_size g in
    let r = items_fit is S (context_of g) 0 (place + n) (drop n payload) b.1.2 in
    let e : head_of S.order g (take n payload) ≡ h = any_only S.order h (take n payload) b.1.1 in
    of_form S f (form.Object g) place payload (object h is) b.0
    (b.1.0, (r.0, ap (map_value (object (head_of S.order g (take n payload)))) r.1 ∙ ap (λ (x : AnyHead). (Ok (object x is), r.0)) e))
body_fit S (get n tail) f place payload b = of_form S f form.Get place payload (get n tail) b.0 (omega (arith, ap (length {A = ℕ}) b.1), (0, ok_same _ _ (ap (λ (xs : List ℕ). get (slice_index xs 0) (drop 1 xs)) b.1)))
body_fit S (other bs) f place payload b = of_form S f form.Other place payload (other bs) b.0 (omega arith, (0, ok_same _ _ (ap other b.1)))

-- ---- what is read is a body

error_sound : (o : Order) (payload : List ℕ) → AreBytes payload → 20 ≤ length payload → AreFields o (signed (signed_of o payload) ∷ header_fields (header_of o (drop 4 payload))) (take 20 payload)
error_sound o payload fits le =
    subst (λ (a : Answer). AreFields o (answer_fields a) (take 20 payload)) (answer_front o payload)
    (fields_of_read answer_known o (take 20 payload) (bytes_take 20 payload fits) (omega (arith, length-take 20 payload)))

done_sound : (o : Order) (payload : List ℕ) → AreBytes payload → 4 ≤ length payload → AreFields o (signed (signed_of o payload) ∷ []) (take 4 payload)
done_sound o payload fits le =
    subst (λ (z : ℤ). AreFields o (signed z ∷ []) (take 4 payload)) (status_front o payload)
    (fields_of_read status_known o (take 4 payload) (bytes_take 4 payload fits) (omega (arith, length-take 4 payload)))

done_body : (S : Shape) (payload : List ℕ) → AreBytes payload → BodyOf S (done_at S.order payload) form.Done payload
done_body S payload fits =
    elim (cases_lt (length payload) 4) [
      | inl short ↦ rw (lt-ltb (length payload) 4 short) (refl, short, refl)
      | inr long ↦ rw (le-ltb (length payload) 4 long) (refl, long, done_sound S.order payload fits long, refl)
    ]

get_body : (S : Shape) (payload : List ℕ) → 1 ≤ length payload → BodyOf S (get (slice_index payload 0) (drop 1 payload)) form.Get payload
get_body S [] le = absurd (omega arith)
get_body S (x ∷ xs) le = (refl, refl)

object_body : (S : Shape) (g : Family) (payload : List ℕ) (is : Items) → AreBytes payload → head_size g ≤ length payload → Fits S is (drop (head_size g) payload) (context_of g) 0 → BodyOf S (object (head_of S.order g (take (head_size g) payload)) is) (form.Object g) payload
object_body S g payload is fits le f =
    let n = head_size g in
    (refl, (le, any_fields S.order g (take n payload) (bytes_take n payload fits) (omega (arith, length-take n payload, le)), f))

pub body_sound : (S : Shape) (f : Form) (place : ℕ) (payload : List ℕ) (c : BodyVal) (v : ℕ) → AreBytes payload → least_body f ≤ length payload → body_at S f place payload ≡ (Ok c, v) → BodyOf S c f payload
body_sound S form.Error place payload c v fits le e = subst (λ (x : BodyVal). BodyOf S x form.Error payload) (same_ok _ c 0 v e) (refl, le, error_sound S.order payload fits le, refl)
body_sound S form.Done place payload c v fits le e = subst (λ (x : BodyVal). BodyOf S x form.Done payload) (same_ok (done_at S.order payload) c 0 v e) (done_body S payload fits)
body_sound S (form.Object g) place payload c v fits le e =
    let n = head_size g in
    let m = map_ok (object (head_of S.order g (take n payload))) (items_of_region S (context_of g) 0 (place + n) (drop n payload)) c v e in
    subst (λ (x : BodyVal). BodyOf S x (form.Object g) payload) m.3
    (object_body S g payload m.0 fits le (items_sound (length (drop n payload)) S (context_of g) 0 (place + n) (drop n payload) m.0 m.1 (omega arith) (bytes_drop n payload fits) m.2))
body_sound S form.Get place payload c v fits le e = subst (λ (x : BodyVal). BodyOf S x form.Get payload) (same_ok _ c 0 v e) (get_body S payload le)
body_sound S f place payload c v fits le e = subst (λ (x : BodyVal). BodyOf S x f payload) (same_ok _ c 0 v e) (refl, refl)

-- ---- messages

pub some_of : (left : List ℕ) → 16 ≤ length left → left ≢ []
some_of [] h = absurd (omega arith)
some_of (x ∷ xs) h = λ e. absurd cc

three : {a b : Header} {c d : Form} {e f : List ℕ} → a ≡ b → c ≡ d → e ≡ f → ◌≡◌ {A = Header × Form × List ℕ} (a, c, e) (b, d, f)
three p q r = cc

two : {a b : Form} {c d : List ℕ} → a ≡ b → c ≡ d → ◌≡◌ {A = Form × List ℕ} (a, c) (b, d)
two p q = cc

unless_ok : {A : Type 0} (place : ℕ) (r : Option Reason) (o : Outcome A) (x : A) (v : ℕ) → unless place r o ≡ (Ok x, v) → (r ≡ None) × (o ≡ (Ok x, v))
unless_ok place None o x v e = (refl, e)
unless_ok place (Some r) o x v e = absurd (let f = one_result e in cc)

-- the header of a message with these bytes
abbrev pub header_in : MessageVal → List ℕ → Header
header_in m it = record { len = length it; kind = m.kind; flags = m.flags; seq = m.seq; port = m.port }

module _ (S : Shape) where
  -- a message at the front, as the layout has it
  pub record IsMessage (m : MessageVal) (left it rest : List ℕ) : Type 0 where
    pub cut : IsCut S.order 16 4 left it rest
    pub header_is : header_of S.order left ≡ header_in m it
    pub form_is : form_at S.order left ≡ form_of m.kind
    pub payload_is : payload_at S.order left ≡ drop 16 it
    pub sound : broken_message S.order left ≡ None

  pub message_is : (m : MessageVal) (left it pad rest : List ℕ) → IsPiece S.order 16 4 left it pad rest → AreFields S.order (header_fields (header_in m it)) (take 16 it) → least_body (form_of m.kind) ≤ length (drop 16 it) → IsMessage m left it rest
  message_is m left it pad rest p are long =
      let cut = cut_piece S.order 16 4 left it pad rest p in
      let w = sound_within S.order 16 4 left cut.sound in
      let front : take 16 it ≡ take 16 left = ap (take 16) (sym cut.item) ∙ take-take 16 (len_of S.order 4 left) left w.low in
      let head : header_of S.order left ≡ header_in m it = sym (header_front S.order left) ∙ ap (header_of S.order) (sym front) ∙ sym (read_of_fields header_known S.order (header_in m it) (take 16 it) are) in
      let form : form_at S.order left ≡ form_of m.kind = ap (λ (x : Header). form_of x.kind) head in
      let payload : payload_at S.order left ≡ drop 16 it = ap (drop 16) cut.item in
      let least : least_body (form_at S.order left) ≤ length (payload_at S.order left) = subst (λ (x : Form × List ℕ). least_body x.0 ≤ length x.1) (two (sym form) (sym payload)) long in
      record { cut = cut; header_is = head; form_is = form; payload_is = payload; sound = sound_of (broken_frame S.order left) (length (payload_at S.order left)) (least_body (form_at S.order left)) cut.sound least }

  pub messages_fit : (ms : List MessageVal) (place : ℕ) (left : List ℕ) → Layout S ms left → ReadAs (messages_of S place left) ms
  messages_fit [] place left f = (0, messages_none S place left f)
  messages_fit (m ∷ ms) place left f =
      let it = f.0 in
      let pad = f.1 in
      let rest = f.2 in
      let body = body_fit S m.body (form_of m.kind) (place + 16) (drop 16 it) f.5 in
      let is = message_is m left it pad rest f.3 f.4 body.0 in
      let w = sound_within S.order 16 4 left is.cut.sound in
      let message : ReadAs (message_at S place left) m = along _ _ m (ap (λ (x : Header × Form × List ℕ). map_value (message_of x.0) (body_at S x.1 (place + 16) x.2)) (three is.header_is is.form_is is.payload_is)) (map_read (message_of (header_in m it)) _ m.body body.1) in
      let more = subst (λ (xs : List ℕ). ReadAs (messages_of S (place + span_at S.order left) xs) ms) (sym is.cut.rest_is) (messages_fit ms (place + span_at S.order left) rest f.6) in
      along _ _ (m ∷ ms) (messages_step S place left (some_of left w.head) is.sound)
      (then_read (message_at S place left) _ m (m ∷ ms) message (map_read (λ xs. m ∷ xs) _ ms more))

  message_layout : (left : List ℕ) (c : BodyVal) (ms : List MessageVal) → AreBytes left → broken_frame S.order left ≡ None → BodyOf S c (form_at S.order left) (payload_at S.order left) → Layout S ms (drop (span_at S.order left) left) → Layout S (message_of (header_of S.order left) c ∷ ms) left
  message_layout left c ms fits e body more =
      let w = sound_within S.order 16 4 left e in
      let n = len_of S.order 4 left in
      let it = take n left in
      let len : n ≡ length it = omega (arith, length-take n left, w.high) in
      let front : take 16 it ≡ take 16 left = take-take 16 n left w.low in
      let known : AreFields S.order (header_fields (header_of S.order (take 16 it))) (take 16 it) = fields_of_read header_known S.order (take 16 it) (bytes_take 16 it (bytes_take n left fits)) (omega (arith, length-take 16 it, len, w.low)) in
      let same : header_of S.order (take 16 it) ≡ header_of S.order left = ap (header_of S.order) front ∙ header_front S.order left in
      let h = header_of S.order left in
      let fields : AreFields S.order (header_fields (record { len = length it; kind = h.kind; flags = h.flags; seq = h.seq; port = h.port })) (take 16 it) =
      subst (λ (k : ℕ). AreFields S.order (header_fields (record { len = k; kind = h.kind; flags = h.flags; seq = h.seq; port = h.port })) (take 16 it)) len (subst (λ (x : Header). AreFields S.order (header_fields x) (take 16 it)) same known) in
      (it, drop n (take (span_at S.order left) left), drop (span_at S.order left) left, piece_at S.order 16 4 left (omega arith) fits e, fields, body, more)

  pub messages_sound : (n place : ℕ) (left : List ℕ) (ms : List MessageVal) (v : ℕ) → length left ≤ n → AreBytes left → messages_at S n place left ≡ (Ok ms, v) → Layout S ms left
  unfolding messages_at
  messages_sound zero place left ms v h fits e = subst (λ (x : List MessageVal). Layout S x left) (same_ok [] ms 0 v e) (nil_from_length left (omega arith))
  messages_sound (suc n) place [] ms v h fits e = subst (λ (x : List MessageVal). Layout S x []) (same_ok [] ms 0 v e) refl
  messages_sound (suc n) place (b ∷ bs) ms v h fits e =
      let left = b ∷ bs in
      let u = unless_ok place (broken_message S.order left) _ ms v e in
      let s = or_else_none _ _ u.0 in
      let w = sound_within S.order 16 4 left s.0 in
      let t = then_ok (message_at S place left) _ ms v u.1 in
      let m = map_ok (message_of (header_of S.order left)) _ t.0 t.1 t.3 in
      let r = map_ok (λ xs. t.0 ∷ xs) _ ms t.2 t.4 in
      let payload = payload_at S.order left in
      let long = long_of (length payload) (least_body (form_at S.order left)) s.1 in
      let body = body_sound S (form_at S.order left) (place + 16) payload m.0 m.1 (bytes_drop 16 (take (len_of S.order 4 left) left) (bytes_take (len_of S.order 4 left) left fits)) long m.2 in
      let more = messages_sound n (place + span_at S.order left) (drop (span_at S.order left) left) r.0 r.1 (rest_shorter S.order 16 4 n left (omega arith) w h) (bytes_drop (span_at S.order left) left fits) r.2 in
      subst (λ (x : List MessageVal). Layout S x left) (ap (λ (y : MessageVal). y ∷ r.0) m.3 ∙ r.3) (message_layout left m.0 r.0 fits s.0 body more)
