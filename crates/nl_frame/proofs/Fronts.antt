-- The message at the front of bytes.
use Rattle.nl_frame.proofs.Common.{◌≡◌, ℕ, ◌+◌, ◌-◌, ◌*◌, ◌^◌, ◌<◌, ◌≤◌, min, cond, ltb, Bool, true, false, List, length, take, drop, Option, Some, None, Ok, refl, ap, subst, ◌∙◌, arith, length-drop, le-ltb, lt-ltb, ltb-false, take_all, take_rest, LONGEST_REGION, Order, Reason, Shape, aligned, len_of, or_else, IsWithin, span_at_least, payload_is, payload_length, Frame, Form, header_of, form_of, least_body, form_at, span_at, payload_at, broken_frame, broken_message, IsFrame}
use Rattle.std.proofs.Math.Nat.{mul-le-mul_left}
use Rattle.nl_attr.specs.declared.fault.Reason.TheVariants.{ShortBody}
use Rattle.nl_attr.specs.Walk.{HeadIs}
use Rattle.nl_attr.proofs.Lemmas.Scan.{span_within}

-- how many bytes lie behind so many
pub length-from : (n : ℕ) (bytes : List ℕ) → length (take (length bytes - n) (drop n bytes)) ≡ length bytes - n
length-from n bytes = ap (length {A = ℕ}) (take_rest bytes n) ∙ length-drop n bytes

pub sound_of : (a : Option Reason) (n m : ℕ) → a ≡ None → m ≤ n → or_else a (cond (ltb n m) (Some ShortBody) None) ≡ None
sound_of a n m e h = rw (e, le-ltb n m h) refl

short_of : (a : Option Reason) (n m : ℕ) → a ≡ None → n < m → or_else a (cond (ltb n m) (Some ShortBody) None) ≡ Some ShortBody
short_of a n m e h = rw (e, lt-ltb n m h) refl

pub long_of : (n m : ℕ) → cond (ltb n m) (Some ShortBody) None ≡ None → m ≤ n
long_of n m e = ltb-false _ _ (test (ltb n m) e) where
  test : (b : Bool) → ◌≡◌ {A = Option Reason} (cond b (Some ShortBody) None) None → b ≡ false
  test true e = absurd cc
  test false e = refl

pub front_short : (o : Order) (left payload : List ℕ) (len : ℕ) (form : Form) → HeadIs o 16 4 left (Ok len) → form ≡ form_at o left → payload ≡ take (len - 16) (drop 16 left) → length payload < least_body form → broken_message o left ≡ Some ShortBody
front_short o left payload len form k f is h =
    let p = is ∙ payload_is o 16 4 len left k.2 k.3 in
    short_of (broken_frame o left) (length (payload_at o left)) (least_body (form_at o left)) k.0 (subst (λ (x : List ℕ). length x < least_body (form_at o left)) p (subst (λ (x : Form). length payload < least_body x) f h))

pub frame_of : (o : Order) (left : List ℕ) (f : Frame) (len : ℕ) → HeadIs o 16 4 left (Ok len) → f.header ≡ header_of o left → f.form ≡ form_of f.header.kind → f.payload.now ≡ take (len - 16) (drop 16 left)
    → f.span ≡ min (aligned len) (length left) → f.rest.now ≡ take (length left - f.span) (drop f.span left) → least_body f.form ≤ length f.payload.now → IsFrame o left f
frame_of o left f len k head form payload span rest least =
    let w : IsWithin o 16 4 left = record { head = k.1; low = omega (arith, k.2, k.3); high = omega (arith, k.2, k.4) } in
    let p = payload ∙ payload_is o 16 4 len left k.2 k.3 in
    let t : f.form ≡ form_at o left = form ∙ ap (λ h. form_of h.kind) head in
    let s : f.span ≡ span_at o left = span ∙ ap (λ (n : ℕ). min (aligned n) (length left)) k.2 in
    let high : span_at o left ≤ length left = span_within o 4 left in
    let low : len_of o 4 left ≤ span_at o left = span_at_least o 4 left w.high in
    let size : length f.payload.now + 16 ≡ len_of o 4 left = ap (λ (x : List ℕ). length x + 16) p ∙ payload_length o 16 4 left w in
    record {
      sound = sound_of (broken_frame o left) (length (payload_at o left)) (least_body (form_at o left)) k.0 (subst (λ (x : List ℕ). least_body (form_at o left) ≤ length x) p (subst (λ (x : Form). least_body x ≤ length f.payload.now) t least));
      header = head;
      form = t;
      span = s;
      payload = p;
      rest = rest ∙ ap (λ (n : ℕ). take (length left - n) (drop n left)) s ∙ take_all (length left - span_at o left) (drop (span_at o left) left) (omega (arith, length-drop (span_at o left) left));
      least = least;
      inside = omega (arith, size, low, s);
      within = omega (arith, high, s);
    }

-- ---- what is visited keeps its bound

pub whole_bound : (k v m n : ℕ) → v ≤ k * m → m ≤ n → v ≤ k * n
whole_bound k v m n a h = omega (arith, a, mul-le-mul_left k h)

-- this is left of the datagram from a place on, after so many visits
pub record Reaches (S : Shape) (d : List ℕ) (n place : ℕ) (left : List ℕ) : Type 0 where
  pub size : place + length left ≡ length d
  pub bound : n ≤ (S.depth + 1) * place

module _ {S : Shape} {d : List ℕ} {n place : ℕ} {left : List ℕ} (now : Reaches S d n place left) where
  pub here_whole : n ≤ (S.depth + 1) * length d
  here_whole = whole_bound (S.depth + 1) n place (length d) now.bound (omega (arith, now.size))

  -- the visits with those of the message there
  module _ (f : Frame) (is : IsFrame S.order left f) (v : ℕ) (few : v ≤ (S.depth + 1) * length f.payload.now) where
    pub reaches_on : Reaches S d (n + v) (place + f.span) f.rest.now
    reaches_on =
        let inside : length f.payload.now ≤ f.span = omega (arith, is.inside) in
        record {
          size = omega (arith, is.within, now.size, is.span, ap (length {A = ℕ}) is.rest, length-drop (span_at S.order left) left);
          bound = omega (arith, now.bound, few, mul-le-mul_left (S.depth + 1) inside);
        }

    pub sum_whole : n + v ≤ (S.depth + 1) * length d
    sum_whole = whole_bound (S.depth + 1) (n + v) (place + f.span) (length d) reaches_on.bound (omega (arith, is.within, now.size))

    pub sum_small : S.depth ≤ 32 → length d ≤ LONGEST_REGION → n + v < 2 ^ 64
    sum_small low size = omega (arith, sum_whole, mul-le-mul_left (S.depth + 1) size)
