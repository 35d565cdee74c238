-- How many bytes messages are written as, and that they are the layout of these bytes.
use Rattle.nl_frame.proofs.Common.{◌≡◌, ◌≢◌, ℕ, ◌+◌, ◌-◌, ◌<◌, ◌≤◌, List, [], ◌∷◌, ◌++◌, length, take, drop, replicate, Some, None, refl, sym, ap, subst, ◌∙◌, arith, inl, inr, append_assoc, length-append, cases_eq, take_at, drop_at, LONGEST_REGION, Order, Shape, aligned, num, Fits, with_padding, items_len, length-padded, length-items, made, written_fits, Field, number, signed, AreFields, AreRanged, size_of, length-written, written_has_fields, is_family, size_of_head, head_size, context_of, type_of, family_of, fields_of, Form, header_fields, form_for, form_of, BodyVal, error, done, object, get, MessageVal, BodyOf, Layout, body_len, header_for, body_written, message_item, written, written_len, IsMismatchedBody, IsMismatched, IsDeepBody, IsDeep, IsLongBody, HasLong, IsProper, IsRangedBody, IsRanged}
use Rattle.nl_attr.specs.Written as attrs
use Rattle.nl_route.specs.Fields as fields
use Rattle.nl_route.specs.declared.family.Verb.TheVariants.{New}
use Rattle.nl_route.specs.Types.{route_type}
use Rattle.nl_frame.specs.declared.form.Form.TheVariants as form

-- ---- lengths

module _ (o : Order) where
  -- fields and what is behind them
  length-front : (fs : List Field) (tail : List ℕ) (n k : ℕ) → size_of fs ≡ n → length tail ≡ k → length (fields.written o fs ++ tail) ≡ n + k
  length-front fs tail n k e f = omega (arith, length-append (fields.written o fs) tail, length-written o fs, e, f)

  pub length-body : (c : BodyVal) → length (body_written o c) ≡ body_len c
  length-body (error z h tail) = length-front (signed z ∷ header_fields h) tail 20 (length tail) refl refl
  length-body (done (Some z) tail) = length-front (signed z ∷ []) tail 4 (length tail) refl refl
  length-body (object h is) = length-front (fields_of h) (attrs.written o is) (head_size (family_of h)) (items_len is) (size_of_head h) (length-items o is)
  length-body (get n tail) = omega arith
  length-body c = refl

  pub length-message : (m : MessageVal) → length (message_item o m) ≡ 16 + body_len m.body
  length-message m = length-front (header_fields (header_for m)) (body_written o m.body) 16 (body_len m.body) refl (length-body m.body)

  pub written_length : (ms : List MessageVal) → length (written o ms) ≡ written_len ms
  written_length [] = refl
  written_length (m ∷ ms) =
      let it = message_item o m in
      length-append (with_padding it) (written o ms) ∙ ap (λ k. k + length (written o ms)) (length-padded it ∙ ap aligned (length-message m)) ∙ ap (λ k. aligned (16 + body_len m.body) + k) (written_length ms)

-- ---- forms that aren't different are the same

-- a type that has this form
abbrev kind_for : Form → ℕ
kind_for form.Noop = 1
kind_for form.Error = 2
kind_for form.Done = 3
kind_for form.Overrun = 4
kind_for (form.Object g) = type_of g New
kind_for form.Get = 18
kind_for form.Other = 0

form_of-kind_for : (f : Form) → form_of (kind_for f) ≡ f
unfolding route_type
form_of-kind_for (form.Object g) = ap (form_for (type_of g New)) (is_family g).new
form_of-kind_for f = refl

pub same_form : (f g : Form) → (f ≢ g → ⊥) → f ≡ g
same_form f g h = elim (cases_eq (kind_for f) (kind_for g)) [
  | inl e ↦ sym (form_of-kind_for f) ∙ ap form_of e ∙ form_of-kind_for g
  | inr ne ↦ absurd (h (λ e. ne (ap kind_for e)))
]

-- ---- fields at the front

record IsFront (o : Order) (fs : List Field) (n : ℕ) (tail bytes : List ℕ) : Type 0 where
  pub long : n ≤ length bytes
  pub are : AreFields o fs (take n bytes)
  pub rest : drop n bytes ≡ tail

front_written : (o : Order) (fs : List Field) (n : ℕ) (tail : List ℕ) → size_of fs ≡ n → AreRanged fs → IsFront o fs n tail (fields.written o fs ++ tail)
front_written o fs n tail e r =
    let front = fields.written o fs in
    let len : length front ≡ n = length-written o fs ∙ e in
    record {
      long = omega (arith, len, length-append front tail);
      are = subst (AreFields o fs) (sym (take_at front tail n len)) (written_has_fields o fs r);
      rest = drop_at front tail n len;
    }

-- ---- bodies

pub body_writes : (S : Shape) (c : BodyVal) (f : Form) → IsRangedBody c → (IsMismatchedBody c f → ⊥) → (IsDeepBody c S.depth → ⊥) → (IsLongBody c → ⊥) → BodyOf S c f (body_written S.order c)
body_writes S (error z h tail) f r m d s =
    let front = front_written S.order (signed z ∷ header_fields h) 20 tail refl r in
    (same_form f form.Error m, front.long, front.are, front.rest)
body_writes S (done None tail) f r m d s = (same_form f form.Done (λ x. m (inl x)), (let h : 4 ≤ length tail → ⊥ = λ x. m (inr x) in omega (arith, h)), refl)
body_writes S (done (Some z) tail) f r m d s =
    let front = front_written S.order (signed z ∷ []) 4 tail refl (r, tt) in
    (same_form f form.Done m, front.long, front.are, front.rest)
body_writes S (object h is) f r m d s =
    let g = family_of h in
    let front = front_written S.order (fields_of h) (head_size g) (attrs.written S.order is) (size_of_head h) r.0 in
    let fit = written_fits S (context_of g) 0 is (record { matched = λ x. m (inr x); shallow = d; short = s }) r.1 in
    (same_form f (form.Object g) (λ x. m (inl x)), (front.long, front.are, subst (λ (xs : List ℕ). Fits S is xs (context_of g) 0) (sym front.rest) fit))
body_writes S c f r m d s = (same_form f _ m, refl)

-- ---- messages

pub not_above : (a b : ℕ) → (a < b → ⊥) → b ≤ a
not_above a b h = omega (arith, h)

module _ (S : Shape) where
  messages_write : (ms : List MessageVal) → IsRanged ms → (IsMismatched ms → ⊥) → (IsDeep ms S.depth → ⊥) → (HasLong ms → ⊥) → written_len ms ≤ LONGEST_REGION → Layout S ms (written S.order ms)
  messages_write [] r m d s top = refl
  messages_write (x ∷ ms) r m d s top =
      let o = S.order in
      let it = message_item o x in
      let payload = body_written o x.body in
      let h = header_for x in
      let len : length it ≡ 16 + body_len x.body = length-message o x in
      let high : 16 + body_len x.body ≤ LONGEST_REGION = omega (arith, top) in
      let front = front_written o (header_fields h) 16 payload refl (omega (arith, high), (r.0, (r.1, (r.2, (r.3, tt))))) in
      let behind = fields.written o (number 2 x.kind ∷ number 2 x.flags ∷ number 4 x.seq ∷ number 4 x.port ∷ []) in
      let says : it ≡ num (length it) 4 o ++ (behind ++ payload) = append_assoc (num (16 + body_len x.body) 4 o) behind payload ∙ ap (λ k. num k 4 o ++ (behind ++ payload)) (sym len) in (
        it,
        replicate (aligned (length it) - length it) 0,
        written o ms,
        made o 16 4 it (behind ++ payload) (written o ms) says front.long (omega (arith, len, high)),
        subst (λ (k : ℕ). AreFields o (header_fields (record { len = k; kind = x.kind; flags = x.flags; seq = x.seq; port = x.port })) (take 16 it)) (sym len) front.are,
        subst (λ (xs : List ℕ). BodyOf S x.body (form_of x.kind) xs) (sym front.rest) (body_writes S x.body (form_of x.kind) r.4 (λ y. m (inl y)) (λ y. d (inl y)) (λ y. s (inl y))),
        messages_write ms r.5 (λ y. m (inr y)) (λ y. d (inr y)) (λ y. s (inr y)) (omega (arith, top)),
      )

  -- what is proper is the layout of what it is written as
  pub written_has_layout : (ms : List MessageVal) → IsProper ms S.depth → IsRanged ms → Layout S ms (written S.order ms)
  written_has_layout ms p r = messages_write ms r p.matched p.shallow (λ x. p.short (inr x)) (not_above LONGEST_REGION (written_len ms) (λ x. p.short (inl x)))
