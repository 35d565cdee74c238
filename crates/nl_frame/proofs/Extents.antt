-- What is measured of messages, one after the other.
use Rattle.nl_frame.proofs.Common.{◌≡◌, ℕ, ◌+◌, ◌≤◌, Bool, true, false, cond, ltb, ◌||◌, List, [], ◌∷◌, Option, Some, None, IfSome, refl, ap, ◌∙◌, subst, arith, inl, inr, ltb-true, ltb-false, ◌⊎◌, ◌↔◌, IsTrue, LONGEST_REGION, aligned, form_of, BodyVal, MessageVal, written_len, IsMismatchedBody, IsMismatched, IsDeepBody, IsDeep, HasLong, IsLong, IsBodyLen, IsMessageLen, IsSized, IsLen}
use Rattle.nl_attr.specs.declared.measuring.Extent.{Extent}
use Rattle.nl_attr.specs.Measured.{region_len, empty_extent, join}

-- what is measured of whole, where rest is left
abbrev pub IsPart : List MessageVal → List MessageVal → Option ℕ → Type 0
IsPart whole rest None = IsLong whole
IsPart whole rest (Some n) = (written_len whole ≡ n + written_len rest) × (n ≤ LONGEST_REGION) × (HasLong whole → HasLong rest) × (HasLong rest → HasLong whole) × (IsSized rest → IsSized whole)

pub record IsMeasuring (D : ℕ) (whole rest : List MessageVal) (all : Extent) : Type 0 where
  pub mismatch : IsMismatched whole → IsMismatched rest
  pub mismatched : IsMismatched rest → IsMismatched whole
  pub deep : IsDeep whole D → IsTrue all.deep ⊎ IsDeep rest D
  pub deeper : IsTrue all.deep ⊎ IsDeep rest D → IsDeep whole D
  pub part : IsPart whole rest all.len

pub begun : (D : ℕ) (ms : List MessageVal) → IsMeasuring D ms ms empty_extent
begun D ms =
    record {
      mismatch = λ h. h;
      mismatched = λ h. h;
      deep = λ h. inr h;
      deeper = λ h. elim h [ inl t ↦ absurd (cc) | inr d ↦ d ];
      part = (omega arith, omega arith, λ h. h, λ h. h, λ h. h);
    }

part_on : (m : MessageVal) (whole rest : List MessageVal) (a b : Option ℕ) → IsPart whole (m ∷ rest) a → IsMessageLen m.body b → IsPart whole rest (region_len a b)
part_on m whole rest None b p q = p
part_on m whole rest (Some a) None p q = elim q [ inl long ↦ inr (p.3 (inl long)) | inr big ↦ inl (omega (arith, p.0, big)) ]
part_on m whole rest (Some a) (Some b) p q =
    elim (ltb LONGEST_REGION (a + b)) as (λ t. ltb LONGEST_REGION (a + b) ≡ t → IsPart whole rest (cond t None (Some (a + b)))) [
      | true ↦ λ e. inl (omega (arith, ltb-true _ _ e, p.0, q.0))
      | false ↦ λ e. (omega (arith, p.0, q.0), ltb-false _ _ e, λ h. elim (p.2 h) [ inl x ↦ absurd (q.2 x) | inr y ↦ y ], λ h. p.3 (inr h), λ s. p.4 (q.3, s))
    ] refl

or_true : (a b : Bool) → IsTrue (a || b) → IsTrue a ⊎ IsTrue b
or_true true b h = inl h
or_true false b h = inr h

true_or : (a b : Bool) → IsTrue a ⊎ IsTrue b → IsTrue (a || b)
true_or true b h = refl
true_or false b h = elim h [ inl x ↦ absurd (cc) | inr y ↦ y ]

-- one more message
pub measured_on : (D : ℕ) (m : MessageVal) (whole rest : List MessageVal) (all e new : Extent) → Some new ≡ join (Some all) (Some e) → (IsMismatchedBody m.body (form_of m.kind) → ⊥) → IsTrue e.deep ↔ IsDeepBody m.body D → IsMessageLen m.body e.len
    → IsMeasuring D whole (m ∷ rest) all → IsMeasuring D whole rest new
measured_on D m whole rest all e new is matched deep len h =
    let same : record { deep = all.deep || e.deep; len = region_len all.len e.len } ≡ new = cc in
    subst (λ (x : Extent). IsMeasuring D whole rest x) same (
    record {
      mismatch = λ x. elim (h.mismatch x) [ inl y ↦ absurd (matched y) | inr y ↦ y ];
      mismatched = λ x. h.mismatched (inr x);
      deep = λ x. elim (h.deep x) [ inl y ↦ inl (true_or all.deep e.deep (inl y)) | inr y ↦ elim y [ inl z ↦ inl (true_or all.deep e.deep (inr (deep.1 z))) | inr z ↦ inr z ] ];
      deeper = λ x. elim x [ inl y ↦ elim (or_true all.deep e.deep y) [ inl z ↦ h.deeper (inl z) | inr z ↦ h.deeper (inr (inl (deep.0 z))) ] | inr y ↦ h.deeper (inr (inr y)) ];
      part = part_on m whole rest all.len e.len h.part len;
    }
    )

-- nothing is left
pub whole_deep : (D : ℕ) (whole : List MessageVal) (all : Extent) → IsMeasuring D whole [] all → IsTrue all.deep ↔ IsDeep whole D
whole_deep D whole all h = (λ x. h.deeper (inl x), λ x. elim (h.deep x) [ inl y ↦ y | inr y ↦ absurd y ])

all_len : (whole : List MessageVal) (o : Option ℕ) → IsPart whole [] o → IsLen whole o
all_len whole None p = p
all_len whole (Some n) p = (omega (arith, p.0), p.1, p.2, p.4 tt)

pub whole_len : (D : ℕ) (whole : List MessageVal) (all : Extent) → IsMeasuring D whole [] all → IsLen whole all.len
whole_len D whole all h = all_len whole all.len h.part

-- there is no length exactly where something is too long
len_is_long : (ms : List MessageVal) (o : Option ℕ) → IsLen ms o → (o ≡ None) ↔ IsLong ms
len_is_long ms None l = (λ e. l, λ long. refl)
len_is_long ms (Some n) l = (λ e. absurd (cc), λ long. absurd (short long)) where
  short : IsLong ms → ⊥
  short (inl above) = omega (arith, above, l.0, l.1)
  short (inr long) = l.2 long

pub lens_are_long : (ms : List MessageVal) (o : Option Extent) → IfSome o (λ e. IsLen ms e.len) → IfSome o (λ e. (e.len ≡ None) ↔ IsLong ms)
lens_are_long ms None l = tt
lens_are_long ms (Some e) l = len_is_long ms e.len l

-- a message, by the length of its body
pub message_len : (c : BodyVal) (o : Option ℕ) (n m : ℕ) → IsBodyLen c o → o ≡ Some n → m ≡ aligned (16 + n) → IsMessageLen c (Some m)
message_len c o n m h is e =
    let k = subst (IsBodyLen c) is h in
    (e ∙ ap (λ n. aligned (16 + n)) k.0, omega (arith, e, k.1), k.2, k.3)
