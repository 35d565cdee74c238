-- A request that is put: what was put holds its message.
use Rattle.nl_request.proofs.Common.{◌≡◌, ℕ, ◌<◌, List, [], ◌∷◌, ◌++◌, Option, Some, None, Result, Ok, Err, OnOk, refl, sym, ap, subst, ◌∙◌, inl, inr, arith, append-nil, NUMBERS, Val, bytes, list, hops, Items, no_items, item, HopItems, no_hops, hop, holds_of, IsMismatchedVal, IsRangedVal, IsRanged, IsRangedHops, AnyHead, context_of, family_of, Built, answer, no_flags, Call, close, end, IsCall, put_by_all, run, calls_of_val, calls_of_items, calls_of_hops, calls_of_body, with_message, and_message, before, runs_hold, Part, items_of, request}
use Rattle.std.specs.List.{AllByRecursion}
use Rattle.nl_attr.specs.declared.tree.AttrFlags.{AttrFlags}
use Rattle.nl_attr.specs.declared.tree.Ctx.{Ctx}
use Rattle.nl_attr.specs.Proper as attrs
use Rattle.nl_route.specs.declared.family.Family.{Family}
use Rattle.nl_route.specs.declared.family.Verb.TheVariants.{New, Del}
use Rattle.nl_route.proofs.Families.{type_says}
use Rattle.nl_frame.specs.declared.building.refusal.BuildError.{BuildError}
use Rattle.nl_frame.specs.declared.form.Form.TheVariants as form
use Rattle.nl_frame.specs.Form.{form_of, form_for}
use Rattle.nl_frame.specs.Limits.{Bounds}
use Rattle.nl_frame.specs.Message.{MessageVal}
use Rattle.nl_frame.specs.Proper.{IsMismatched}
use Rattle.nl_frame.specs.Building as building
use Rattle.nl_frame.specs.Draft.{Draft, Holds, message}
use Rattle.nl_frame.specs.Draft as draft
use Rattle.nl_frame.proofs.Trees.{calls_put}
use Rattle.nl_request.specs.declared.operation.Operation.{Operation}
use Rattle.nl_request.specs.declared.operation.Operation.TheVariants.{Add, Replace, Change, Append, Prepend, Set, Delete}
use Rattle.nl_request.specs.Operations.{flags_of, type_of}

-- ---- the numbers of the calls are in the ranges of their types

all_both : (xs ys : List Call) → AllByRecursion IsCall xs → AllByRecursion IsCall ys → AllByRecursion IsCall (xs ++ ys)
all_both [] ys a b = b
all_both (x ∷ xs) ys a b = (a.0, all_both xs ys a.1 b)

mutual
  val_calls : (n : ℕ) (f : AttrFlags) (v : Val) → IsRangedVal v → AllByRecursion IsCall (calls_of_val n f v)
  val_calls n f (bytes bs) r = (tt, tt)
  val_calls n f (list is) r = (tt, all_both (calls_of_items is) (close ∷ []) (items_calls is r) (tt, tt))
  val_calls n f (hops hs) r = (tt, all_both (calls_of_hops hs) (close ∷ []) (hops_calls hs r) (tt, tt))

  items_calls : (is : Items) → IsRanged is → AllByRecursion IsCall (calls_of_items is)
  items_calls no_items r = tt
  items_calls (item n f v more) r = all_both (calls_of_val n f v) (calls_of_items more) (val_calls n f v r.0) (items_calls more r.1)

  hops_calls : (hs : HopItems) → IsRangedHops hs → AllByRecursion IsCall (calls_of_hops hs)
  hops_calls no_hops r = tt
  hops_calls (hop f c i is more) r = (r.0, all_both (calls_of_items is) (close ∷ calls_of_hops more) (items_calls is r.1) (tt, hops_calls more r.2))

-- ---- each part may stand where it is put

-- a part of these attributes: its number has 14 bits, and it holds what its number says
abbrev pub IsPart : Ctx → Part → Type 0
IsPart c None = Unit {0}
IsPart c (Some p) = (p.0 < NUMBERS) × (IsMismatchedVal p.1 (holds_of c p.0 no_flags) → ⊥) × IsRangedVal p.1

abbrev pub AreParts : Ctx → List Part → Type 0
AreParts c ps = AllByRecursion (IsPart c) ps

pub matched : (c : Ctx) (ps : List Part) → AreParts c ps → attrs.IsMismatched (items_of ps) c → ⊥
matched c [] a m = m
matched c (None ∷ ps) a m = matched c ps a.1 m
matched c (Some p ∷ ps) a (inl x) = let l = a.0.0 in omega (arith, x, l)
matched c (Some p ∷ ps) a (inr (inl x)) = a.0.1 x
matched c (Some p ∷ ps) a (inr (inr x)) = matched c ps a.1 x

pub ranged : (c : Ctx) (ps : List Part) → AreParts c ps → IsRanged (items_of ps)
ranged c [] a = tt
ranged c (None ∷ ps) a = ranged c ps a.1
ranged c (Some p ∷ ps) a = (a.0.2, ranged c ps a.1)

-- ---- the message's type and its flags

pub type_form : (op : Operation) (g : Family) → form_of (type_of op g) ≡ form.Object g
type_form Add g = ap (form_for (type_of Add g)) (type_says g New refl)
type_form Replace g = ap (form_for (type_of Add g)) (type_says g New refl)
type_form Change g = ap (form_for (type_of Add g)) (type_says g New refl)
type_form Append g = ap (form_for (type_of Add g)) (type_says g New refl)
type_form Prepend g = ap (form_for (type_of Add g)) (type_says g New refl)
type_form Set g = ap (form_for (type_of Add g)) (type_says g New refl)
type_form Delete g = ap (form_for (type_of Delete g)) (type_says g Del refl)

-- ---- answers

-- what holds where nothing is refused
pub on_ok : {P : Type 0} (r : Result (Unit {0}) BuildError) (x : Option BuildError) → r ≡ answer x → (x ≡ None → P) → OnOk r P
on_ok (Ok u) None e f = f refl
on_ok (Ok u) (Some y) e f = absurd (cc)
on_ok (Err y) x e f = tt

-- nothing is refused
from_ok : {P : Type 0} (r : Result (Unit {0}) BuildError) (x : Option BuildError) → r ≡ answer x → x ≡ None → OnOk r P → P
from_ok (Ok u) x e f p = p
from_ok (Err y) None e f p = absurd (cc)
from_ok (Err y) (Some z) e f p = absurd (cc)

-- ---- the message

module _ (op : Operation) (seq : ℕ) (h : AnyHead) (ps : List Part) where
  abbrev m : MessageVal
  m = request op seq h ps

  abbrev cs : List Call
  cs = calls_of_body m m.body

  is_matched : AreParts (context_of (family_of h)) ps → IsMismatched (m ∷ []) → ⊥
  is_matched a (inl (inl x)) = x (type_form op (family_of h))
  is_matched a (inl (inr x)) = matched (context_of (family_of h)) ps a x
  is_matched a (inr x) = x

  abbrev Opens : Built → Built → ℕ → ℕ → AnyHead → Type 0
  Opens b begun kind flags k = (d : Draft) (L : Bounds) → Holds L b d → Holds L begun (draft.open_head d (message kind flags seq 0 k))

  -- a request that isn't refused is put, behind what was put before
  pub request_holds : AreParts (context_of (family_of h)) ps → (b begun ended : Built) {kind flags : ℕ} {k : AnyHead} → kind ≡ type_of op (family_of h) → flags ≡ flags_of op → k ≡ h
      → (r : Result (Unit {0}) BuildError) → begun ≡ building.begin b kind flags seq 0 k → r ≡ answer begun.refusal → OnOk r (Opens b begun kind flags k) → ended ≡ with_message b m → ended.refusal ≡ None
      → (d : Draft) (L : Bounds) → Holds L b d → Holds L ended (and_message d m)
  request_holds a b begun ended {kind} {flags} {k} e f g r starts answers opens built none d L holds =
      let rest = calls_of_items (items_of ps) ++ (end ∷ []) in
      let calls : AllByRecursion IsCall rest = all_both (calls_of_items (items_of ps)) (end ∷ []) (items_calls (items_of ps) (ranged (context_of (family_of h)) ps a)) (tt, tt) in
      let same : begun ≡ building.begin b m.kind m.flags seq 0 h =
      starts ∙ ap (λ (n : ℕ). building.begin b n flags seq 0 k) e ∙ ap (λ (n : ℕ). building.begin b m.kind n seq 0 k) f ∙ ap (λ (x : AnyHead). building.begin b m.kind m.flags seq 0 x) g in
      let ends : ended ≡ run begun rest = built ∙ ap (λ (x : Built). run x rest) (sym same) in
      let fine : (run begun rest).refusal ≡ None = ap (λ (x : Built). x.refusal) (sym ends) ∙ none in
      let opened = from_ok r begun.refusal answers (before begun rest fine) opens d L holds in
      let at : Holds L begun (draft.open_head d (message m.kind m.flags seq 0 h)) =
      subst (λ (x : AnyHead). Holds L begun (draft.open_head d (message m.kind m.flags seq 0 x))) g
      (subst (λ (n : ℕ). Holds L begun (draft.open_head d (message m.kind n seq 0 k))) f (subst (λ (n : ℕ). Holds L begun (draft.open_head d (message n flags seq 0 k))) e opened)) in
      let put : put_by_all d cs ≡ and_message d m = ap (put_by_all d) (sym (append-nil cs)) ∙ calls_put d (m ∷ []) at.layers.0.head.0 (is_matched a) in
      subst (λ (x : Built). Holds L x (and_message d m)) (sym ends)
      (subst (λ (x : Draft). Holds L (run begun rest) x) put (runs_hold begun (draft.open_head d (message m.kind m.flags seq 0 h)) L rest calls at fine))
