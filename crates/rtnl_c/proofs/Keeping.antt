-- A builder that C keeps: its headers, and the way back.
use Rattle.std.specs.Prelude.{IfOk, IfSome, MatchOption}
use Rattle.rtnl_c.proofs.Common.{get_or-set_same, get_or-set_other, Order, BuildError, Built, AreOpen, levels_in, flags_in, num, number_in, order_of, put, top, BuilderTop, Bounds, AreLimits, Opens, Parts, heads_after, left_with, parts_with, over, order_in, ◌≡◌, ◌≢◌, ◌==◌, ℕ, ◌+◌, ◌-◌, ◌<◌, ◌≤◌, ◌⊎◌, List, [], ◌∷◌, length, slice_index_or, slice_set, Option, Some, None, Result, Ok, Err, refl, sym, ap, subst, ◌∙◌, arith, inl, inr, Little, Big, OpenHead, AreWithin, left}
use Rattle.std.proofs.Math.Nat.{eq-or-lt_of_le}
use Rattle.nl_attr.specs.declared.tree.Ctx.TheVariants.{Link, LinkInfo, Addr, Route, Metrics, Neigh, Rule, Plain}
use Rattle.nl_attr.specs.declared.tree.Content.{Content}
use Rattle.nl_attr.specs.declared.tree.Content.TheVariants as content
use Rattle.nl_frame.proofs.Opens.{are_open_more}
use Rattle.rtnl_c.specs.declared.building.BuilderState.{BuilderState}
use Rattle.rtnl_c.specs.Building.{AreKept, IsKept, IsTopOf, Calls, on_none, calls, content_in, content_number, left_closed, order_by, order_number, refusal_number, with_opened}

-- ---- numbers

pub order_back : (o : Order) → order_by (order_number o) ≡ Some o
order_back Little = refl
order_back Big = refl

pub content_back : (c : Content) → content_in (content_number c) ≡ Some c
content_back content.Bytes = refl
content_back content.Hops = refl
content_back (content.List Link) = refl
content_back (content.List LinkInfo) = refl
content_back (content.List Addr) = refl
content_back (content.List Route) = refl
content_back (content.List Metrics) = refl
content_back (content.List Neigh) = refl
content_back (content.List Rule) = refl
content_back (content.List Plain) = refl

pub content_said : (n : ℕ) (c : Content) → content_in n ≡ Some c → n ≡ content_number c
content_said n content.Bytes e = grind arith
content_said n content.Hops e = grind arith
content_said n (content.List Link) e = grind arith
content_said n (content.List LinkInfo) e = grind arith
content_said n (content.List Addr) e = grind arith
content_said n (content.List Route) e = grind arith
content_said n (content.List Metrics) e = grind arith
content_said n (content.List Neigh) e = grind arith
content_said n (content.List Rule) e = grind arith
content_said n (content.List Plain) e = grind arith

-- ---- headers that are kept

-- two headers of one place and one content are one
same_head : (h g : OpenHead) → h.start ≡ g.start → h.content ≡ g.content → h ≡ g
same_head h g e f = ap (λ s. record h { start = s }) e ∙ ap (λ (k : Content). record g { content = k }) f

same_content : (k l : Content) → content_number k ≡ content_number l → k ≡ l
same_content k l e =
    let both : Some k ≡ Some l = sym (content_back k) ∙ ap content_in e ∙ content_back l in
    cc

module _ (ss cs : List ℕ) where
  -- so many headers are kept in one way
  pub same_heads : (hs gs : List OpenHead) → length hs ≡ length gs → AreKept ss cs hs → AreKept ss cs gs → hs ≡ gs
  same_heads [] [] e a b = refl
  same_heads [] (g ∷ gs) e a b = absurd (omega (arith, e))
  same_heads (h ∷ hs) [] e a b = absurd (omega (arith, e))
  same_heads (h ∷ hs) (g ∷ gs) e a b =
      let len : length hs ≡ length gs = omega (arith, e) in
      let start : h.start ≡ g.start = sym a.0 ∙ ap (λ k. slice_index_or ss k 0) len ∙ b.0 in
      let number : content_number h.content ≡ content_number g.content = sym a.1 ∙ ap (λ k. slice_index_or cs k 0) len ∙ b.1 in
      ap (λ (x : OpenHead). x ∷ hs) (same_head h g start (same_content h.content g.content number)) ∙ ap (λ (xs : List OpenHead). g ∷ xs) (same_heads hs gs len a.2 b.2)

  -- the headers up to one of them
  pub record IsAt (D n i : ℕ) : Type 0 where
    pub head : OpenHead
    pub outer : List OpenHead
    pub count : length outer ≡ i
    pub kept : AreKept ss cs (head ∷ outer)
    pub open_heads : AreOpen D n (head ∷ outer)

  pub at_place : (D n : ℕ) (hs : List OpenHead) (i : ℕ) → i < length hs → AreKept ss cs hs → AreOpen D n hs → IsAt D n i
  at_place D n [] i lt a o = absurd (omega (arith, lt))
  at_place D n (h ∷ hs) i lt a o = by_case (eq-or-lt_of_le (omega (arith, lt))) (λ l. at_place D n hs i l a.2 o.2) where
    by_case : (i ≡ length hs) ⊎ (i < length hs) → (i < length hs → IsAt D n i) → IsAt D n i
    by_case (inl e) further = record { head = h; outer = hs; count = sym e; kept = a; open_heads = o }
    by_case (inr l) further = further l

  -- one more of the headers that are kept, inside those up to it
  pub one_more : (D n i s : ℕ) (c : Content) (head : Option OpenHead)
      → ((hs : List OpenHead) × (i ≡ length hs) × AreKept ss cs hs × AreOpen D n hs × (top hs ≡ head))
      → slice_index_or ss i 0 ≡ s → slice_index_or cs i 0 ≡ content_number c → s + 4 ≤ n → i + levels_in c ≤ D
      → ((hs : List OpenHead) × (i + 1 ≡ length hs) × AreKept ss cs hs × AreOpen D n hs × (top hs ≡ Some (record { start = s; content = c })))
  one_more D n i s c head (hs, e, a, o, t) at which inside level = (
    record { start = s; content = c } ∷ hs,
    omega (arith, e),
    (ap (λ k. slice_index_or ss k 0) (sym e) ∙ at, ap (λ k. slice_index_or cs k 0) (sym e) ∙ which, a),
    (inside, omega (arith, e, level), o),
    refl,
  )

-- headers that are open are no more than the levels and one
pub few_heads : (D n : ℕ) (hs : List OpenHead) → AreOpen D n hs → length hs ≤ D + 1
few_heads D n [] o = omega arith
few_heads D n (h ∷ hs) o = omega (arith, o.1)

-- those that are kept before a place are not touched by what is kept there
pub keeps_set : (ss cs : List ℕ) (i s c : ℕ) (hs : List OpenHead) → length hs ≤ i → AreKept ss cs hs → AreKept (slice_set ss i s) (slice_set cs i c) hs
keeps_set ss cs i s c [] le a = tt
keeps_set ss cs i s c (h ∷ hs) le a =
    let other : length hs ≢ i = λ e. omega (arith, le, e) in
    (get_or-set_other ss i (length hs) s 0 other ∙ a.0, get_or-set_other cs i (length hs) c 0 other ∙ a.1, keeps_set ss cs i s c hs (omega (arith, le)) a.2)

-- one more is kept
pub keeps_one : (ss cs : List ℕ) (h : OpenHead) (hs : List OpenHead) → length hs < length ss → length hs < length cs → AreKept ss cs hs
    → AreKept (slice_set ss (length hs) h.start) (slice_set cs (length hs) (content_number h.content)) (h ∷ hs)
keeps_one ss cs h hs l m a =
    (get_or-set_same ss (length hs) h.start 0 l, get_or-set_same cs (length hs) (content_number h.content) 0 m, keeps_set ss cs (length hs) h.start (content_number h.content) hs (omega arith) a)

-- ---- the builder that is kept

abbrev order_kept : ℕ → Order
order_kept big = order_in (big == 1)

-- the order of a builder that is kept
pub kept_order : (big : ℕ) (o : Order) → big ≡ order_number o → order_kept big ≡ o
kept_order big Little e = ap order_kept e
kept_order big Big e = ap order_kept e

-- a call in the order that is kept is one in the builder's order
ordered : (call : Order → Built → Built) (old new : BuilderState) (before after : List ℕ) (code : ℕ)
    → Calls (call (order_in (old.big == 1))) old before new after code → Calls (λ b. call (order_of b) b) old before new after code
ordered call old new before after code (on_none n) = on_none n
ordered call old new before after code (calls p q is kept bytes e k) =
    calls p q is kept bytes (e ∙ ap (λ o. call o (over p before)) (kept_order old.big p.bounds.shape.order is.big)) k

-- a call that puts bytes is one that puts the number that they are, in a given order or in the builder's
module _ (kind value width : ℕ) (o : Order) {bs : List ℕ} {old new : BuilderState} {before after : List ℕ} {code : ℕ} (is : bs ≡ num value width o) (call : Calls (λ b. put b (number_in kind) (flags_in kind) bs) old before new after code) where
  pub puts_number : Calls (λ b. put b (number_in kind) (flags_in kind) (num value width o)) old before new after code
  puts_number = subst (λ (xs : List ℕ). Calls (λ b. put b (number_in kind) (flags_in kind) xs) old before new after code) is call

  pub puts_ordered : o ≡ order_in (old.big == 1) → Calls (λ b. put b (number_in kind) (flags_in kind) (num value width (order_of b))) old before new after code
  puts_ordered same =
      ordered (λ o b. put b (number_in kind) (flags_in kind) (num value width o)) old new before after code
      (subst (λ (o : Order). Calls (λ b. put b (number_in kind) (flags_in kind) (num value width o)) old before new after code) same puts_number)

-- a builder's of the same limits, with these headers, is kept so
module _ (k : BuilderState) (room size : ℕ) (p : Parts) (is : IsKept k room p) where
  keeps : (q : Parts) (ss cs : List ℕ) (n : ℕ) → q.bounds ≡ p.bounds → (q.len ≤ size) × (q.len ≤ q.bounds.datagram) → n ≡ length q.heads → AreKept ss cs q.heads → AreOpen p.bounds.shape.depth q.len q.heads
      → IsKept (record k { starts = ss; contents = cs; count = n; len = q.len; refusal = refusal_number q.refusal }) size q
  keeps q ss cs n bounds fits count heads inside =
      record {
        total = is.total ∙ sym (ap (λ (b : Bounds). b.total) bounds);
        entries = is.entries ∙ sym (ap (λ (b : Bounds). b.entries) bounds);
        datagram = is.datagram ∙ sym (ap (λ (b : Bounds). b.datagram) bounds);
        depth = is.depth ∙ sym (ap (λ (b : Bounds). b.shape.depth) bounds);
        big = is.big ∙ sym (ap (λ (b : Bounds). order_number b.shape.order) bounds);
        len = refl;
        count = count;
        heads = heads;
        refusal = refl;
        parts = (subst AreLimits (sym bounds) is.parts.0, fits.1, subst (λ (b : Bounds). AreOpen b.shape.depth q.len q.heads) (sym bounds) inside);
        fits = fits.0;
      }

-- a call that opens and closes no header
pub stays : (call : Built → Built) (k new : BuilderState) (out after : List ℕ) (t u : BuilderTop) (is : IsTopOf k (length out) t) → u.limits ≡ t.limits → t.len ≤ u.len → AreWithin u after
    → new ≡ record k { len = u.len; refusal = refusal_number u.refusal } → over (parts_with u is.0) after ≡ call (over (parts_with t is.0) out) → Calls call k out new after (refusal_number u.refusal)
stays call k new out after t u (hs, is, inner) bounds more fits e built =
    let q = parts_with u hs in
    let kept = keeps k (length out) (length after) (parts_with t hs) is q k.starts k.contents k.count bounds fits is.count is.heads (are_open_more _ _ _ _ more is.parts.2) in
    calls (parts_with t hs) q is new after built (subst (λ (x : BuilderState). IsKept x (length after) q) (sym e) kept)

-- a call that opens a header, or is refused, keeps the limits
pub same_limits : (t u : BuilderTop) (out new : List ℕ) (r : Result OpenHead BuildError) → Opens t u out new r → u.limits ≡ t.limits
same_limits t u out new (Ok h) o = ap (λ (x : BuilderTop). x.limits) o.rest
same_limits t u out new (Err e) o = ap (λ (x : BuilderTop). x.limits) o.0

-- there is a place for one more header
pub few_after : (D n : ℕ) (hs : List OpenHead) (count : ℕ) (r : Result OpenHead BuildError) → count ≡ length hs → D ≤ 32 → AreOpen D n (heads_after r hs) → IfOk r (λ h. count ≤ 32)
few_after D n hs count (Ok h) e l o = omega (arith, e, l, few_heads D n (h ∷ hs) o)
few_after D n hs count (Err x) e l o = tt

kept_opened : (k : BuilderState) (room size : ℕ) (t u : BuilderTop) (r : Result OpenHead BuildError) (hs : List OpenHead) → IsKept k room (parts_with t hs) → u.limits ≡ t.limits
    → (u.len ≤ size) × (u.len ≤ u.limits.datagram) → AreOpen t.limits.shape.depth u.len (heads_after r hs) → IfOk r (λ h. (k.count < length k.starts) × (k.count < length k.contents))
    → IsKept (record (with_opened k r) { len = u.len; refusal = refusal_number u.refusal }) size (parts_with u (heads_after r hs))
kept_opened k room size t u (Ok h) hs is bounds fits inside a =
    let one = keeps_one k.starts k.contents h hs (omega (arith, is.count, a.0)) (omega (arith, is.count, a.1)) is.heads in
    let at = subst (λ i. AreKept (slice_set k.starts i h.start) (slice_set k.contents i (content_number h.content)) (h ∷ hs)) (sym is.count) one in
    keeps k room size (parts_with t hs) is (parts_with u (h ∷ hs)) (slice_set k.starts k.count h.start) (slice_set k.contents k.count (content_number h.content)) (k.count + 1) bounds fits (omega (arith, is.count)) at inside
kept_opened k room size t u (Err x) hs is bounds fits inside a = keeps k room size (parts_with t hs) is (parts_with u hs) k.starts k.contents k.count bounds fits is.count is.heads inside

-- a call that opens a header, or is refused
pub opens : (call : Built → Built) (k new : BuilderState) (out after : List ℕ) (t u : BuilderTop) (r : Result OpenHead BuildError) (is : IsTopOf k (length out) t) → Opens t u out after r → AreWithin u after
    → AreOpen t.limits.shape.depth u.len (heads_after r is.0) → IfOk r (λ h. (k.count < length k.starts) × (k.count < length k.contents))
    → new ≡ record (with_opened k r) { len = u.len; refusal = refusal_number u.refusal } → over (parts_with u (heads_after r is.0)) after ≡ call (over (parts_with t is.0) out)
    → Calls call k out new after (refusal_number u.refusal)
opens call k new out after t u r (hs, is, inner) opened fits inside places e built =
    let q = parts_with u (heads_after r hs) in
    let kept = kept_opened k (length out) (length after) t u r hs is (same_limits t u out after r opened) fits inside places in
    calls (parts_with t hs) q is new after built (subst (λ (x : BuilderState). IsKept x (length after) q) (sym e) kept)

-- the headers that are left are kept where they are
fewer : (k : BuilderState) (D n : ℕ) (r : Option BuildError) (hs : List OpenHead) → k.count ≡ length hs → AreKept k.starts k.contents hs → AreOpen D n hs
    → (k.count - left_closed r ≡ length (left r hs)) × AreKept k.starts k.contents (left r hs) × AreOpen D n (left r hs)
fewer k D n None [] e a o = (omega (arith, e), tt, tt)
fewer k D n None (h ∷ hs) e a o = (omega (arith, e), a.2, o.2)
fewer k D n (Some x) hs e a o = (omega (arith, e), a, o)

-- a call that closes the innermost header, or is refused
pub closes : (call : Built → Built) (k new : BuilderState) (out after : List ℕ) (t : BuilderTop) (r : Option BuildError) (is : IsTopOf k (length out) t) → t.len ≤ length after
    → new ≡ record k { count = k.count - left_closed r; refusal = refusal_number r } → over (left_with t r is.0) after ≡ call (over (parts_with t is.0) out) → Calls call k out new after (refusal_number r)
closes call k new out after t r (hs, is, inner) fits e built =
    let q = left_with t r hs in
    let x = fewer k t.limits.shape.depth t.len r hs is.count is.heads is.parts.2 in
    let kept = keeps k (length out) (length after) (parts_with t hs) is q k.starts k.contents (k.count - left_closed r) refl (fits, is.parts.1) x.0 x.1 x.2 in
    let at : new ≡ record k { len = t.len; count = k.count - left_closed r; refusal = refusal_number r } = e ∙ ap (λ n. record k { len = n; count = k.count - left_closed r; refusal = refusal_number r }) is.len in
    calls (parts_with t hs) q is new after built (subst (λ (x : BuilderState). IsKept x (length after) q) (sym at) kept)

-- the innermost header is within what is accepted
pub top_inside : (D n : ℕ) (hs : List OpenHead) (h : Option OpenHead) → AreOpen D n hs → top hs ≡ h → IfSome h (λ x. x.start + 4 ≤ n)
top_inside D n [] h o e = subst (λ (y : Option OpenHead). IfSome y (λ x. x.start + 4 ≤ n)) e tt
top_inside D n (k ∷ hs) h o e = subst (λ (y : Option OpenHead). IfSome y (λ x. x.start + 4 ≤ n)) e o.0

-- ---- the end

-- a length is the whole, where nothing is refused
pub done : (r : Result ℕ BuildError) (n m : ℕ) (o : Option BuildError) → r ≡ Ok n → MatchOption o (r ≡ Ok m) (λ e. r ≡ Err e) → (o ≡ None) × (n ≡ m)
done r n m None i h = let both : Ok n ≡ Ok m = sym i ∙ h in (refl, cc)
done r n m (Some e) i h = absurd (cc)

pub not_done : (r : Result ℕ BuildError) (e : BuildError) (m : ℕ) (o : Option BuildError) → r ≡ Err e → MatchOption o (r ≡ Ok m) (λ x. r ≡ Err x) → o ≡ Some e
not_done r e m None i h = absurd (cc)
not_done r e m (Some x) i h = let both : Err x ≡ Err e = sym h ∙ i in let same : x ≡ e = cc in ap Some same
