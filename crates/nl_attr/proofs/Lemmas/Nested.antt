-- Reading with a stack of open regions, one turn after the other.
use Rattle.nl_attr.proofs.Common.{◌≡◌, ℕ, suc, ◌+◌, ◌-◌, ◌*◌, ◌<◌, ◌≤◌, List, [], ◌∷◌, ◌++◌, length, Result, Ok, Err, refl, sym, ap, subst, ◌∙◌, arith, IsErrAnd, mul-le-mul_left, LONGEST_REGION, MOST_VISITS, Fault, ListError, Layout, Memory, ListRegion, Shape, Items, Sort, Outcome, and_then, more_visits}
use Rattle.nl_attr.specs.declared.stack.nested.Outer.{Outer}
use Rattle.nl_attr.specs.declared.stack.nested.Outer.TheVariants as outer
use Rattle.nl_attr.specs.declared.stack.nested.Next.{Next}
use Rattle.nl_attr.specs.declared.stack.nested.Next.TheVariants as next
use Rattle.nl_attr.specs.Outcomes.{IsOutcome}
use Rattle.nl_attr.specs.Open.{list_rest, goes_on, next_rest, NextGoes, FailsAs, Spot, list_spot, outer_spot, outer_room, Holds, levels_in, IsWithinLimits, Room, IsIn, spot_end, outer_work, next_work, Advances, NextMoves, LiesUnder, PutsOn}
use Rattle.nl_attr.proofs.Lemmas.Reading.{more_then}

-- ---- an outcome with which something goes on

pub then_more : {A B : Type 0} (o : Outcome A) (f : A → Outcome B) → o.1 ≤ (and_then o f).1
then_more (Ok x, v) f = omega arith
then_more (Err d, v) f = omega arith

pub then_same : {A B : Type 0} (n m : ℕ) (o : Outcome A) (p : Outcome A) (g : A → Outcome B) → more_visits n o ≡ more_visits m p → more_visits n (and_then o g) ≡ more_visits m (and_then p g)
then_same n m o p g e = sym (more_then n o g) ∙ ap (λ x. and_then x g) e ∙ more_then m p g

pub then_done : {A B : Type 0} (n m : ℕ) (o : Outcome A) (x : A) (g : A → Outcome B) → more_visits n o ≡ (Ok x, m) → more_visits n (and_then o g) ≡ more_visits m (g x)
then_done n m o x g e = sym (more_then n o g) ∙ ap (λ y. and_then y g) e

pub fails_within : {A : Type 0} (n m : ℕ) (o : Outcome A) (e : ListError) → FailsAs n o m e → m ≤ n + o.1
fails_within {A = A} n m o (Layout f) e = omega (arith, ap (λ (p : Outcome A). p.1) e)
fails_within {A = A} n m o Memory e = e

pub same_visits : {A : Type 0} (n m : ℕ) (o : Outcome A) (p : Outcome A) → more_visits n o ≡ more_visits m p → n + o.1 ≡ m + p.1
same_visits {A = A} n m o p e = ap (λ (x : Outcome A). x.1) e

pub done_visits : {A : Type 0} (n m : ℕ) (o : Outcome A) (x : A) → more_visits n o ≡ (Ok x, m) → n + o.1 ≡ m
done_visits {A = A} n m o x e = ap (λ (y : Outcome A). y.1) e

-- ---- outcomes

-- all that wait go on, the last of the list first
abbrev pub resume : Shape → List Outer → Outcome Items → Outcome Items
resume S [] o = o
resume S (f ∷ fs) o = and_then (resume S fs o) (goes_on S f)

resume-push : (S : Shape) (fs : List Outer) (f : Outer) (o : Outcome Items) → resume S (fs ++ f ∷ []) o ≡ resume S fs (and_then o (goes_on S f))
resume-push S [] f o = refl
resume-push S (g ∷ fs) f o = ap (λ p. and_then p (goes_on S g)) (resume-push S fs f o)

-- a fault ends all of them
resume-fault : (S : Shape) (fs : List Outer) (e : Fault) (v : ℕ) → resume S fs (Err e, v) ≡ (Err e, v)
resume-fault S [] e v = refl
resume-fault S (f ∷ fs) e v = ap (λ p. and_then p (goes_on S f)) (resume-fault S fs e v)

-- visits are counted wherever they are made
resume-more : (S : Shape) (fs : List Outer) (n : ℕ) (o : Outcome Items) → resume S fs (more_visits n o) ≡ more_visits n (resume S fs o)
resume-more S [] n o = refl
resume-more S (f ∷ fs) n o = ap (λ p. and_then p (goes_on S f)) (resume-more S fs n o) ∙ more_then n (resume S fs o) (goes_on S f)

resume_visits : (S : Shape) (fs : List Outer) (o : Outcome Items) → o.1 ≤ (resume S fs o).1
resume_visits S [] o = omega arith
resume_visits S (f ∷ fs) o = omega (arith, resume_visits S fs o, then_more (resume S fs o) (goes_on S f))

resume_same : (S : Shape) (fs : List Outer) (n m : ℕ) (o p : Outcome Items) → more_visits n o ≡ more_visits m p → more_visits n (resume S fs o) ≡ more_visits m (resume S fs p)
resume_same S fs n m o p e = sym (resume-more S fs n o) ∙ ap (resume S fs) e ∙ resume-more S fs m p

-- ---- regions in one another

-- each region lies in the one below it, one level higher
abbrev pub Nests : Shape → Room → List Outer → Spot → Type 0
Nests S r [] t = IsIn S r t
Nests S r (f ∷ fs) t = IsIn S r (outer_spot f) × Holds S f × Nests S (outer_room f) fs t

-- those that wait take a level at least
room_level : (S : Shape) (r : Room) (f : Outer) → IsIn S r (outer_spot f) → Holds S f → r.level + 1 ≤ (outer_room f).level
room_level S r (outer.List w) i h = omega (arith, i.level)
room_level S r (outer.Hops w k) i h = omega (arith, i.level, h.level)

nests_last : (S : Shape) (r : Room) (fs : List Outer) (t : Spot) → Nests S r fs t → (q : Room) × IsIn S q t × (r.level + length fs ≤ q.level)
nests_last S r [] t n = (r, n, omega arith)
nests_last S r (f ∷ fs) t n = let k = nests_last S (outer_room f) fs t n.2 in (k.0, k.1, omega (arith, k.2, room_level S r f n.0 n.1))

nests_push : (S : Shape) (r : Room) (fs : List Outer) (f : Outer) (t : Spot) → Nests S r fs (outer_spot f) → Holds S f → IsIn S (outer_room f) t → Nests S r (fs ++ f ∷ []) t
nests_push S r [] f t n h i = (n, h, i)
nests_push S r (g ∷ fs) f t n h i = (n.0, n.1, nests_push S (outer_room g) fs f t n.2 h i)

nests_pop : (S : Shape) (r : Room) (fs : List Outer) (f : Outer) (t : Spot) → Nests S r (fs ++ f ∷ []) t → Nests S r fs (outer_spot f) × Holds S f
nests_pop S r [] f t n = (n.0, n.1)
nests_pop S r (g ∷ fs) f t n = let k = nests_pop S (outer_room g) fs f t n.2 in ((n.0, n.1, k.0), k.1)

nests_swap : (S : Shape) (r : Room) (fs : List Outer) (s t : Spot) → Nests S r fs s → ((q : Room) → IsIn S q s → IsIn S q t) → Nests S r fs t
nests_swap S r [] s t n h = h r n
nests_swap S r (f ∷ fs) s t n h = (n.0, n.1, nests_swap S (outer_room f) fs s t n.2 h)

pub advances_in : (S : Shape) (s t : Spot) → Advances s t → (q : Room) → IsIn S q s → IsIn S q t
advances_in S s t a q i = record {
  level = a.level ∙ i.level;
  inside = omega (arith, a.base, a.end, i.inside);
  limits = record {
    order = a.order ∙ i.limits.order;
    level = let l : t.level + levels_in s.sort ≤ S.depth = omega (arith, a.level, i.limits.level) in subst (λ (k : Sort). t.level + levels_in k ≤ S.depth) (sym a.sort) l;
    size = omega (arith, a.end, i.limits.size);
    place = omega (arith, a.base, a.end, i.limits.place);
  };
}

-- ---- the work that is left

abbrev pub waiting_work : List Outer → ℕ
waiting_work [] = 0
waiting_work (f ∷ fs) = outer_work f + waiting_work fs

-- the bytes that are left in all of them, with one for each
abbrev pub work : List Outer → ListRegion → ℕ
work fs top = waiting_work fs + suc (length top.walk.left)

work_push : (fs : List Outer) (f : Outer) → waiting_work (fs ++ f ∷ []) ≡ waiting_work fs + outer_work f
work_push [] f = omega arith
work_push (g ∷ fs) f = omega (arith, work_push fs f)

pub work_next : (fs gs : List Outer) (x : Next) (top : ListRegion) → PutsOn fs x gs top → work gs top ≡ waiting_work fs + next_work x
work_next fs gs (next.Opens f r) top p = rw (p.0, p.1) (omega (arith, work_push fs f))
work_next fs gs (next.Goes r) top p = rw (p.0, p.1) refl

pub next_moves_work : (S : Shape) (s : Spot) (most : ℕ) (x : Next) → NextMoves S s most (Ok x) → next_work x ≤ most
next_moves_work S s most (next.Opens f r) v = v.3
next_moves_work S s most (next.Goes r) v = v.1

pub work_closes : (fs gs : List Outer) (top : ListRegion) (f : Outer) (x : Next) (hs : List Outer) (t : ListRegion) → fs ≡ gs ++ f ∷ [] → PutsOn gs x hs t → next_work x ≤ outer_work f → work hs t < work fs top
work_closes fs gs top f x hs t e p le = rw e (omega (arith, work_next gs hs x t p, work_push gs f, le))

pub work_opens : (fs : List Outer) (top : ListRegion) (a b : ℕ) (x : Next) (hs : List Outer) (t : ListRegion) → a + suc b < length top.walk.left → PutsOn fs x hs t → next_work x ≤ suc a + suc b → work hs t < work fs top
work_opens fs top a b x hs t less p le = omega (arith, work_next fs hs x t p, less, le)

-- ---- the state between two turns

-- what is left to do gives the whole, and each region lies in the one below it
pub record IsReading (S : Shape) (start : Room) (whole : Outcome Items) (n : ℕ) (fs : List Outer) (top : ListRegion) : Type 0 where
  pub same : more_visits n (resume S fs (list_rest S top)) ≡ whole
  pub nests : Nests S start fs (list_spot top)

-- the same, with a region that has this spot and this outcome left
pub record IsBetween (S : Shape) (start : Room) (whole : Outcome Items) (n : ℕ) (fs : List Outer) (o : Outcome Items) (s : Spot) : Type 0 where
  pub same : more_visits n (resume S fs o) ≡ whole
  pub nests : Nests S start fs s

module _ {S : Shape} {start : Room} {whole : Outcome Items} {n : ℕ} {fs : List Outer} {o : Outcome Items} {s : Spot} where
  -- the next region is put on
  pub puts : (m : ℕ) (most : ℕ) (x : Next) (gs : List Outer) (top : ListRegion) → IsBetween S start whole n fs o s → NextGoes S n o m (Ok x) → NextMoves S s most (Ok x) → PutsOn fs x gs top → IsReading S start whole m gs top
  puts m most (next.Opens f r) gs top i g v p = rw (p.0, p.1) (record {
    same = ap (more_visits m) (resume-push S fs f (list_rest S r)) ∙ sym (resume_same S fs n m o (next_rest S (next.Opens f r)) g) ∙ i.same;
    nests = nests_push S start fs f (list_spot r) (subst (λ (x : Spot). Nests S start fs x) (sym v.0) i.nests) v.1 v.2;
  })
  puts m most (next.Goes r) gs top i g v p = rw (p.0, p.1) (record {
    same = sym (resume_same S fs n m o (list_rest S r) g) ∙ i.same;
    nests = subst (λ (x : Spot). Nests S start fs x) (sym v.0) i.nests;
  })

  pub between_room : IsBetween S start whole n fs o s → n + o.1 ≤ whole.1
  between_room i = omega (arith, ap (λ (p : Outcome Items). p.1) i.same, resume_visits S fs o)

  pub between_fault : (m : ℕ) (f : Fault) → IsBetween S start whole n fs o s → more_visits n o ≡ (Err f, m) → whole ≡ (Err f, m)
  between_fault m f i e = sym i.same ∙ sym (resume-more S fs n o) ∙ ap (resume S fs) e ∙ resume-fault S fs f m

  pub fails_outcome : {X : Type 0} (view : X → Items) (m : ℕ) (e : ListError) → IsBetween S start whole n fs o s → FailsAs n o m e → IsOutcome view (Err e) m whole
  fails_outcome view m (Layout f) i e = between_fault m f i e
  fails_outcome view m Memory i e = tt

  -- and one that is handed on
  pub fails_on : {X : Type 0} (view : X → Items) (m : ℕ) (r : Result X ListError) (e : ListError) → IsErrAnd r (λ f. f ≡ e) → IsBetween S start whole n fs o s → FailsAs n o m e → IsOutcome view r m whole
  fails_on view m (Ok x) e h i f = absurd h
  fails_on view m (Err d) e h i f = subst (λ g. IsOutcome view (Err g) m whole) (sym h) (fails_outcome view m e i f)

  pub fails_visits : (m : ℕ) (e : ListError) → IsBetween S start whole n fs o s → FailsAs n o m e → m ≤ whole.1
  fails_visits m (Layout f) i e = omega (arith, ap (λ (p : Outcome Items). p.1) (between_fault m f i e))
  fails_visits m Memory i e = omega (arith, e, between_room i)

module _ {S : Shape} {start : Room} {whole : Outcome Items} {n : ℕ} {fs : List Outer} {top : ListRegion} where
  pub within : IsReading S start whole n fs top → IsWithinLimits S (list_spot top)
  within i = (nests_last S start fs (list_spot top) i.nests).1.limits

  -- the stack is no higher than the levels allow
  pub is_low : IsReading S start whole n fs top → S.depth ≤ 32 → length fs + 1 ≤ 33
  is_low i d = let k = nests_last S start fs (list_spot top) i.nests in omega (arith, k.1.level, k.2, k.1.limits.level, d)

  pub has_room : IsReading S start whole n fs top → n + (list_rest S top).1 ≤ whole.1
  has_room i = omega (arith, ap (λ (o : Outcome Items). o.1) i.same, resume_visits S fs (list_rest S top))

  -- a region that was read to where another opens
  pub opens : (m : ℕ) (o : Outcome Items) (s : Spot) → IsReading S start whole n fs top → more_visits n (list_rest S top) ≡ more_visits m o → Advances (list_spot top) s → IsBetween S start whole m fs o s
  opens m o s i e a = record {
    same = sym (resume_same S fs n m (list_rest S top) o e) ∙ i.same;
    nests = nests_swap S start fs (list_spot top) s i.nests (advances_in S (list_spot top) s a);
  }

  -- a region that was read to its end
  pub ends : (m : ℕ) (is : Items) (gs : List Outer) (f : Outer) → IsReading S start whole n fs top → fs ≡ gs ++ f ∷ [] → more_visits n (list_rest S top) ≡ (Ok is, m) → IsBetween S start whole m gs (goes_on S f is) (outer_spot f) × Holds S f
  ends m is gs f i e done =
      let j : IsReading S start whole n (gs ++ f ∷ []) top = subst (λ (hs : List Outer). IsReading S start whole n hs top) e i in
      let k = nests_pop S start gs f (list_spot top) j.nests in (
        record {
          same = sym (resume-more S gs m (goes_on S f is)) ∙ sym (resume-push S gs f (Ok is, m)) ∙ sym (ap (resume S (gs ++ f ∷ [])) done) ∙ resume-more S (gs ++ f ∷ []) n (list_rest S top) ∙ j.same;
          nests = k.0;
        },
        k.1,
      )

  pub ends_all : (m : ℕ) (is : Items) → IsReading S start whole n fs top → fs ≡ [] → more_visits n (list_rest S top) ≡ (Ok is, m) → whole ≡ (Ok is, m)
  ends_all m is i none e = sym i.same ∙ ap (λ (hs : List Outer). more_visits n (resume S hs (list_rest S top))) none ∙ e

  pub still : IsReading S start whole n fs top → IsBetween S start whole n fs (list_rest S top) (list_spot top)
  still i = record { same = i.same; nests = i.nests }

-- ---- the whole region

-- the room of a region of attributes that nothing lies below
abbrev pub room_of : Spot → Room
room_of s = record { level = s.level; to = s.base + spot_end s }

pub lies_first : (S : Shape) (s : Spot) → IsWithinLimits S s → IsIn S (room_of s) s
lies_first S s limits = record { level = refl; inside = omega arith; limits = limits }

-- the region that waits for this one was read to where it opened
pub nested_begins : (S : Shape) (n : ℕ) (f : Outer) (r : ListRegion) (o : Outcome Items) → LiesUnder S f r → IsBetween S (room_of (outer_spot f)) (more_visits n (and_then o (goes_on S f))) n (f ∷ []) o (list_spot r)
nested_begins S n f r o l = record { same = refl; nests = (lies_first S (outer_spot f) l.limits, l.holds, l.inside) }

pub whole_fits : (k n x : ℕ) → k ≤ 33 → n ≤ LONGEST_REGION → x ≤ k * n → x ≤ MOST_VISITS
whole_fits k n x a b le = omega (arith, mul-le-mul_left k b)

pub most_fit : (S : Shape) (l : ℕ) (left : List ℕ) → S.depth ≤ 32 → length left ≤ LONGEST_REGION → (S.depth - l + 1) * length left ≤ MOST_VISITS
most_fit S l left low size = whole_fits (S.depth - l + 1) (length left) ((S.depth - l + 1) * length left) (omega (arith, low)) size (omega arith)
