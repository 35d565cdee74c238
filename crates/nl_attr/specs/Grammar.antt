-- What messages, attributes and next hops have in common: items one after another, each with a
-- header in front, and some with items nested inside. From what is known of a header, a
-- `Grammar`, this file defines which headers stand where, the first error, how many bytes a walk
-- visits, and in which order it visits the headers. `heads` of Heads.antt is the grammar of
-- attributes and next hops.
use Rattle.std.specs.Prelude.{◌≡◌, ◌≢◌, ◌<◌, ◌≤◌, ◌+◌, ◌⊎◌, ℕ, zero, suc, List, [], ◌∷◌, ◌++◌, length, map, Option, Some, None}
use Rattle.std.specs.List.{AllByRecursion}
use Rattle.nl_attr.specs.declared.fault.Reason.{Reason}

-- what must be known of a header, which is a value of type H
pub record Grammar (H : Type 0) : Type 0 where
  -- its offset, and the bytes from there to the end of its region
  pub place : H → ℕ
  pub left : H → List ℕ
  -- the first rule that it breaks, of any kind
  pub broken : H → Option Reason
  -- the rule of lengths that it breaks: then it is not known where the next header stands
  pub unsound : H → Option Reason
  -- the rule that it breaks so that a walk does not count its bytes as visited
  pub uncounted : H → Option Reason
  -- how many bytes a walk visits with it, where it counts them
  pub visited : H → ℕ
  -- the header behind its item; and the first header nested inside, where there are some
  pub follower : H → H
  pub inner : H → Option H

-- ---- sums of visits

-- the offsets of these visits rise, from p on and below m
abbrev pub Rises : ℕ → ℕ → List (ℕ × ℕ) → Type 0
Rises p m [] = p ≤ m
Rises p m (v ∷ vs) = (p ≤ v.0) × (v.0 < m) × Rises (suc v.0) m vs

-- x is in the list
abbrev pub Has : {X : Type 0} → List X → X → Type 0
Has [] x = ⊥
Has (y ∷ ys) x = (y ≡ x) ⊎ Has ys x

-- the sum of the bytes of visits
abbrev pub spans : List (ℕ × ℕ) → ℕ
spans [] = 0
spans (v ∷ vs) = v.1 + spans vs

-- The total is the sum of the bytes of all visits at offsets up to q. `Is` says what a visit is:
-- an offset, and a number of bytes.
pub record VisitsBy (Is : ℕ × ℕ → Type 0) (q total : ℕ) : Type 0 where
  pub all : List (ℕ × ℕ)
  pub rises : Rises 0 (suc q) all
  pub each : AllByRecursion Is all
  pub every : (v : ℕ × ℕ) → Is v → Has all v
  pub sums : total ≡ spans all

-- ---- heads in an order

-- a trail: headers in the order of a walk, and the error that ends it, an offset and a rule
abbrev pub TrailOf : Type 0 → Type 0
TrailOf H = List H × Option (ℕ × Reason)

-- the first trail, and then the second, unless an error ends the first
abbrev pub and_on : {H : Type 0} → TrailOf H → TrailOf H → TrailOf H
and_on (hs, None) t = (hs ++ t.0, t.1)
and_on (hs, Some f) t = (hs, Some f)

-- the trail inside an item, from its first nested header; empty where there is none
abbrev pub inner_trail : {H : Type 0} → Option H → (H → TrailOf H) → TrailOf H
inner_trail None f = ([], None)
inner_trail (Some k) f = f k

-- the header alone, or nothing where it is not counted
abbrev pub unless : {H : Type 0} → Option Reason → H → List H
unless None h = h ∷ []
unless (Some r) h = []

module _ {H : Type 0} (g : Grammar H) where
  -- the headers that stand in the region that begins with `start`, nested ones too
  pub data HeadAt (start : H) : H → Type 0 where
    first : g.left start ≢ [] → HeadAt start start
    next : (h : H) → HeadAt start h → g.unsound h ≡ None → g.left (g.follower h) ≢ [] → HeadAt start (g.follower h)
    inside : (h k : H) → HeadAt start h → g.broken h ≡ None → g.inner h ≡ Some k → g.left k ≢ [] → HeadAt start k

  -- a walk counts the bytes of this header's item as visited
  abbrev pub Counts : H → Type 0
  Counts h = g.uncounted h ≡ None

  -- a header at this offset breaks this rule, which is the first that it breaks
  abbrev pub FaultAt : H → ℕ → Reason → Type 0
  FaultAt start place r = (h : H) × HeadAt start h × (g.place h ≡ place) × (g.broken h ≡ Some r)

  -- and no header at an earlier offset breaks any
  abbrev pub IsFirstFault : H → ℕ → Reason → Type 0
  IsFirstFault start place r = FaultAt start place r × ((q : ℕ) (s : Reason) → FaultAt start q s → place ≤ q)

  -- the offset of a header, and how many bytes a walk visits with it
  abbrev pub visit_of : H → ℕ × ℕ
  visit_of h = (g.place h, g.visited h)

  -- how many bytes a walk visits with these headers
  abbrev pub visits_of : List H → ℕ
  visits_of hs = spans (map visit_of hs)

  -- the visit of some header that a walk counts, at an offset up to q
  abbrev pub IsVisit : H → ℕ → ℕ × ℕ → Type 0
  IsVisit start q v = (h : H) × HeadAt start h × Counts h × (g.place h ≡ v.0) × (g.visited h ≡ v.1) × (g.place h ≤ q)

  -- a walk from `start` on visits so many bytes with the headers at offsets up to q
  abbrev pub Visits : H → ℕ → ℕ → Type 0
  Visits start q total = VisitsBy (IsVisit start q) q total

  -- One turn of the walk. Nothing is left; or the header breaks a rule; or it comes first, then
  -- those nested inside its item, then those behind it.
  abbrev pub trail_turn : List ℕ → Option Reason → H → TrailOf H → TrailOf H → TrailOf H
  trail_turn [] r h i t = ([], None)
  trail_turn (b ∷ bs) (Some r) h i t = (unless (g.uncounted h) h, Some (g.place h, r))
  trail_turn (b ∷ bs) None h i t = (h ∷ (and_on i t).0, (and_on i t).1)

  -- The trail from a header on, of at most so many turns. The length of what is left is enough.
  unfoldable pub trail_at : ℕ → H → TrailOf H
  trail_at zero h = ([], None)
  trail_at (suc n) h = trail_turn (g.left h) (g.broken h) h (inner_trail (g.inner h) (λ k. trail_at n k)) (trail_at n (g.follower h))

  -- the trail from a header on: the headers that a walk visits, and the error that ends it
  abbrev pub trail_of : H → TrailOf H
  trail_of h = trail_at (length (g.left h)) h

  -- why a trail ends: no header breaks a rule, or this is the first error
  abbrev pub IsEnd : H → Option (ℕ × Reason) → Type 0
  IsEnd start None = (p : ℕ) (r : Reason) → FaultAt start p r → ⊥
  IsEnd start (Some f) = IsFirstFault start f.0 f.1

-- an offset is no greater than that of the error which ends a trail, if any does
abbrev pub UpTo : Option (ℕ × Reason) → ℕ → Type 0
UpTo None p = Unit {0}
UpTo (Some f) p = p ≤ f.0
