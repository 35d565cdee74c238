-- What a scan of a region puts into its buffer, and what it counts: after one header, after a run
-- of attributes that hold bytes, and at its end. Only `HasRoom`, `IsTaped` and `found` are cited
-- by public clauses.
use Rattle.std.specs.Prelude.{◌≡◌, ◌≢◌, ◌≤◌, ◌<◌, ◌+◌, ◌-◌, ◌*◌, ◌%◌, ◌^◌, ℕ, List, [], ◌∷◌, length, map, drop, Option, Some, None, IfSome}
use Rattle.nl_attr.specs.declared.events.Event.{Event}
use Rattle.nl_attr.specs.declared.events.Room.{Room}
use Rattle.nl_attr.specs.declared.events.Room.TheVariants.{Ample, Unknown}
use Rattle.nl_attr.specs.Fixed.{FARTHEST_END, LONGEST_REGION, NUMBERS, SORT_BYTES}
use Rattle.nl_attr.specs.declared.order.Order.{Order}
use Rattle.nl_attr.specs.declared.broken.BrokenHead.{BrokenHead}
use Rattle.nl_attr.specs.declared.taping.Counts.{Counts}
use Rattle.nl_attr.specs.declared.taping.Taped.{Taped}
use Rattle.nl_attr.specs.declared.tree.AttrFlags.{AttrFlags}
use Rattle.nl_attr.specs.declared.tree.Content.TheVariants as content
use Rattle.nl_attr.specs.declared.tree.Ctx.{Ctx}
use Rattle.nl_attr.specs.declared.taping.fronts.AttrFront.{AttrFront}
use Rattle.nl_attr.specs.declared.taping.fronts.HopFront.{HopFront}
use Rattle.nl_attr.specs.declared.taping.steps.Lead.{Lead}
use Rattle.nl_attr.specs.declared.taping.steps.Lead.TheVariants as lead
use Rattle.nl_attr.specs.declared.taping.steps.Advance.{Advance}
use Rattle.nl_attr.specs.declared.tree.Ctx.TheVariants.{Route}
use Rattle.nl_attr.specs.Shape.{Shape}
use Rattle.nl_attr.specs.Numbers.{kind_of, span_of}
use Rattle.nl_attr.specs.Tree.{holds_of}
use Rattle.nl_attr.specs.Walk.{flags_of, payload_of}
use Rattle.nl_attr.specs.Broken.{IsBrokenHead, fault_in}
use Rattle.nl_attr.specs.Heads.{hop_head, Head, MayStand, start_of, broken, follower, inner_of}
use Rattle.nl_attr.specs.Region.{head_of}
use Rattle.nl_attr.specs.HeadOrder.{trail_of, event_of, put_from, counted, visits_of, fault_of}

-- the first header of a region of next hops
abbrev pub hops_start : ℕ → ℕ → List ℕ → Head
hops_start l place left = record { place = place; sort = hop_head; ctx = Route; level = l; left = left }

-- ---- what stands at the front of a region

-- an AttrFront of the program is the attribute with this header; its event says SORT_BYTES
pub record IsAttrFront (o : Order) (h : Head) (a : AttrFront) : Type 0 where
  pub event : a.event ≡ record (event_of o h) { sort = SORT_BYTES }
  pub flags : a.flags ≡ flags_of (kind_of o h.left)
  pub span : a.span ≡ span_of o 2 h.left
  pub payload : a.payload.now ≡ payload_of o 4 2 h.left
  pub rest : head_of a.rest ≡ start_of h.ctx h.level (h.place + span_of o 2 h.left) (drop (span_of o 2 h.left) h.left)

-- a HopFront of the program is the next hop with this header
pub record IsHopFront (o : Order) (h : Head) (f : HopFront) : Type 0 where
  pub event : f.event ≡ event_of o h
  pub span : f.span ≡ span_of o 2 h.left
  pub attrs : head_of f.attrs ≡ start_of Route (h.level + 1) (h.place + 8) (payload_of o 8 2 h.left)
  pub rest : head_of f.rest ≡ hops_start h.level (h.place + span_of o 2 h.left) (drop (span_of o 2 h.left) h.left)

-- ---- room

-- a buffer of so many entries has this room, where the next event goes to index `count` and so
-- many bytes are left to scan
abbrev pub HasRoom : Room → ℕ → ℕ → ℕ → Type 0
HasRoom Ample count left places = 4 * count + left < 4 * places + 4
HasRoom Unknown count left places = Unit {0}

-- What a scan assumes of the region that begins with this header: its level is within the depth
-- limit, and its length, its end and its events are within bounds. `next` is the index of the next
-- event, and `places` the length of the buffer.
pub record MayScan (depth : ℕ) (kind : Room) (next places : ℕ) (start : Head) : Type 0 where
  pub level : MayStand depth start.sort start.level
  pub size : length start.left ≤ LONGEST_REGION
  pub place : start.place + length start.left ≤ FARTHEST_END
  pub count : next + length start.left ≤ 2 ^ 33
  pub room : HasRoom kind next (length start.left) places

-- ---- attributes that hold bytes

-- in both contexts each type of attribute holds the same
abbrev pub IsLike : Ctx → Ctx → Type 0
IsLike c k = (n : ℕ) (f : AttrFlags) → holds_of c n f ≡ holds_of k n f

-- no header is nested in the item of this one
abbrev pub HoldsNone : Shape → Head → Type 0
HoldsNone S h = IfSome (inner_of S h) (λ k. k.left ≡ [])

-- these headers stand one behind another from the first one on, up to the last one, which is not
-- among them; each is valid and has no other nested in it
abbrev pub Passes : Shape → Head → List Head → Head → Type 0
Passes S h [] g = h ≡ g
Passes S h (k ∷ ks) g = (k ≡ h) × (h.left ≢ []) × (broken S h ≡ None) × HoldsNone S h × Passes S (follower S h) ks g

-- the header further on in the same region, where these bytes are left
abbrev pub head_with : Head → List ℕ → Head
head_with h left = record h { place = h.place + (length h.left - length left); left = left }

-- the result of the loop over leaves: it passed attributes, their events stand in the buffer from
-- index `count` on, and `left` is left of the region
pub record IsPassing (S : Shape) (h : Head) (count : ℕ) (old : List Event) (left : List ℕ) (n : ℕ) (new : List Event) : Type 0 where
  pub passed : List Head
  pub passes : Passes S h passed (head_with h left)
  pub counted : n ≡ count + length passed
  pub events : new ≡ put_from count (map (event_of S.order) passed) old

-- an attribute with this type field and a payload of len bytes is an empty nested attribute list,
-- and may stand at this level
abbrev pub IsEmptyList : Ctx → ℕ → ℕ → ℕ → ℕ → Type 0
IsEmptyList c kind len l depth = (len ≡ 0) × (l + 1 ≤ depth) × ((k : Ctx) × (holds_of c (kind % NUMBERS) (flags_of kind) ≡ content.List k))

-- ---- one step

-- these headers are added to the counts, and their events to the buffer
pub record Adds (S : Shape) (hs : List Head) (before after : Counts) (old new : List Event) : Type 0 where
  pub count : after.count ≡ before.count + length hs
  pub visits : after.visits ≡ before.visits + visits_of S hs
  pub events : new ≡ put_from before.count (map (event_of S.order) hs) old

-- headers with none nested in them are passed and added, up to the header g, which is not
pub record Skips (S : Shape) (h g : Head) (before after : Counts) (old new : List Event) : Type 0 where
  pub passed : List Head
  pub passes : Passes S h passed g
  pub adds : Adds S passed before after old new

-- The result of one step at a header: what it came to, what is left then, and the header is added
-- where its length is valid.
abbrev pub LeadsTo : Shape → Head → Counts → Counts → List Event → List Event → Head → Lead → Type 0
LeadsTo S h before after old new rest lead.Ends = (h.left ≡ []) × (after ≡ before) × (new ≡ old)
LeadsTo S h before after old new rest (lead.Fails r) = (h.left ≢ []) × (rest ≡ h) × (broken S h ≡ Some r) × Adds S (counted S h) before after old new
LeadsTo S h before after old new rest lead.Goes = (h.left ≢ []) × (broken S h ≡ None) × HoldsNone S h × (rest ≡ follower S h) × Adds S (h ∷ []) before after old new
LeadsTo S h before after old new rest (lead.Opens inner) =
    (h.left ≢ []) × (broken S h ≡ None) × (inner_of S h ≡ Some (head_of inner)) × (rest ≡ follower S h)
    × Adds S (h ∷ []) before after old new

-- the same of an Advance of the program
abbrev pub Leads : Shape → Head → Counts → Counts → List Event → List Event → Advance → Type 0
Leads S h before after old new s = LeadsTo S h before after old new (head_of s.rest) s.lead

-- ---- a whole scan

-- the result of a scan: its broken header, if any, and its counts
abbrev pub found : Option BrokenHead → Counts → Taped
found b c = record { broken = b; count = c.count; visits = c.visits }

-- The result of a whole scan. The events of the region's headers up to its first error stand in
-- the buffer from index `count` on, and are counted. The broken header is that of the error.
pub record IsTaped (S : Shape) (start : Head) (count : ℕ) (old new : List Event) (t : Taped) : Type 0 where
  pub fault : fault_in t.broken ≡ fault_of (trail_of S start).1
  pub head : IfSome t.broken (λ b. IsBrokenHead S start b)
  pub visits : t.visits ≡ visits_of S (trail_of S start).0
  pub counted : t.count ≡ count + length (trail_of S start).0
  pub events : new ≡ put_from count (map (event_of S.order) (trail_of S start).0) old
