-- The state of the loop that reads a region, for its proof alone: no public clause cites this
-- file.
--
-- A region is open from where its first byte is read until its last. Where an attribute holds a
-- region, the region around it waits, with what it has collected, while the inner one is read.
-- First this file says what reading comes to from such a state on: what is collected, then what is
-- left, then whatever waits. Each turn of the loop keeps that outcome, so at the end it is that of
-- the whole region. Then it says where open regions lie, which bounds the loop and the stack.
use Rattle.std.specs.Prelude.{◌≡◌, ◌+◌, ◌<◌, ◌≤◌, ℕ, suc, List, [], ◌∷◌, ◌++◌, length, map, Some, None, Result, Ok, Err}
use Rattle.std.specs.Global.{Vec}
use Rattle.nl_attr.specs.Fixed.{LONGEST_REGION, FARTHEST_END}
use Rattle.nl_attr.specs.declared.fault.ListError.{ListError}
use Rattle.nl_attr.specs.declared.fault.ListError.TheVariants.{Layout, Memory}
use Rattle.nl_attr.specs.declared.tree.AttrFlags.{AttrFlags}
use Rattle.nl_attr.specs.declared.tree.Attr.{Attr}
use Rattle.nl_attr.specs.declared.tree.Ctx.{Ctx}
use Rattle.nl_attr.specs.declared.walk.attrs.Part.{Part}
use Rattle.nl_attr.specs.declared.stack.regions.ListRegion.{ListRegion}
use Rattle.nl_attr.specs.declared.stack.regions.HopsRegion.{HopsRegion}
use Rattle.nl_attr.specs.declared.stack.regions.HopHead.{HopHead}
use Rattle.nl_attr.specs.declared.region.Parts.{Parts}
use Rattle.nl_attr.specs.declared.stack.attributes.Opening.{Opening}
use Rattle.nl_attr.specs.declared.stack.attributes.Turn.{Turn}
use Rattle.nl_attr.specs.declared.stack.attributes.Turn.TheVariants as turn
use Rattle.nl_attr.specs.declared.stack.next_hops.HopTurn.{HopTurn}
use Rattle.nl_attr.specs.declared.stack.next_hops.HopTurn.TheVariants as hop_turn
use Rattle.nl_attr.specs.declared.stack.next_hops.HopsTurn.{HopsTurn}
use Rattle.nl_attr.specs.declared.stack.next_hops.HopsTurn.TheVariants as hops_turn
use Rattle.nl_attr.specs.declared.stack.nested.ListWaits.{ListWaits}
use Rattle.nl_attr.specs.declared.stack.nested.Outer.{Outer}
use Rattle.nl_attr.specs.declared.stack.nested.Outer.TheVariants as outer
use Rattle.nl_attr.specs.declared.stack.nested.Next.{Next}
use Rattle.nl_attr.specs.declared.stack.nested.Next.TheVariants as next
use Rattle.nl_attr.specs.Shape.{Shape}
use Rattle.nl_attr.specs.Walk.{Region}
use Rattle.nl_attr.specs.Tree.{Val, list, hops, Items, item, HopItems, hop}
use Rattle.nl_attr.specs.View.{attr_view, hop_view, attrs_view, hops_view}
use Rattle.nl_attr.specs.Heads.{Sort, attr_head, hop_head, broken_container}
use Rattle.nl_attr.specs.Region.{content_in, sort_in}
use Rattle.nl_attr.specs.Reading.{Outcome, and_then, map_value, more_visits, items_of_region, hops_of_region, value_at}

-- ---- what reading comes to from here on

-- the items collected so far, put in front of those that follow
abbrev pub before : {A : Type 0} → List (A → A) → A → A
before [] is = is
before (f ∷ fs) is = f (before fs is)

-- what the loop answers at an attribute that holds a region: the region to open, or the fault of
-- the container
abbrev pub TurnsAt : Shape → ℕ → ℕ → Part → Parts → Turn → Type 0
TurnsAt S level base p parts turn.Ends = ⊥
TurnsAt S level base p parts (turn.Opens o) =
    (o ≡ record { number = p.number; flags = p.flags; place = base + p.place + 4; payload = p.payload; parts = parts })
    × (broken_container S level (content_in parts) (length p.payload.now + 4) ≡ None)
TurnsAt S level base p parts (turn.Fails (Layout f)) =
    (f.place ≡ base + p.place)
    × (broken_container S level (content_in parts) (length p.payload.now + 4) ≡ Some f.reason)
TurnsAt S level base p parts (turn.Fails Memory) = ⊥

module _ (S : Shape) where
  -- what the bytes that are left of a region of attributes are read as
  abbrev pub items_left : ListRegion → Outcome Items
  items_left r = items_of_region S r.ctx r.level (r.base + r.walk.place) r.walk.left

  -- the same of a region of next hops
  abbrev pub hops_left : HopsRegion → Outcome HopItems
  hops_left r = hops_of_region S r.level (r.base + r.walk.place) r.walk.left

  -- all attributes of an open region: those collected, then those that are left
  abbrev pub list_rest : ListRegion → Outcome Items
  list_rest r = map_value (before (map attr_view r.list.items)) (items_left r)

  -- all next hops of an open region, likewise
  abbrev pub hops_rest : HopsRegion → Outcome HopItems
  hops_rest r = map_value (before (map hop_view r.list.items)) (hops_left r)

  -- a region waits for the value of its attribute of this number: once that is known, it is
  -- collected and the rest read
  abbrev pub list_goes_on : ListRegion → ℕ → AttrFlags → Val → Outcome Items
  list_goes_on r number flags v = map_value (λ is. before (map attr_view r.list.items) (item number flags v is)) (items_left r)

  -- a region of next hops waits for the attributes of one of them, likewise
  abbrev pub hops_go_on : HopsRegion → HopHead → Items → Outcome HopItems
  hops_go_on r h is = map_value (λ hs. before (map hop_view r.list.items) (hop h.flags h.hops h.ifindex is hs)) (hops_left r)

  -- a region opens in this one: the inner one is read whole, then the rest of this one with its
  -- value
  abbrev pub opening_rest : ListRegion → Opening → Outcome Items
  opening_rest r p = and_then (value_at S (content_in p.parts) r.level p.place p.payload.now) (list_goes_on r p.number p.flags)

  -- the same of a region as it is kept while it waits
  abbrev pub waiting_goes_on : ListWaits → Val → Outcome Items
  waiting_goes_on w v = list_goes_on w.region w.number w.flags v

  -- what next hops come to is the value for which a region waits
  abbrev pub hops_then : ListWaits → Outcome HopItems → Outcome Items
  hops_then w o = and_then o (λ hs. waiting_goes_on w (hops hs))

  -- one entry of the stack, given the attributes for which it waits
  abbrev pub goes_on : Outer → Items → Outcome Items
  goes_on (outer.List w) is = waiting_goes_on w (list is)
  goes_on (outer.Hops w h) is = hops_then w (hops_go_on h.region h.head is)

  -- the region that is read next, and behind it the entry of the stack that waits for it, if it is
  -- new
  abbrev pub next_rest : Next → Outcome Items
  next_rest (next.Opens f r) = and_then (list_rest r) (goes_on f)
  next_rest (next.Goes r) = list_rest r

-- Reading stops with this error. Before this turn n bytes were visited and reading from there on
-- came to o; m are visited now.
abbrev pub FailsAs : {A : Type 0} → ℕ → Outcome A → ℕ → ListError → Type 0
FailsAs n o m (Layout f) = more_visits n o ≡ (Err f, m)
FailsAs n o m Memory = m ≤ n + o.1

-- A turn keeps the outcome: n visits and o before it say the same as m visits and what the turn
-- answers.
abbrev pub Goes : Shape → ℕ → Outcome Items → ℕ → ListRegion → Turn → Type 0
Goes S n o m r turn.Ends = more_visits n o ≡ (Ok (attrs_view r.list.items), m)
Goes S n o m r (turn.Opens p) = more_visits n o ≡ more_visits m (opening_rest S r p)
Goes S n o m r (turn.Fails e) = FailsAs n o m e

-- the same of a turn in a region of next hops
abbrev pub HopGoes : Shape → ℕ → Outcome HopItems → ℕ → HopsRegion → HopTurn → Type 0
HopGoes S n o m r hop_turn.Ends = more_visits n o ≡ (Ok (hops_view r.list.items), m)
HopGoes S n o m r (hop_turn.Opens h a) = more_visits n o ≡ more_visits m (and_then (list_rest S a) (hops_go_on S r h))
HopGoes S n o m r (hop_turn.Fails e) = FailsAs n o m e

-- the same of a turn that reads the attributes of its next hops too, up to one in which a region opens
abbrev pub HopsGo : Shape → ℕ → Outcome HopItems → ℕ → HopsRegion → HopsTurn → Type 0
HopsGo S n o m r hops_turn.Ends = more_visits n o ≡ (Ok (hops_view r.list.items), m)
HopsGo S n o m r (hops_turn.Opens h a p) = more_visits n o ≡ more_visits m (and_then (opening_rest S a p) (hops_go_on S r h))
HopsGo S n o m r (hops_turn.Fails e) = FailsAs n o m e

-- the same of a step that chooses which region is read next
abbrev pub NextGoes : Shape → ℕ → Outcome Items → ℕ → Result Next ListError → Type 0
NextGoes S n o m (Ok x) = more_visits n o ≡ more_visits m (next_rest S x)
NextGoes S n o m (Err e) = FailsAs n o m e

-- a region of attributes of which so much is left, and so much was collected
abbrev pub region_at : Region → Vec Attr → ℕ → ℕ → Ctx → ListRegion
region_at walk kept base level ctx = record { walk = walk; list = kept; base = base; level = level; ctx = ctx }

-- ---- where open regions lie

-- where an open region lies: its offset (base) and level in the datagram, and what is left of it
pub record Spot : Type 0 where
  pub sort : Sort
  pub base : ℕ
  pub level : ℕ
  pub region : Region

-- of attributes
abbrev pub list_spot : ListRegion → Spot
list_spot r = record { sort = attr_head; base = r.base; level = r.level; region = r.walk }

-- of next hops
abbrev pub hops_spot : HopsRegion → Spot
hops_spot r = record { sort = hop_head; base = r.base; level = r.level; region = r.walk }

-- a region of which nothing is read
abbrev pub spot_of : Shape → Sort → ℕ → ℕ → List ℕ → Spot
spot_of S sort base level left = record { sort = sort; base = base; level = level; region = record { order = S.order; place = 0; left = left } }

-- the region that an attribute holds, of which nothing is read
abbrev pub opening_spot : Shape → ListRegion → Opening → Spot
opening_spot S r p = spot_of S (sort_in p.parts) p.place (r.level + 1) p.payload.now

-- where a region ends, counted from its base
abbrev pub spot_end : Spot → ℕ
spot_end s = s.region.place + length s.region.left

-- how many levels must be left below it: the attributes of a next hop lie one further down
abbrev pub levels_in : Sort → ℕ
levels_in attr_head = 0
levels_in hop_head = 1

-- what holds of each open region, so that no sum of places or levels leaves its type
pub record IsWithinLimits (S : Shape) (s : Spot) : Type 0 where
  pub order : s.region.order ≡ S.order
  pub level : s.level + levels_in s.sort ≤ S.depth
  pub size : spot_end s ≤ LONGEST_REGION
  pub place : s.base + spot_end s ≤ FARTHEST_END

-- where a region may open: at this level, and no further than this place
pub record Room : Type 0 where
  pub level : ℕ
  pub to : ℕ

-- a region lies there, within the limits
pub record IsIn (S : Shape) (r : Room) (s : Spot) : Type 0 where
  pub level : s.level ≡ r.level
  pub inside : s.base + spot_end s ≤ r.to
  pub limits : IsWithinLimits S s

-- inside the item that was read last: one level down, and before the offset that the region has
-- come to
abbrev pub room_in : Spot → Room
room_in s = record { level = s.level + 1; to = s.base + s.region.place }

-- where the region of attributes of a stack entry lies
abbrev pub outer_spot : Outer → Spot
outer_spot (outer.List w) = list_spot w.region
outer_spot (outer.Hops w h) = list_spot w.region

-- where an entry has next hops, they lie in its region
abbrev pub Holds : Shape → Outer → Type 0
Holds S (outer.List w) = Unit {0}
Holds S (outer.Hops w h) = IsIn S (room_in (list_spot w.region)) (hops_spot h.region)

-- where the region lies for which an entry waits
abbrev pub outer_room : Outer → Room
outer_room (outer.List w) = room_in (list_spot w.region)
outer_room (outer.Hops w h) = room_in (hops_spot h.region)

-- What an entry has left, a number that falls with each turn of the loop: its bytes, and one for
-- each region.
abbrev pub outer_work : Outer → ℕ
outer_work (outer.List w) = suc (length w.region.walk.left)
outer_work (outer.Hops w h) = suc (length w.region.walk.left) + suc (length h.region.walk.left)

-- the same of what is read next
abbrev pub next_work : Next → ℕ
next_work (next.Opens f r) = outer_work f + suc (length r.walk.left)
next_work (next.Goes r) = suc (length r.walk.left)

-- the same region, read further
pub record Advances (s t : Spot) : Type 0 where
  pub sort : t.sort ≡ s.sort
  pub base : t.base ≡ s.base
  pub level : t.level ≡ s.level
  pub order : t.region.order ≡ s.region.order
  pub end : spot_end t ≡ spot_end s

-- a region that opens lies in the item that was read last, and less is left than before
abbrev pub Moves : Shape → Spot → ListRegion → Turn → Type 0
Moves S s r turn.Ends = Unit {0}
Moves S s r (turn.Opens p) =
    Advances s (list_spot r) × IsIn S (room_in (list_spot r)) (opening_spot S r p)
    × (length r.walk.left + suc (length p.payload.now) < length s.region.left)
Moves S s r (turn.Fails e) = Unit {0}

-- the same of the attributes of a next hop
abbrev pub HopMoves : Shape → Spot → HopsRegion → HopTurn → Type 0
HopMoves S s r hop_turn.Ends = Unit {0}
HopMoves S s r (hop_turn.Opens h a) =
    Advances s (hops_spot r) × IsIn S (room_in (hops_spot r)) (list_spot a)
    × (length r.walk.left + suc (length a.walk.left) < length s.region.left)
HopMoves S s r (hop_turn.Fails e) = Unit {0}

-- the same of a region that opens in the attributes of a next hop
abbrev pub HopsMove : Shape → Spot → HopsRegion → HopsTurn → Type 0
HopsMove S s r hops_turn.Ends = Unit {0}
HopsMove S s r (hops_turn.Opens h a p) =
    Advances s (hops_spot r) × IsIn S (room_in (hops_spot r)) (list_spot a)
    × IsIn S (room_in (list_spot a)) (opening_spot S a p)
HopsMove S s r (hops_turn.Fails e) = Unit {0}

-- what is read next is this region or lies in it, and no more than so much is left
abbrev pub NextMoves : Shape → Spot → ℕ → Result Next ListError → Type 0
NextMoves S s most (Ok (next.Opens f r)) = (outer_spot f ≡ s) × Holds S f × IsIn S (outer_room f) (list_spot r) × (next_work (next.Opens f r) ≤ most)
NextMoves S s most (Ok (next.Goes r)) = (list_spot r ≡ s) × (next_work (next.Goes r) ≤ most)
NextMoves S s most (Err e) = Unit {0}

-- a region lies where the stack entry that waits for it says
pub record LiesUnder (S : Shape) (f : Outer) (r : ListRegion) : Type 0 where
  pub limits : IsWithinLimits S (outer_spot f)
  pub holds : Holds S f
  pub inside : IsIn S (outer_room f) (list_spot r)

-- a new entry is put on the stack, where there is one, and this region is read next
abbrev pub PutsOn : List Outer → Next → List Outer → ListRegion → Type 0
PutsOn fs (next.Opens f r) gs top = (gs ≡ fs ++ f ∷ []) × (top ≡ r)
PutsOn fs (next.Goes r) gs top = (gs ≡ fs) × (top ≡ r)
