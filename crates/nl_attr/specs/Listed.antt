-- The events of a list: those of a scan of the region that it fits, in the order of its heads.
use Rattle.std.specs.Prelude.{◌+◌, ◌==◌, ℕ, if◌then◌else◌, List, [], ◌∷◌, ◌++◌}
use Rattle.nl_attr.specs.declared.events.Event.{Event}
use Rattle.nl_attr.specs.Fixed.{SORT_BYTES, SORT_LIST, SORT_HOPS}
use Rattle.nl_attr.specs.Numbers.{aligned}
use Rattle.nl_attr.specs.Tree.{Val, bytes, list, hops, Items, no_items, item, HopItems, no_hops, hop}
use Rattle.nl_attr.specs.Written.{val_len, items_len}
use Rattle.nl_attr.specs.HeadOrder.{attr_event, hop_event}

-- the sort of an attribute with this value
abbrev pub sort_of_val : Val → ℕ
sort_of_val (bytes bs) = SORT_BYTES
sort_of_val (list is) = SORT_LIST
sort_of_val (hops hs) = SORT_HOPS

abbrev mutual
  -- the heads inside a value that stands at a place and whose heads lie at a level
  pub val_events : ℕ → ℕ → Val → List Event
  val_events place l (bytes bs) = []
  val_events place l (list is) = items_events place l is
  val_events place l (hops hs) = hops_events place l hs

  -- each attribute, then the heads inside it; the next stands behind its padding
  pub items_events : ℕ → ℕ → Items → List Event
  items_events place l no_items = []
  items_events place l (item n flags v more) =
      attr_event place l n flags (sort_of_val v) (val_len v) ∷ (val_events (place + 4) (l + 1) v ++ items_events (place + aligned (4 + val_len v)) l more)

  -- each next hop, then its attributes
  pub hops_events : ℕ → ℕ → HopItems → List Event
  hops_events place l no_hops = []
  hops_events place l (hop flags count index attrs more) =
      hop_event place l (items_len attrs) ∷ (items_events (place + 8) (l + 1) attrs ++ hops_events (place + aligned (8 + items_len attrs)) l more)

-- an event with its length rounded up to a multiple of 4, but for bytes: where heads stand inside, the padding behind the last of them may be absent
abbrev pub rounded : Event → Event
rounded e = record e { len = if e.sort == SORT_BYTES then e.len else aligned e.len }
