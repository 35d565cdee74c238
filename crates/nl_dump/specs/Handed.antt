-- The events that a stream hands out of a datagram: those of the dump's items, and how many messages they are of.
use Rattle.std.specs.Prelude.{ℕ, if◌then◌else◌, List, [], ◌∷◌, ◌++◌, map, is_some, ◌≡◌, ◌+◌, ◌==◌, length}
use Rattle.nl_attr.specs.declared.events.Event.{Event}
use Rattle.nl_attr.specs.Shape.{Shape}
use Rattle.nl_attr.specs.Fixed.{SORT_MESSAGE}
use Rattle.nl_frame.specs.Heads.{header, Rest, behind, region_of, whole}
use Rattle.nl_frame.specs.Message.{MessageVal}
use Rattle.nl_frame.specs.HeadOrder.{event_of, region_trail}
use Rattle.nl_dump.specs.declared.dump.Dump.{Dump}
use Rattle.nl_dump.specs.Answer.{item_in, up_to_end, items_of}

module _ (S : Shape) where
  -- the events of the message at the front: that of its header, and those of the heads in its body
  abbrev pub message_events : Rest → List Event
  message_events r = map (event_of S.order) (header r ∷ (region_trail S (region_of S r)).0)

  -- the events of the items among messages that lie from there on, one behind the other
  abbrev pub events_among : Dump → List MessageVal → Rest → List Event
  events_among d [] r = []
  events_among d (m ∷ ms) r = if is_some (item_in d m) then message_events r ++ events_among d ms (behind S r) else events_among d ms (behind S r)

  -- the events of the items of a datagram of these messages, which come before the end as `items_of` has them
  abbrev pub item_events : Dump → List MessageVal → List ℕ → List Event
  item_events d ms bytes = events_among d (up_to_end d ms) (whole bytes)

-- the events of messages' headers among these
abbrev pub headers_in : List Event → ℕ
headers_in [] = 0
headers_in (e ∷ es) = (if e.sort == SORT_MESSAGE then 1 else 0) + headers_in es

-- among the events of a datagram's items there is one header for each item
abbrev pub OneHeaderForEachItem : Type 0
OneHeaderForEachItem = (S : Shape) (d : Dump) (ms : List MessageVal) (bytes : List ℕ) → headers_in (item_events S d ms bytes) ≡ length (items_of d ms)
