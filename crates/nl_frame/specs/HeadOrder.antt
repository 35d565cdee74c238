-- The headers of a datagram in the order of a scan, up to the first error; and their events.
use Rattle.std.specs.Prelude.{◌≡◌, ℕ, false, List, [], length, map, Option, Some, None}
use Rattle.nl_attr.specs.declared.events.Event.{Event}
use Rattle.nl_attr.specs.Fixed.{SORT_MESSAGE}
use Rattle.nl_attr.specs.declared.fault.Reason.{Reason}
use Rattle.nl_attr.specs.declared.order.Order.{Order}
use Rattle.nl_attr.specs.Shape.{Shape}
use Rattle.nl_attr.specs.Grammar.{TrailOf, UpTo}
use Rattle.nl_attr.specs.Grammar as grammar
use Rattle.nl_attr.specs.Heads.{Head}
use Rattle.nl_attr.specs.HeadOrder as region
use Rattle.nl_frame.specs.Header.{header_of}
use Rattle.nl_frame.specs.Front.{payload_at}
use Rattle.nl_frame.specs.Heads.{AnyHead, header, inner, Rest, place_of, uncounted, heads, HeadAt}

-- headers in the order of a scan, and the error that ends it, if any
abbrev pub Trail : Type 0
Trail = TrailOf AnyHead

module _ (S : Shape) where
  -- the trail of a message's attributes, where its body is a family's
  abbrev pub region_trail : Option Head → Trail
  region_trail None = ([], None)
  region_trail (Some h) = (map inner (region.trail_of S h).0, (region.trail_of S h).1)

  -- the trail from these bytes on: each message's header, and behind it those in its body
  abbrev pub trail_of : Rest → Trail
  trail_of r = grammar.trail_of (heads S) (header r)

  -- how many bytes the attributes and the next hops among these occupy
  abbrev pub visits_of : List AnyHead → ℕ
  visits_of = grammar.visits_of (heads S)

  -- the header, from r on, of a message that breaks no rule, or of an item of valid length in one
  abbrev pub StandsIn : Rest → AnyHead → Type 0
  StandsIn r h = HeadAt S r h × (uncounted S h ≡ None)

  -- why a trail ends: no header breaks a rule, or this is the first error
  abbrev pub IsEnd : Rest → Option (ℕ × Reason) → Type 0
  IsEnd r = grammar.IsEnd (heads S) (header r)

-- the offset of a header is no greater than that of the error, if there is one
abbrev pub ComesUpTo : Option (ℕ × Reason) → AnyHead → Type 0
ComesUpTo end h = UpTo end (place_of h)

-- ---- their events

-- the event of a message's header: its offset, its type, and its payload's length
abbrev pub header_event : ℕ → ℕ → ℕ → Event
header_event place kind len = record { place = place; len = len; number = kind; level = 0; sort = SORT_MESSAGE; nested = false; net = false }

-- the event of a header
abbrev pub event_of : Order → AnyHead → Event
event_of o (header r) = header_event r.place (header_of o r.left).kind (length (payload_at o r.left))
event_of o (inner h) = region.event_of o h

-- the events of the headers from these bytes on
abbrev pub events_of : Shape → Rest → List Event
events_of S r = map (event_of S.order) (trail_of S r).0
