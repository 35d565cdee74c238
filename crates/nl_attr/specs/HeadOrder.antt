-- The headers of a region in the order in which a scan visits them, up to the first error; and the
-- event of each.
use Rattle.std.specs.Prelude.{◌≡◌, ◌<◌, ◌⊎◌, ◌+◌, ◌-◌, ◌%◌, ℕ, false, List, ◌++◌, length, take, drop, Option, Some, None}
use Rattle.nl_attr.specs.Fixed.{NUMBERS, SORT_BYTES, SORT_LIST, SORT_HOPS, SORT_NEXT_HOP}
use Rattle.nl_attr.specs.declared.fault.Fault.{Fault}
use Rattle.nl_attr.specs.declared.fault.Reason.{Reason}
use Rattle.nl_attr.specs.declared.tree.AttrFlags.{AttrFlags}
use Rattle.nl_attr.specs.declared.tree.Content.{Content}
use Rattle.nl_attr.specs.declared.tree.Content.TheVariants as content
use Rattle.nl_attr.specs.declared.order.Order.{Order}
use Rattle.nl_attr.specs.declared.events.Event.{Event}
use Rattle.nl_attr.specs.Shape.{Shape}
use Rattle.nl_attr.specs.Numbers.{kind_of}
use Rattle.nl_attr.specs.Walk.{flags_of, payload_of}
use Rattle.nl_attr.specs.Heads.{Sort, attr_head, hop_head, Head, content_at, unsound, IsSound, heads}
use Rattle.nl_attr.specs.Grammar.{TrailOf, unless}
use Rattle.nl_attr.specs.Grammar as grammar

-- ---- the headers in their order

-- headers in the order of a scan, and the error that ends it
abbrev pub Trail : Type 0
Trail = TrailOf Head

module _ (S : Shape) where
  -- the trail of the region that begins with this header
  abbrev pub trail_of : Head → Trail
  trail_of = grammar.trail_of (heads S)

  -- how many bytes the items of these headers occupy
  abbrev pub visits_of : List Head → ℕ
  visits_of = grammar.visits_of (heads S)

  -- the header alone, where its length is valid; else nothing
  abbrev pub counted : Head → List Head
  counted h = unless (unsound S h) h

  -- why a trail ends: no header of the region breaks a rule, or this is the first error
  abbrev pub IsEnd : Head → Option (ℕ × Reason) → Type 0
  IsEnd = grammar.IsEnd (heads S)

  -- A scan visits this header before that end. Without an error it visits each; else each before
  -- the error, and the broken one too where its length is valid.
  abbrev pub ComesBefore : Option (ℕ × Reason) → Head → Type 0
  ComesBefore None h = Unit {0}
  ComesBefore (Some f) h = (h.place < f.0) ⊎ ((h.place ≡ f.0) × IsSound S h)

-- the error of a trail, as the code answers it
abbrev pub fault_of : Option (ℕ × Reason) → Option Fault
fault_of None = None
fault_of (Some f) = Some (record { place = f.0; reason = f.1 })

-- ---- their events

-- `Event::sort` of an attribute with this content
abbrev pub sort_of : Content → ℕ
sort_of content.Bytes = SORT_BYTES
sort_of (content.List c) = SORT_LIST
sort_of content.Hops = SORT_HOPS

-- the event of an attribute: its offset, level, type and flags, its sort, and its payload's length
abbrev pub attr_event : ℕ → ℕ → ℕ → AttrFlags → ℕ → ℕ → Event
attr_event place l n flags sort len = record { place = place; len = len; number = n; level = l; sort = sort; nested = flags.nested; net = flags.net }

-- the event of a next hop: its offset, its level, and how many bytes its attributes have
abbrev pub hop_event : ℕ → ℕ → ℕ → Event
hop_event place l len = record { place = place; len = len; number = 0; level = l; sort = SORT_NEXT_HOP; nested = false; net = false }

-- the event of a header of this kind
abbrev pub event_at : Order → Sort → Head → Event
event_at o attr_head h =
    let k = kind_of o h.left in
    attr_event h.place h.level (k % NUMBERS) (flags_of k) (sort_of (content_at o h.ctx h.left)) (length (payload_of o 4 2 h.left))
event_at o hop_head h = hop_event h.place h.level (length (payload_of o 8 2 h.left))

-- the event of a header
abbrev pub event_of : Order → Head → Event
event_of o h = event_at o h.sort h

-- a buffer after events were put from index n on: what stood before them, as many of them as fit,
-- and what stood behind them
abbrev pub put_from : ℕ → List Event → List Event → List Event
put_from n es old = take n old ++ (take (length old - n) es ++ drop (n + length es) old)
