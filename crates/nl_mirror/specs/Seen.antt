-- A replica, seen through what its entries stand for.
use Rattle.std.specs.Prelude.{ℕ, List, map}
use Rattle.nl_mirror.specs.declared.change.Change.{Change}
use Rattle.nl_mirror.specs.declared.change.Change.TheVariants.{Now, Gone}
use Rattle.nl_mirror.specs.Changes.{Held}
use Rattle.nl_mirror.specs.Replicated.{Replicated}
use Rattle.nl_mirror.specs.Past.{Event, begins, brings, ends, tells, overflows, loses, fails}

module _ {S T : Type 0} (f : S → T) where
  abbrev pub change_seen : Change S → Change T
  change_seen (Now x) = Now (f x)
  change_seen (Gone x) = Gone (f x)

  abbrev pub held_seen : Held S → Held T
  held_seen h = record { entries = map (λ (e : List ℕ × S). (e.0, f e.1)) h.entries; missed = h.missed }

  abbrev pub replica_seen : Replicated S → Replicated T
  replica_seen m = record {
    order = m.order;
    limit = m.limit;
    waiting = m.waiting;
    table = held_seen m.table;
    coming = held_seen m.coming;
    since = map change_seen m.since;
    dumps = m.dumps;
    lost = m.lost;
    why = m.why;
  }

  abbrev pub event_seen : Event S → Event T
  event_seen begins = begins
  event_seen (brings x) = brings (f x)
  event_seen (ends whole) = ends whole
  event_seen (tells c) = tells (change_seen c)
  event_seen overflows = overflows
  event_seen (loses why) = loses why
  event_seen fails = fails
