-- The call of a stream that hands a datagram's items out as messages.
use Rattle.std.specs.Prelude.{◌≡◌, ◌<◌, ◌≤◌, ◌+◌, ◌*◌, ℕ, true, [], List, length, map, filter, Some, is_some, Result, Ok, Err}
use Rattle.nl_frame.specs.Heads.{IsFirstFault, Visits, whole}
use Rattle.nl_frame.specs.Message.{MessageVal}
use Rattle.nl_frame.specs.OneList.{IsTheList}
use Rattle.nl_frame.specs.View.{message_view}
use Rattle.nl_dump.specs.declared.dump.Dump.{Dump}
use Rattle.nl_dump.specs.declared.dump.ItemsRead.{ItemsRead}
use Rattle.nl_dump.specs.declared.errors.FeedError.{FeedError}
use Rattle.nl_dump.specs.declared.errors.FeedError.TheVariants.{NotWaiting, Total, TooLarge, Layout as Fault, Memory}
use Rattle.nl_dump.specs.declared.standing.Standing.{Standing}
use Rattle.nl_dump.specs.Answer.{item_in, up_to_end, items_of}
use Rattle.nl_dump.specs.Steps.{CanLook, IsWaiting, IsProgressOf, IsStreamed}
use Rattle.nl_dump.specs.Streams.{refused_by, StaysAnswer}

-- the messages that are items: of those up to the end the ones that bring one
abbrev pub item_messages : Dump → List MessageVal → List MessageVal
item_messages d ms = filter (λ m. is_some (item_in d m)) (up_to_end d ms)

-- each of them brings one item, and these are the items, in their order
abbrev pub MessagesBringItems : Type 0
MessagesBringItems = (d : Dump) (ms : List MessageVal) → map (item_in d) (item_messages d ms) ≡ map Some (items_of d ms)

module _ (before : Standing) (bytes : List ℕ) where
  -- one call of `read`
  abbrev pub StreamRead : Result ItemsRead FeedError → Standing → Type 0
  StreamRead (Err NotWaiting) after = (IsWaiting before.state → ⊥) × (after ≡ before)
  StreamRead (Err Total) after =
      IsWaiting before.state × (before.limits.total < before.received + length bytes)
      × (after ≡ record before { damaged = true })
  StreamRead (Err TooLarge) after =
      IsWaiting before.state × (before.received + length bytes ≤ before.limits.total)
      × (before.limits.datagram < length bytes) × (after ≡ refused_by before (length bytes) 0)
  StreamRead (Err (Fault f)) after =
      CanLook before bytes × IsFirstFault before.limits.shape (whole bytes) f.place f.reason
      × ((visits : ℕ) × Visits before.limits.shape (whole bytes) f.place visits × (after ≡ refused_by before (length bytes) visits))
  StreamRead (Err Memory) after =
      CanLook before bytes
      × ((visits : ℕ) × (visits ≤ (before.limits.shape.depth + 1) * length bytes) × (after ≡ refused_by before (length bytes) visits))
  StreamRead (Ok r) after =
      CanLook before bytes
      × ((d : Dump) × (ms : List MessageVal) × (visits : ℕ) × IsStreamed d bytes ms visits before after × IsProgressOf d ms r.progress
      × (map message_view r.items.items ≡ item_messages d ms))

  -- a datagram is refused, a fault being the first, or is taken as its one list
  abbrev pub IsReadAnswered : Result ItemsRead FeedError → Standing → Type 0
  IsReadAnswered (Ok r) after = (ms : List MessageVal) × IsTheList before.limits bytes ms
  IsReadAnswered (Err (Fault f)) after = IsFirstFault before.limits.shape (whole bytes) f.place f.reason × StaysAnswer before bytes [] after
  IsReadAnswered (Err NotWaiting) after = after ≡ before
  IsReadAnswered (Err e) after = StaysAnswer before bytes [] after

  -- the bound on the visits holds after it, and it is answered so
  pub record EveryRead (r : Result ItemsRead FeedError) (after : Standing) : Type 0 where
    pub visits : after.visits ≤ (after.limits.shape.depth + 1) * after.received
    pub answer : IsReadAnswered r after
