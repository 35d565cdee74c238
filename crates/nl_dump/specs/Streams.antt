-- One call of a stream.
use Rattle.std.specs.Prelude.{◌≡◌, ◌≢◌, ◌<◌, ◌≤◌, ◌+◌, ◌*◌, ℕ, true, false, List, length, Some, Result, Ok, Err}
use Rattle.nl_attr.specs.declared.events.Event.{Event}
use Rattle.nl_attr.specs.HeadOrder.{put_from}
use Rattle.nl_frame.specs.Heads.{IsFirstFault, Visits, whole}
use Rattle.nl_frame.specs.Layout.{Layout}
use Rattle.nl_frame.specs.Message.{MessageVal}
use Rattle.nl_frame.specs.OneList.{IsTheList}
use Rattle.nl_frame.specs.HeadOrder.{events_of}
use Rattle.nl_dump.specs.declared.dump.Dump.{Dump}
use Rattle.nl_dump.specs.declared.dump.End.TheVariants.{Abandoned}
use Rattle.nl_dump.specs.declared.dump.State.TheVariants.{Waiting, Ended}
use Rattle.nl_dump.specs.declared.dump.Streamed.{Streamed}
use Rattle.nl_dump.specs.declared.errors.BeginError.{BeginError}
use Rattle.nl_dump.specs.declared.errors.BeginError.TheVariants.{Busy, SameSeq, Memory}
use Rattle.nl_dump.specs.declared.errors.NotWaiting.{NotWaiting as IsNotWaiting}
use Rattle.nl_dump.specs.declared.errors.StreamError.{StreamError}
use Rattle.nl_dump.specs.declared.errors.StreamError.TheVariants.{NotWaiting, Total, TooLarge, Layout as Fault, Room}
use Rattle.nl_dump.specs.declared.standing.Standing.{Standing}
use Rattle.nl_dump.specs.Steps.{CanLook, IsWaiting, IsProgressOf, IsStreamed, last_seq}
use Rattle.nl_dump.specs.Handed.{item_events}

-- one call of `begin`
abbrev pub StreamBegan : Standing → Dump → Result (Unit {0}) BeginError → Standing → Type 0
StreamBegan before d (Err Busy) after = IsWaiting before.state × (after ≡ before)
StreamBegan before d (Err SameSeq) after = (IsWaiting before.state → ⊥) × (last_seq before.state ≡ Some d.seq) × (after ≡ before)
StreamBegan before d (Err Memory) after = ⊥
StreamBegan before d (Ok u) after =
    (IsWaiting before.state → ⊥) × (last_seq before.state ≢ Some d.seq)
    × (after ≡ record before { state = Waiting d; ignored = 0; damaged = false; interrupted = false })

-- one call of `abandon`
abbrev pub StreamAbandons : Standing → Result (Unit {0}) IsNotWaiting → Standing → Type 0
StreamAbandons before (Ok u) after = (d : Dump) × (before.state ≡ Waiting d) × (after ≡ record before { state = Ended d Abandoned })
StreamAbandons before (Err e) after = (IsWaiting before.state → ⊥) × (after ≡ before)

-- after a datagram of n bytes was refused, with so many visits: the dump's answer stays
abbrev pub refused_by : Standing → ℕ → ℕ → Standing
refused_by s n visits = record s { damaged = true; received = s.received + n; visits = s.visits + visits }

-- the events of the datagram's headers stand in the buffer, as far as it has room
abbrev pub AllPut : Standing → List ℕ → List Event → List Event → Type 0
AllPut s bytes old new = new ≡ put_from 0 (events_of s.limits.shape (whole bytes)) old

-- there is room for all events; the items' are at the front of the buffer, and are counted
pub record AreHanded (d : Dump) (bytes : List ℕ) (ms : List MessageVal) (s : Standing) (old new : List Event) (answer : ℕ) : Type 0 where
  pub room : length (events_of s.limits.shape (whole bytes)) ≤ length old
  pub events : new ≡ put_from 0 (item_events s.limits.shape d ms bytes) (put_from 0 (events_of s.limits.shape (whole bytes)) old)
  pub count : answer ≡ length (item_events s.limits.shape d ms bytes)

module _ (before : Standing) (bytes : List ℕ) (old : List Event) where
  -- one call of `feed`
  abbrev pub StreamFed : Result Streamed StreamError → Standing → List Event → Type 0
  StreamFed (Err NotWaiting) after new = (IsWaiting before.state → ⊥) × (after ≡ before) × (new ≡ old)
  StreamFed (Err Total) after new =
      IsWaiting before.state × (before.limits.total < before.received + length bytes)
      × (after ≡ record before { damaged = true }) × (new ≡ old)
  StreamFed (Err TooLarge) after new =
      IsWaiting before.state × (before.received + length bytes ≤ before.limits.total)
      × (before.limits.datagram < length bytes) × (after ≡ refused_by before (length bytes) 0) × (new ≡ old)
  StreamFed (Err (Fault f)) after new =
      CanLook before bytes × IsFirstFault before.limits.shape (whole bytes) f.place f.reason
      × ((visits : ℕ) × Visits before.limits.shape (whole bytes) f.place visits × (after ≡ refused_by before (length bytes) visits))
      × AllPut before bytes old new
  -- a buffer with less room than that changes nothing but its content
  StreamFed (Err (Room n)) after new =
      CanLook before bytes × ((ms : List MessageVal) × Layout before.limits.shape ms bytes)
      × (n ≡ length (events_of before.limits.shape (whole bytes))) × (length old < n) × (after ≡ before)
      × AllPut before bytes old new
  StreamFed (Ok s) after new =
      CanLook before bytes
      × ((d : Dump) × (ms : List MessageVal) × (visits : ℕ) × IsStreamed d bytes ms visits before after × IsProgressOf d ms s.progress
      × AreHanded d bytes ms before old new s.events)

  -- the dump's answer stays
  pub record StaysAnswer (after : Standing) : Type 0 where
    pub state : after.state ≡ before.state
    pub ignored : after.ignored ≡ before.ignored
    pub interrupted : after.interrupted ≡ before.interrupted

  -- a datagram is refused, a fault being the first, or is taken as its one list
  abbrev pub IsStreamAnswered : Result Streamed StreamError → Standing → Type 0
  IsStreamAnswered (Ok s) after = (ms : List MessageVal) × IsTheList before.limits bytes ms
  IsStreamAnswered (Err (Fault f)) after = IsFirstFault before.limits.shape (whole bytes) f.place f.reason × StaysAnswer after
  IsStreamAnswered (Err NotWaiting) after = after ≡ before
  IsStreamAnswered (Err (Room n)) after = after ≡ before
  IsStreamAnswered (Err e) after = StaysAnswer after

  -- the bound on the visits holds after it, and it is answered so
  pub record EveryStreamed (r : Result Streamed StreamError) (after : Standing) : Type 0 where
    pub visits : after.visits ≤ (after.limits.shape.depth + 1) * after.received
    pub answer : IsStreamAnswered r after
