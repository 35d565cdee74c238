-- What private functions make of datagrams and messages. No public clause cites this module.
use Rattle.std.specs.Prelude.{◌≡◌, ◌≢◌, ◌+◌, ◌&&◌, ◌||◌, ◌==◌, not, if◌then◌else◌, bit_and, ℕ, Bool, List, length, map, filter_map, Option, Some, None, is_some, ◌<◌, ◌≤◌, Result, Ok, Err, true, false}
use Rattle.std.specs.List.{AllByRecursion}
use Rattle.nl_frame.specs.Message.{MessageVal}
use Rattle.nl_frame.specs.Limits.{Bounds}
use Rattle.nl_frame.specs.Layout.{Layout}
use Rattle.nl_frame.specs.Heads.{IsFirstFault, Visits, whole}
use Rattle.nl_frame.specs.HeadOrder.{events_of}
use Rattle.nl_frame.specs.View.{message_view}
use Rattle.nl_route.specs.declared.family.Family.{Family}
use Rattle.nl_route.specs.declared.family.Verb.TheVariants.{New}
use Rattle.nl_route.specs.Families.{type_of}
use Rattle.nl_frame.specs.declared.scanning.ScanError.{ScanError}
use Rattle.nl_frame.specs.declared.scanning.ScanError.TheVariants as unscanned
use Rattle.nl_dump.specs.declared.dump.Dump.{Dump}
use Rattle.nl_dump.specs.declared.dump.End.{End}
use Rattle.nl_dump.specs.declared.role.Role.{Role}
use Rattle.nl_dump.specs.declared.role.Role.TheVariants.{Item as Brings, End as Ends, Other}
use Rattle.nl_dump.specs.declared.items.PickedItems.{PickedItems}
use Rattle.nl_dump.specs.declared.counts.Taken.{Taken}
use Rattle.nl_dump.specs.declared.dump.State.{State}
use Rattle.nl_dump.specs.declared.dump.State.TheVariants.{Waiting}
use Rattle.nl_dump.specs.declared.errors.BeginError.{BeginError}
use Rattle.nl_dump.specs.declared.errors.BeginError.TheVariants.{Busy, SameSeq, Memory}
use Rattle.nl_dump.specs.declared.errors.FeedError.{FeedError}
use Rattle.nl_dump.specs.declared.errors.FeedError.TheVariants as feed
use Rattle.nl_dump.specs.declared.errors.StreamError.{StreamError}
use Rattle.nl_dump.specs.declared.errors.StreamError.TheVariants.{TooLarge, Layout as Fault, Room}
use Rattle.nl_dump.specs.declared.tables.Tables.{Tables}
use Rattle.nl_dump.specs.declared.role.Found.{Found}
use Rattle.nl_dump.specs.declared.counts.Counts.{Counts}
use Rattle.nl_dump.specs.declared.standing.Standing.{Standing}
use Rattle.nl_dump.specs.declared.events.PickedEvents.{PickedEvents}
use Rattle.nl_dump.specs.Items.{Item, body_item}
use Rattle.nl_dump.specs.Answer.{belongs, item_in, end_in, items_of, end_of, interrupted_of, one_if, state_by}
use Rattle.nl_dump.specs.View.{table_at}
use Rattle.nl_dump.specs.Steps.{IsProgressOf, IsWaiting, PutInto, last_seq}
use Rattle.nl_dump.specs.Handed.{item_events}
use Rattle.nl_dump.specs.Reading.{item_messages}
use Rattle.nl_attr.specs.declared.events.Event.{Event}
use Rattle.nl_attr.specs.HeadOrder.{put_from}

-- the role of a message that has this end, or else brings an item or not
abbrev pub role_of : Option End → Bool → Role (Unit {0})
role_of (Some e) brings = Ends e
role_of None brings = if brings then Brings tt else Other

-- what a message is to a dump
abbrev pub role_for : Dump → MessageVal → Role (Unit {0})
role_for d m = role_of (end_in d m) (is_some (item_in d m))

-- the same, where a NEW message is known to have a body of its family
abbrev pub role_by_kind : Dump → MessageVal → Role (Unit {0})
role_by_kind d m = role_of (end_in d m) (belongs d m && (m.kind == type_of d.kind New))

-- the flag NLM_F_DUMP_INTR is set
abbrev pub is_marked : ℕ → Bool
is_marked flags = not (bit_and flags 16 == 0)

-- what is found of a message
abbrev pub found_of : Dump → MessageVal → Found
found_of d m = record { role = role_for d m; marked = is_marked m.flags }

-- how many messages are ignored; whether they interrupt the dump, and how they end it
pub record Sums (d : Dump) (ms : List MessageVal) (ignored : ℕ) (interrupted : Bool) (end : Option End) : Type 0 where
  pub ignored_is : ignored + (length (items_of d ms) + one_if (is_some (end_of d ms))) ≡ length ms
  pub interrupted_is : interrupted ≡ interrupted_of d ms
  pub end_is : end ≡ end_of d ms

-- the items that these messages bring, where their bodies are of this family
abbrev pub brought : Family → List MessageVal → List Item
brought k ms = filter_map (λ m. body_item k m.body) ms

-- the entries that these messages bring, each under its key
pub record AreKeyed {T : Type 0} (item : T → Item) (key : T → List ℕ) (k : Family) (ms : List MessageVal) (entries : List (List ℕ × T)) : Type 0 where
  pub items : map (λ p. item p.1) entries ≡ brought k ms
  pub keyed : AllByRecursion (λ p. p.0 ≡ key p.1) entries

-- these counts are those of the messages
pub record AreCounts (d : Dump) (ms : List MessageVal) (s : Counts) : Type 0 where
  pub items : s.items ≡ length (items_of d ms)
  pub sums : Sums d ms s.ignored s.interrupted s.end

-- ---- what becomes of the messages of a datagram

-- the sum over the messages: progress, whether they interrupt the dump, and how they end it
abbrev pub IsSummaryOf : Dump → List MessageVal → Taken → Type 0
IsSummaryOf d ms t = IsProgressOf d ms t.progress × (t.interrupted ≡ interrupted_of d ms) × (t.end ≡ end_of d ms)

-- the counts, as they are answered
abbrev pub taken_of : Counts → Taken
taken_of s = record { progress = record { items = s.items; ignored = s.ignored; ended = is_some s.end }; interrupted = s.interrupted; end = s.end }

-- whether a dump of this sequence number may begin
abbrev pub MayBegin : State → ℕ → Result (Unit {0}) BeginError → Type 0
MayBegin s seq (Ok u) = (IsWaiting s → ⊥) × (last_seq s ≢ Some seq)
MayBegin s seq (Err Busy) = IsWaiting s
MayBegin s seq (Err SameSeq) = (IsWaiting s → ⊥) × (last_seq s ≡ Some seq)
MayBegin s seq (Err Memory) = ⊥

-- a stream after a dump began
abbrev pub begun_by : Standing → Dump → Standing
begun_by s d = record s { state = Waiting d; ignored = 0; damaged = false; interrupted = false }

-- a stream after it took a datagram of n bytes, of which so many were visited
abbrev pub taken_by : Standing → Dump → ℕ → ℕ → Taken → Standing
taken_by s d n visits t = record s {
  state = state_by d t.end;
  ignored = s.ignored + t.progress.ignored;
  visits = s.visits + visits;
  received = s.received + n;
  interrupted = s.interrupted || t.interrupted;
}

module _ (b : Bounds) (d : Dump) (bytes : List ℕ) (before : Tables) where
  -- a datagram was read into the tables so, with so many visits
  abbrev pub Took : Result Taken FeedError → ℕ → Tables → Type 0
  Took (Ok t) visits after =
      (length bytes ≤ b.datagram)
      × ((ms : List MessageVal) × Layout b.shape ms bytes × Visits b.shape (whole bytes) (length bytes) visits
      × PutInto (table_at d.kind before).order d.kind (items_of d ms) before after × IsSummaryOf d ms t)
  Took (Err feed.TooLarge) visits after = (b.datagram < length bytes) × (visits ≡ 0) × (after ≡ before)
  Took (Err (feed.Layout f)) visits after =
      (length bytes ≤ b.datagram) × IsFirstFault b.shape (whole bytes) f.place f.reason
      × Visits b.shape (whole bytes) f.place visits × (after ≡ before)
  Took (Err feed.Memory) visits after = (length bytes ≤ b.datagram) × (after ≡ before)
  Took (Err e) visits after = ⊥

-- ---- what a stream reads

module _ (b : Bounds) (d : Dump) (bytes : List ℕ) where
  -- the items of a datagram were picked out so, with so many visits
  abbrev pub Picks : Result PickedItems FeedError → ℕ → Type 0
  Picks (Ok p) visits =
      (length bytes ≤ b.datagram)
      × ((ms : List MessageVal) × Layout b.shape ms bytes × Visits b.shape (whole bytes) (length bytes) visits
      × IsSummaryOf d ms p.taken × (map message_view p.items.items ≡ item_messages d ms))
  Picks (Err feed.TooLarge) visits = (b.datagram < length bytes) × (visits ≡ 0)
  Picks (Err (feed.Layout f)) visits =
      (length bytes ≤ b.datagram) × IsFirstFault b.shape (whole bytes) f.place f.reason
      × Visits b.shape (whole bytes) f.place visits
  Picks (Err feed.Memory) visits = length bytes ≤ b.datagram
  Picks (Err e) visits = ⊥

-- ---- what a datagram leaves of a stream's buffer

-- the error of a scan, as that of a stream
abbrev pub scan_refusal : ScanError → StreamError
scan_refusal unscanned.TooLarge = TooLarge
scan_refusal (unscanned.Layout b) = Fault b.fault

-- the error is that the buffer is too short
abbrev pub is_room : StreamError → Bool
is_room (Room n) = true
is_room e = false

module _ (b : Bounds) (d : Dump) (bytes : List ℕ) (old : List Event) where
  -- the events of its heads
  abbrev pub all_events : List Event
  all_events = events_of b.shape (whole bytes)

  -- a datagram was gone over so, with so many visits
  abbrev pub ReadsEvents : Result PickedEvents StreamError → ℕ → List Event → Type 0
  ReadsEvents (Ok s) visits new =
      (length bytes ≤ b.datagram)
      × ((ms : List MessageVal) × Layout b.shape ms bytes × Visits b.shape (whole bytes) (length bytes) visits
      × IsSummaryOf d ms s.taken
      × (length all_events ≤ length old) × (new ≡ put_from 0 (item_events b.shape d ms bytes) (put_from 0 all_events old))
      × (s.events ≡ length (item_events b.shape d ms bytes)))
  ReadsEvents (Err TooLarge) visits new = (b.datagram < length bytes) × (visits ≡ 0) × (new ≡ old)
  ReadsEvents (Err (Fault f)) visits new =
      (length bytes ≤ b.datagram) × IsFirstFault b.shape (whole bytes) f.place f.reason
      × Visits b.shape (whole bytes) f.place visits × (new ≡ put_from 0 all_events old)
  ReadsEvents (Err (Room n)) visits new =
      (length bytes ≤ b.datagram) × ((ms : List MessageVal) × Layout b.shape ms bytes)
      × (n ≡ length all_events) × (length old < n) × (new ≡ put_from 0 all_events old)
  ReadsEvents (Err e) visits new = ⊥
