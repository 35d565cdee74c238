-- A dump that is followed: what its datagrams give one after another, and how it ended.
use Rattle.std.specs.Prelude.{◌≡◌, ◌≢◌, ◌+◌, ◌⊎◌, ℕ, Bool, true, false, List, length, map, Option, Result, Ok, Err, IfOk}
use Rattle.nl_attr.specs.declared.order.Order.{Order}
use Rattle.nl_frame.specs.Limits.{Bounds}
use Rattle.nl_frame.specs.Message.{MessageVal}
use Rattle.nl_frame.specs.View.{message_view}
use Rattle.nl_dump.specs.declared.dump.Dump.{Dump}
use Rattle.nl_dump.specs.declared.dump.ItemsRead.{ItemsRead}
use Rattle.nl_dump.specs.declared.dump.State.{State}
use Rattle.nl_dump.specs.declared.dump.State.TheVariants.{Idle, Waiting, Ended}
use Rattle.nl_dump.specs.declared.errors.FeedError.{FeedError}
use Rattle.nl_dump.specs.declared.errors.FeedError.TheVariants.{Memory}
use Rattle.nl_dump.specs.Reading.{StreamRead}
use Rattle.nl_dump.specs.Standing.{new_standing, whole_of}
use Rattle.rtnl.specs.Followed.{FollowsAll, HeardLine}
use Rattle.rtnl.specs.Lines.{line_at}
use Rattle.rtnl.specs.Runs.{Writes}
use Rattle.rtnl.specs.Streams.{Read}
use Rattle.rtnl.specs.Tabled.{Report, bodies_text}
use Rattle.rtnl.specs.declared.ending.Ending.{Ending}
use Rattle.rtnl.specs.declared.error.RunError.{RunError}
use Rattle.rtnl.specs.declared.runs.follow_dump.DumpFollowed.{DumpFollowed}
use Rattle.rtnl.specs.declared.runs.open_dump.OpenDump.{OpenDump}
use Rattle.rtnl.specs.declared.runs.followed.Followed.{Followed}

-- what a datagram gave: how many items came before its own; and its items, or why it was refused
pub record Given : Type 0 where
  pub before : ℕ
  pub answer : Result (List MessageVal) FeedError

-- a stream read a datagram so, and memory did not run out
abbrev pub ReadsSo : Result (List MessageVal) FeedError → OpenDump → List ℕ → OpenDump → Type 0
ReadsSo (Ok ms) a d b = ((r : ItemsRead) × StreamRead a.stream d (Ok r) b.stream × (map message_view r.items.items ≡ ms)) × (b.items ≡ a.items + length ms)
ReadsSo (Err e) a d b = StreamRead a.stream d (Err e) b.stream × (e ≢ Memory) × (b.items ≡ a.items)

abbrev pub Reads : OpenDump → List ℕ → Given → OpenDump → Type 0
Reads a d g b = (g.before ≡ a.items) × ReadsSo g.answer a d b

-- the entries of these items, behind so many others; or the line of the datagram of this number that was refused
abbrev pub answer_given : Report → Order → ℕ → ℕ → Result (List MessageVal) FeedError → List ℕ
answer_given t o number before (Ok ms) = bodies_text (λ m. m.body) t o (before + 1) ms
answer_given t o number before (Err e) = t.refusal number e

abbrev pub given_text : Report → Order → ℕ → List ℕ → Given → List ℕ
given_text t o number d g = answer_given t o number g.before g.answer

-- a datagram was accepted
abbrev pub answer_is_accepted : Result (List MessageVal) FeedError → Bool
answer_is_accepted (Ok ms) = true
answer_is_accepted (Err e) = false

abbrev pub is_accepted : Given → Bool
is_accepted g = answer_is_accepted g.answer

-- no dump waits
abbrev pub is_done : State → Bool
is_done Idle = true
is_done (Waiting d) = false
is_done (Ended d e) = true

abbrev pub ends_dump : OpenDump → Bool
ends_dump s = is_done s.stream.state

-- the dump waits in a new stream of these limits, and no item has come
pub record IsBegun (b : Bounds) (d : Dump) (s : OpenDump) : Type 0 where
  pub stream : s.stream ≡ record (new_standing b) { state = Waiting d }
  pub items : s.items ≡ 0

-- how a dump ended that was followed: every item was an entry, none found no room, and no datagram behind its end was read
abbrev pub ending_at : OpenDump → Ending
ending_at s = record { entries = s.items; missed = 0; unfed = 0; standing = s.stream; complete = whole_of s.stream }

module _ {S W B : Type 0} (left : S → Option (List ℕ)) (is_ended : S → Type 0) (failed_reads : S → ℕ) (reads_of : S → Option (List Read))
    (taken : W → Option (List ℕ)) (is_stalled : W → Type 0) (stalls failed_writes : W → ℕ) (heard : B → Option (List HeardLine)) (is_over : B → Type 0)
    (t : Report) (bounds : Bounds) (d : Dump) (from_old from_new : S) (to_old to_new : W) (g h : B) where
  -- what is told of the lines, from one state of the sink and of the dump to another
  abbrev pub Told : OpenDump → OpenDump → W → W → Result Followed RunError → Type 0
  Told a b v w = FollowsAll (line_at 0) Reads (given_text t bounds.shape.order) is_accepted ends_dump heard is_over left is_ended failed_reads reads_of taken is_stalled stalls failed_writes a b from_old from_new v w g h

  -- it could not be written which dump is read, and nothing else was done
  pub record NotBegun (error : RunError) : Type 0 where
    pub front : Writes taken is_stalled stalls failed_writes {A = Followed} (t.front d) to_old to_new (Err error)
    pub unread : from_new ≡ from_old
    pub unheard : h ≡ g

  -- it was written; the following of the dump failed
  pub record NotFollowed (error : RunError) : Type 0 where
    pub mid : W
    pub begun : OpenDump
    pub last : OpenDump
    pub front : Writes taken is_stalled stalls failed_writes {A = Unit {0}} (t.front d) to_old mid (Ok tt)
    pub start : IsBegun bounds d begun
    pub told : Told begun last mid to_new (Err error)

  -- or the dump was followed, and behind that it was written, or not, how it ended
  pub record IsFollowed (result : Result DumpFollowed RunError) : Type 0 where
    pub mid : W
    pub late : W
    pub begun : OpenDump
    pub last : OpenDump
    pub counts : Followed
    pub front : Writes taken is_stalled stalls failed_writes {A = Unit {0}} (t.front d) to_old mid (Ok tt)
    pub start : IsBegun bounds d begun
    pub told : Told begun last mid late (Ok counts)
    pub ending : Writes taken is_stalled stalls failed_writes (t.ending d (ending_at last)) late to_new result
    pub answer : IfOk result (λ r. r ≡ record { counts = counts; complete = whole_of last.stream })

  -- how the following of a dump ends
  abbrev pub FollowsDump : Result DumpFollowed RunError → Type 0
  FollowsDump result = ((e : RunError) × (result ≡ Err e) × NotBegun e) ⊎ ((e : RunError) × (result ≡ Err e) × NotFollowed e) ⊎ IsFollowed result
