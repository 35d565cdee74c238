-- A stream as C keeps it, and the answers to C of its calls.
use Rattle.std.specs.Prelude.{◌≡◌, ◌==◌, ◌<◌, ◌≤◌, ℕ, ℤ, Bool, true, false, if◌then◌else◌, List, length, Option, Some, None, Result, Ok, Err}
use Rattle.nl_attr.specs.declared.events.Event.{Event}
use Rattle.nl_attr.specs.declared.order.Order.{Order}
use Rattle.nl_attr.specs.declared.order.Order.TheVariants.{Little, Big}
use Rattle.nl_route.specs.declared.family.Family.{Family}
use Rattle.nl_route.specs.Types.{route_type}
use Rattle.nl_frame.specs.Limits.{AreLimits, bounds_of}
use Rattle.nl_dump.specs.declared.dump.Dump.{Dump}
use Rattle.nl_dump.specs.declared.dump.End.TheVariants.{Done, Error, Overrun, Abandoned}
use Rattle.nl_dump.specs.declared.dump.State.{State}
use Rattle.nl_dump.specs.declared.dump.State.TheVariants.{Idle, Waiting, Ended}
use Rattle.nl_dump.specs.declared.dump.Streamed.{Streamed}
use Rattle.nl_dump.specs.declared.errors.BeginError.{BeginError}
use Rattle.nl_dump.specs.declared.errors.NotWaiting.{NotWaiting}
use Rattle.nl_dump.specs.declared.errors.StreamError.{StreamError}
use Rattle.nl_dump.specs.declared.standing.Standing.{Standing}
use Rattle.nl_dump.specs.Codes.{begin_code}
use Rattle.nl_dump.specs.Request.{dump_of, request_of}
use Rattle.nl_dump.specs.Standing.{IsPossible, new_standing, whole_of}
use Rattle.nl_dump.specs.Streams.{EveryStreamed, StreamBegan, StreamFed, StreamAbandons}
use Rattle.rtnl_c.specs.declared.fed.Fed.{Fed}
use Rattle.rtnl_c.specs.declared.options.Options.{Options}
use Rattle.rtnl_c.specs.declared.put.Put.{Put}
use Rattle.rtnl_c.specs.declared.status.Status.{Status}
use Rattle.rtnl_c.specs.declared.stream.StreamState.{StreamState}
use Rattle.rtnl_c.specs.Codes.{no_kind, no_room, no_stream}
use Rattle.rtnl_c.specs.Fed.{stream_fed, untaken}
use Rattle.rtnl_c.specs.Kinds.{family_in}
use Rattle.rtnl_c.specs.Options.{bounds_in, order_in}
use Rattle.rtnl_c.specs.Sessions.{abandon_code}
use Rattle.rtnl_c.specs.Put.{IsPut, not_put, put_of}
use Rattle.rtnl_c.specs.Status.{last_of, no_status, status_by}

-- ---- a stream, as C keeps it

abbrev pub flag_of : Bool → ℕ
flag_of b = if b then 1 else 0

abbrev pub big_of : Order → ℕ
big_of Little = 0
big_of Big = 1

abbrev pub kept_of : Standing → StreamState
kept_of s = record {
  total = s.limits.total;
  received = s.received;
  visits = s.visits;
  ignored = s.ignored;
  datagram = s.limits.datagram;
  entries = s.limits.entries;
  seq = (last_of s.state).seq;
  port = (last_of s.state).port;
  status = (last_of s.state).status;
  kind = (last_of s.state).kind;
  family = (last_of s.state).family;
  state = (last_of s.state).state;
  depth = s.limits.shape.depth;
  big = big_of s.limits.shape.order;
  damaged = flag_of s.damaged;
  interrupted = flag_of s.interrupted;
}

-- ---- the stream that is kept, if one is

-- a flag is 0 or 1
abbrev pub flag_in : ℕ → Option Bool
flag_in n = if n == 0 then Some false else (if n == 1 then Some true else None)

-- where a dump stands: 1 while its answers are awaited, and from 2 on how it ended
abbrev pub begun_in : ℕ → ℤ → Dump → Option State
begun_in n status d =
    if n == 1 then Some (Waiting d) else (
    if n == 2 then Some (Ended d (Done status)) else (
    if n == 3 then Some (Ended d (Error status)) else (
    if n == 4 then Some (Ended d Overrun) else (
    if n == 5 then Some (Ended d Abandoned) else None))))

-- before the first dump nothing else of it is looked at
abbrev pub state_by : StreamState → Option Family → Option State
state_by k None = if k.state == 0 then Some Idle else None
state_by k (Some g) = if k.state == 0 then Some Idle else begun_in k.state k.status (dump_of g k.family k.seq k.port)

abbrev pub state_in : StreamState → Option State
state_in k = state_by k (family_in (route_type k.kind))

-- all of it, where each flag is one
abbrev pub standing_by : StreamState → Option State → Option Bool → Option Bool → Option Bool → Option Standing
standing_by k (Some s) (Some big) (Some damaged) (Some interrupted) = Some (record {
  limits = bounds_of (order_in big) k.depth k.datagram k.total k.entries;
  state = s;
  ignored = k.ignored;
  visits = k.visits;
  received = k.received;
  damaged = damaged;
  interrupted = interrupted;
})
standing_by k None big damaged interrupted = None
standing_by k (Some s) None damaged interrupted = None
standing_by k (Some s) (Some big) None interrupted = None
standing_by k (Some s) (Some big) (Some damaged) None = None

abbrev pub standing_in : StreamState → Option Standing
standing_in k = standing_by k (state_in k) (flag_in k.big) (flag_in k.damaged) (flag_in k.interrupted)

-- what is kept is a stream's
abbrev pub IsKept : StreamState → Standing → Type 0
IsKept k s = (standing_in k ≡ Some s) × IsPossible s

-- or no stream can be so
abbrev pub IsNone : StreamState → Type 0
IsNone k = (s : Standing) → IsKept k s → ⊥

abbrev pub Restores : StreamState → Option Standing → Type 0
Restores k (Some s) = IsKept k s
Restores k None = IsNone k

-- ---- calls: each is one of the stream that is kept, and what it becomes is kept in its place; where none is, nothing is changed

-- a new stream of these limits, unless one of them is out of its range
abbrev pub News : Options → StreamState → ℕ → StreamState → Type 0
News o old code new =
    (AreLimits (bounds_in o) → (code ≡ 0) × (new ≡ kept_of (new_standing (bounds_in o))) × IsKept new (new_standing (bounds_in o)))
    × ((AreLimits (bounds_in o) → ⊥) → (code ≡ 12) × (new ≡ old))

-- the request of a dump that has begun stands in the buffer; of one that has not, nothing does
abbrev pub PutsBegun : List ℕ → Result (Unit {0}) BeginError → List ℕ → List ℕ → Put → Type 0
PutsBegun request (Ok u) old new a = IsPut request old new a
PutsBegun request (Err e) old new a = (a ≡ not_put (begin_code e)) × (new ≡ old)

-- a dump begins as `Stream::begin` has it
abbrev pub BeginsOne : Standing → Dump → List ℕ → Standing → List ℕ → Put → Type 0
BeginsOne s d before t after a = (r : Result (Unit {0}) BeginError) × StreamBegan s d r t × IsPossible t × PutsBegun (request_of s.limits.shape.order d) r before after a

-- where there is a stream, the family and room for the request
pub data Begins (old : StreamState) (kind : Option Family) (family seq port : ℕ) (before : List ℕ) : StreamState → List ℕ → Put → Type 0 where
  on_none : IsNone old → Begins old kind family seq port before old before (not_put no_stream)
  of_none : (s : Standing) → IsKept old s → kind ≡ None → Begins old kind family seq port before old before (not_put no_kind)
  lacks : (s : Standing) → IsKept old s → (g : Family) → kind ≡ Some g → (n : ℕ) → n ≡ length (request_of s.limits.shape.order (dump_of g family seq port)) → length before < n
      → Begins old kind family seq port before old before (put_of n no_room)
  begins : (s t : Standing) → IsKept old s → (g : Family) → kind ≡ Some g → length (request_of s.limits.shape.order (dump_of g family seq port)) ≤ length before
      → (after : List ℕ) (a : Put) → BeginsOne s (dump_of g family seq port) before t after a → IsKept (kept_of t) t
      → Begins old kind family seq port before (kept_of t) after a

-- a datagram is fed as `Stream::feed` has it
pub data Feeds (old : StreamState) (bytes : List ℕ) (before : List Event) : StreamState → List Event → Fed → Type 0 where
  on_none : IsNone old → Feeds old bytes before old before (untaken 0 0 no_stream)
  feeds : (s t : Standing) → IsKept old s → (after : List Event) (r : Result Streamed StreamError) → StreamFed s bytes before r t after → EveryStreamed s bytes before r t
      → IsKept (kept_of t) t → Feeds old bytes before (kept_of t) after (stream_fed r)

-- a dump is abandoned
pub data Abandons (old : StreamState) : StreamState → ℕ → Type 0 where
  on_none : IsNone old → Abandons old old no_stream
  abandons : (s t : Standing) → IsKept old s → (r : Result (Unit {0}) NotWaiting) → StreamAbandons s r t → IsKept (kept_of t) t → Abandons old (kept_of t) (abandon_code r)

-- where the dump stands
pub data Tells (old : StreamState) : Status → Type 0 where
  on_none : IsNone old → Tells old (no_status no_stream)
  tells : (s : Standing) → IsKept old s → Tells old (status_by s (whole_of s))
