-- A stream and a session given the same calls: they answer the same, memory and tables aside.
use Rattle.std.specs.Prelude.{◌≡◌, ℕ, Bool, true, false, List, [], ◌∷◌, Result, Ok, Err}
use Rattle.std.specs.Global.{Vec}
use Rattle.nl_attr.specs.declared.events.Event.{Event}
use Rattle.nl_frame.specs.Limits.{Bounds}
use Rattle.nl_dump.specs.declared.dump.Dump.{Dump}
use Rattle.nl_dump.specs.declared.dump.ItemsRead.{ItemsRead}
use Rattle.nl_dump.specs.declared.dump.Progress.{Progress}
use Rattle.nl_dump.specs.declared.dump.Streamed.{Streamed}
use Rattle.nl_dump.specs.declared.errors.BeginError.{BeginError}
use Rattle.nl_dump.specs.declared.errors.BeginError.TheVariants as begin
use Rattle.nl_dump.specs.declared.errors.FeedError.{FeedError}
use Rattle.nl_dump.specs.declared.errors.FeedError.TheVariants as feed
use Rattle.nl_dump.specs.declared.errors.NotWaiting.{NotWaiting}
use Rattle.nl_dump.specs.declared.errors.StreamError.{StreamError}
use Rattle.nl_dump.specs.declared.errors.StreamError.TheVariants as stream
use Rattle.nl_dump.specs.declared.standing.Standing.{Standing}
use Rattle.nl_dump.specs.Reading.{StreamRead}
use Rattle.nl_dump.specs.Standing.{new_standing, standing_of}
use Rattle.nl_dump.specs.Streams.{StreamBegan, StreamFed, StreamAbandons}
use Rattle.nl_dump.specs.View.{View}
use Rattle.nl_dump.specs.Whole.{Call, begins, feeds, abandons, Calls}

-- a call of a stream with its answer; of a feed also the buffer before it and after it
pub data StreamCall : Type 0 where
  stream_begins : Dump → Result (Unit {0}) BeginError → StreamCall
  stream_feeds : List ℕ → List Event → Result Streamed StreamError → List Event → StreamCall
  stream_reads : List ℕ → Result ItemsRead FeedError → StreamCall
  stream_abandons : Result (Unit {0}) NotWaiting → StreamCall

-- one call takes a stream from s to t
abbrev pub StreamStep : Standing → StreamCall → Standing → Type 0
StreamStep s (stream_begins d r) t = StreamBegan s d r t
StreamStep s (stream_feeds bytes old r new) t = StreamFed s bytes old r t new
StreamStep s (stream_reads bytes r) t = StreamRead s bytes r t
StreamStep s (stream_abandons r) t = StreamAbandons s r t

-- calls, the newest first, took a new stream to s
abbrev pub StreamCalls : Bounds → List StreamCall → Standing → Type 0
StreamCalls b [] s = s ≡ new_standing b
StreamCalls b (c ∷ cs) s = (t : Standing) × StreamCalls b cs t × StreamStep t c s

-- ---- the same calls

-- a datagram for whose events the buffer was too short: a session has no such answer
abbrev pub lacked_by : Result Streamed StreamError → Bool
lacked_by (Err (stream.Room n)) = true
lacked_by r = false

abbrev pub lacked : StreamCall → Bool
lacked (stream_begins d r) = false
lacked (stream_feeds bytes old r new) = lacked_by r
lacked (stream_reads bytes r) = false
lacked (stream_abandons r) = false

-- the first statement or the second
abbrev pub either : Bool → Type 0 → Type 0 → Type 0
either true A B = A
either false A B = B

-- the first of a session's calls is so, and the others are so
abbrev pub with_first : (Call → Type 0) → (List Call → Type 0) → List Call → Type 0
with_first first others [] = ⊥
with_first first others (c ∷ cs) = first c × others cs

-- each call of a stream, but for those that lacked room, stands beside one of a session, in order
abbrev pub Beside : (StreamCall → Call → Type 0) → List StreamCall → List Call → Type 0
Beside R [] cs = cs ≡ []
Beside R (t ∷ ts) cs = either (lacked t) (Beside R ts cs) (with_first (R t) (Beside R ts) cs)

-- no allocation failed
abbrev pub BeginsWithMemory : Result (Vec ℕ) BeginError → Type 0
BeginsWithMemory (Err begin.Memory) = ⊥
BeginsWithMemory r = Unit {0}

abbrev pub FeedsWithMemory : Result Progress FeedError → Type 0
FeedsWithMemory (Err feed.Memory) = ⊥
FeedsWithMemory r = Unit {0}

abbrev pub ReadsWithMemory : Result ItemsRead FeedError → Type 0
ReadsWithMemory (Err feed.Memory) = ⊥
ReadsWithMemory r = Unit {0}

-- the same is asked, and both had the memory
abbrev pub AsksTheSame : StreamCall → Call → Type 0
AsksTheSame (stream_begins d q) (begins e r) = (d ≡ e) × BeginsWithMemory r
AsksTheSame (stream_feeds bytes old q new) (feeds fed r) = (bytes ≡ fed) × FeedsWithMemory r
AsksTheSame (stream_reads bytes q) (feeds fed r) = (bytes ≡ fed) × ReadsWithMemory q × FeedsWithMemory r
AsksTheSame (stream_abandons q) (abandons r) = Unit {0}
AsksTheSame s c = ⊥

-- ---- the same answers

-- a dump's beginning, without the request
abbrev pub begun : Result (Vec ℕ) BeginError → Result (Unit {0}) BeginError
begun (Ok request) = Ok tt
begun (Err e) = Err e

-- a refusal of a stream, as one of a session
abbrev pub as_feed : StreamError → FeedError
as_feed stream.NotWaiting = feed.NotWaiting
as_feed stream.Total = feed.Total
as_feed stream.TooLarge = feed.TooLarge
as_feed (stream.Layout f) = feed.Layout f
as_feed (stream.Room n) = feed.Memory

-- an answer of a stream, without the events
abbrev pub fed : Result Streamed StreamError → Result Progress FeedError
fed (Ok s) = Ok s.progress
fed (Err e) = Err (as_feed e)

-- an answer of a stream, without the items
abbrev pub progress_read : Result ItemsRead FeedError → Result Progress FeedError
progress_read (Ok r) = Ok r.progress
progress_read (Err e) = Err e

-- the same is answered
abbrev pub AnswersTheSame : StreamCall → Call → Type 0
AnswersTheSame (stream_begins d q) (begins e r) = q ≡ begun r
AnswersTheSame (stream_feeds bytes old q new) (feeds other r) = fed q ≡ r
AnswersTheSame (stream_reads bytes q) (feeds other r) = progress_read q ≡ r
AnswersTheSame (stream_abandons q) (abandons r) = q ≡ r
AnswersTheSame s c = ⊥

-- a stream and a session that were asked the same answered the same, and have the same state
abbrev pub StreamIsSession : Type 0
StreamIsSession = (b : Bounds) (cs : List Call) (v : View) (ts : List StreamCall) (s : Standing) → Calls b cs v → StreamCalls b ts s
    → Beside AsksTheSame ts cs → Beside AnswersTheSame ts cs × (s ≡ standing_of v)
