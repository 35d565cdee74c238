-- The answer to C of a datagram that is fed, to a session and to a stream.
use Rattle.std.specs.Prelude.{ℕ, false, Result, Ok, Err}
use Rattle.nl_dump.specs.declared.dump.Progress.{Progress}
use Rattle.nl_dump.specs.declared.dump.Streamed.{Streamed}
use Rattle.nl_dump.specs.declared.errors.FeedError.{FeedError}
use Rattle.nl_dump.specs.declared.errors.FeedError.TheVariants as feed
use Rattle.nl_dump.specs.declared.errors.StreamError.{StreamError}
use Rattle.nl_dump.specs.declared.errors.StreamError.TheVariants as stream
use Rattle.nl_dump.specs.Codes.{feed_code, stream_code}
use Rattle.rtnl_c.specs.declared.fed.Fed.{Fed}

-- what became of the messages, and how many events stand in the buffer
abbrev pub taken : ℕ → Progress → Fed
taken events p = record { events = events; items = p.items; ignored = p.ignored; place = 0; ended = p.ended; code = 0 }

-- nothing was taken, for this reason
abbrev pub untaken : ℕ → ℕ → ℕ → Fed
untaken events place code = record { events = events; items = 0; ignored = 0; place = place; ended = false; code = code }

-- by a session
abbrev pub feed_place : FeedError → ℕ
feed_place feed.NotWaiting = 0
feed_place feed.Total = 0
feed_place feed.TooLarge = 0
feed_place (feed.Layout f) = f.place
feed_place feed.Memory = 0

abbrev pub session_fed : Result Progress FeedError → Fed
session_fed (Ok p) = taken 0 p
session_fed (Err e) = untaken 0 (feed_place e) (feed_code e)

-- by a stream: where the buffer lacks room, the answer is how many events there must be room for
abbrev pub stream_refusal : StreamError → Fed
stream_refusal stream.NotWaiting = untaken 0 0 (stream_code stream.NotWaiting)
stream_refusal stream.Total = untaken 0 0 (stream_code stream.Total)
stream_refusal stream.TooLarge = untaken 0 0 (stream_code stream.TooLarge)
stream_refusal (stream.Layout f) = untaken 0 f.place (stream_code (stream.Layout f))
stream_refusal (stream.Room n) = untaken n 0 (stream_code (stream.Room n))

abbrev pub stream_fed : Result Streamed StreamError → Fed
stream_fed (Ok s) = taken s.events s.progress
stream_fed (Err e) = stream_refusal e
