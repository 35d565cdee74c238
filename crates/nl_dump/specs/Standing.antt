-- The state of a stream, and which states no stream can have.
use Rattle.std.specs.Prelude.{◌≡◌, ◌≢◌, ◌≤◌, ◌+◌, ◌*◌, false, not, ◌&&◌, Bool, pos}
use Rattle.nl_frame.specs.Limits.{Bounds, AreLimits}
use Rattle.nl_dump.specs.declared.dump.End.{End}
use Rattle.nl_dump.specs.declared.dump.End.TheVariants.{Done, Error}
use Rattle.nl_dump.specs.declared.dump.State.{State}
use Rattle.nl_dump.specs.declared.dump.State.TheVariants.{Idle, Waiting, Ended}
use Rattle.nl_dump.specs.declared.standing.Standing.{Standing}
use Rattle.nl_dump.specs.View.{View, is_success}

-- an ERROR with code 0 ends no dump
abbrev pub IsRealEnd : End → Type 0
IsRealEnd (Error z) = z ≢ pos 0
IsRealEnd e = Unit {0}

-- before the first dump nothing was taken
abbrev pub IsReached : State → Standing → Type 0
IsReached Idle s = (s.ignored ≡ 0) × (s.visits ≡ 0) × (s.received ≡ 0) × (s.damaged ≡ false) × (s.interrupted ≡ false)
IsReached (Waiting d) s = Unit {0}
IsReached (Ended d e) s = IsRealEnd e

-- a stream can have this state
pub record IsPossible (s : Standing) : Type 0 where
  pub limits : AreLimits s.limits
  pub visits : s.visits ≤ (s.limits.shape.depth + 1) * s.received
  pub received : s.received ≤ s.limits.total
  pub ignored : s.ignored ≤ s.received
  pub reached : IsReached s.state s

-- a session without its tables
abbrev pub standing_of : View → Standing
standing_of v = record { limits = v.limits; state = v.state; ignored = v.ignored; visits = v.visits; received = v.received; damaged = v.damaged; interrupted = v.interrupted }

-- a new stream of these limits
abbrev pub new_standing : Bounds → Standing
new_standing b = record { limits = b; state = Idle; ignored = 0; visits = 0; received = 0; damaged = false; interrupted = false }

-- the dump ended by DONE with no failure, and no datagram of it was refused, nor was it interrupted
abbrev pub is_whole : State → Standing → Bool
is_whole (Ended d (Done z)) s = is_success z && (not s.damaged && not s.interrupted)
is_whole state s = false

abbrev pub whole_of : Standing → Bool
whole_of s = is_whole s.state s
