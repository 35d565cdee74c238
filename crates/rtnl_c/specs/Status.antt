-- Where a dump stands, as C is told.
use Rattle.std.specs.Prelude.{ℕ, ℤ, pos, Bool, false, Option, Some, None}
use Rattle.nl_route.specs.declared.family.Verb.TheVariants.{New}
use Rattle.nl_route.specs.Families.{type_of}
use Rattle.nl_dump.specs.declared.dump.Dump.{Dump}
use Rattle.nl_dump.specs.declared.dump.End.TheVariants.{Done, Error, Overrun, Abandoned}
use Rattle.nl_dump.specs.declared.dump.State.{State}
use Rattle.nl_dump.specs.declared.dump.State.TheVariants.{Idle, Waiting, Ended}
use Rattle.nl_dump.specs.declared.standing.Standing.{Standing}
use Rattle.nl_dump.specs.Standing.{standing_of}
use Rattle.nl_dump.specs.View.{View, complete_of}
use Rattle.rtnl_c.specs.declared.status.Last.{Last}
use Rattle.rtnl_c.specs.declared.status.Status.{Status}
use Rattle.rtnl_c.specs.Codes.{no_session}

-- a dump that stands at a number of C's, with the status of its DONE or the code of its ERROR; its family is said by the message type NEW
abbrev pub last_dump : Dump → ℕ → ℤ → Last
last_dump d state status = record { seq = d.seq; port = d.port; status = status; kind = type_of d.kind New; family = d.family; state = state }

-- the last dump: none; one that waits; or one that has ended by DONE, by ERROR, by OVERRUN or by the caller
abbrev pub last_of : State → Last
last_of Idle = record { seq = 0; port = 0; status = pos 0; kind = 0; family = 0; state = 0 }
last_of (Waiting d) = last_dump d 1 (pos 0)
last_of (Ended d (Done z)) = last_dump d 2 z
last_of (Ended d (Error z)) = last_dump d 3 z
last_of (Ended d Overrun) = last_dump d 4 (pos 0)
last_of (Ended d Abandoned) = last_dump d 5 (pos 0)

-- all of it, and whether the dump is complete
abbrev pub status_by : Standing → Bool → Status
status_by s complete = record {
  received = s.received;
  visits = s.visits;
  ignored = s.ignored;
  seq = (last_of s.state).seq;
  port = (last_of s.state).port;
  status = (last_of s.state).status;
  kind = (last_of s.state).kind;
  family = (last_of s.state).family;
  state = (last_of s.state).state;
  damaged = s.damaged;
  interrupted = s.interrupted;
  complete = complete;
  code = 0;
}

-- there is nothing to tell, for this reason
abbrev pub no_status : ℕ → Status
no_status code = record {
  received = 0;
  visits = 0;
  ignored = 0;
  seq = 0;
  port = 0;
  status = pos 0;
  kind = 0;
  family = 0;
  state = 0;
  damaged = false;
  interrupted = false;
  complete = false;
  code = code;
}

-- of the session of a handle
abbrev pub session_status : Option View → Status
session_status None = no_status no_session
session_status (Some v) = status_by (standing_of v) (complete_of v)
