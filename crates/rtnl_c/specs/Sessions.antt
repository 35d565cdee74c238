-- The answers to C of the calls of a session. A handle has a session or none, before a call and after it.
use Rattle.std.specs.Prelude.{◌≡◌, ◌<◌, ◌≤◌, ℕ, List, length, Option, Some, None, Result, Ok, Err}
use Rattle.std.specs.Global.{Vec}
use Rattle.nl_route.specs.declared.family.Family.{Family}
use Rattle.nl_frame.specs.Limits.{Bounds, AreLimits}
use Rattle.nl_dump.specs.declared.dump.Progress.{Progress}
use Rattle.nl_dump.specs.declared.errors.BeginError.{BeginError}
use Rattle.nl_dump.specs.declared.errors.FeedError.{FeedError}
use Rattle.nl_dump.specs.declared.errors.NotWaiting.{NotWaiting}
use Rattle.nl_dump.specs.Codes.{begin_code}
use Rattle.nl_dump.specs.Every.{EveryDatagram}
use Rattle.nl_dump.specs.Request.{dump_of, request_of}
use Rattle.nl_dump.specs.Steps.{Abandons, Began, Fed, IsNew}
use Rattle.nl_dump.specs.View.{View, IsWithin}
use Rattle.rtnl_c.specs.declared.fed.Fed.{Fed as FedAnswer}
use Rattle.rtnl_c.specs.declared.options.Options.{Options}
use Rattle.rtnl_c.specs.declared.put.Put.{Put}
use Rattle.rtnl_c.specs.Codes.{busy, no_kind, no_memory, no_room, no_session}
use Rattle.rtnl_c.specs.Fed.{session_fed, untaken}
use Rattle.rtnl_c.specs.Options.{bounds_in}
use Rattle.rtnl_c.specs.Put.{IsPut, not_put, put_of}

-- ---- a session is made

-- a session of these limits is new, or there was no memory for it
pub data Makes (b : Bounds) : ℕ → Option View → Type 0 where
  makes : (v : View) → IsNew b v → IsWithin v → Makes b 0 (Some v)
  refused : Makes b no_memory None

-- where there is a session, it stays; else one is made, unless a limit is out of its range
abbrev pub News : Options → Option View → ℕ → Option View → Type 0
News o (Some v) code after = (code ≡ busy) × (after ≡ Some v)
News o None code after = (AreLimits (bounds_in o) → Makes (bounds_in o) code after) × ((AreLimits (bounds_in o) → ⊥) → (code ≡ 12) × (after ≡ None))

-- ---- a dump begins

-- the request of a dump that has begun stands in the buffer; of one that has not, nothing does
abbrev pub PutsBegun : Result (Vec ℕ) BeginError → List ℕ → List ℕ → Put → Type 0
PutsBegun (Ok request) old new a = IsPut request.items old new a
PutsBegun (Err e) old new a = (a ≡ not_put (begin_code e)) × (new ≡ old)

-- a dump of a family begins as `Session::begin` has it, where there is room for its request
abbrev pub BeginsFamily : View → Family → ℕ → ℕ → ℕ → List ℕ → List ℕ → Put → Option View → Type 0
BeginsFamily before kind family seq port old new a after =
    let request = request_of before.limits.shape.order (dump_of kind family seq port) in
    (length old < length request → (a ≡ put_of (length request) no_room) × (new ≡ old) × (after ≡ Some before))
    × (length request ≤ length old → (r : Result (Vec ℕ) BeginError) × (v : View) × Began before (dump_of kind family seq port) r v × IsWithin v
    × PutsBegun r old new a × (after ≡ Some v))

abbrev pub Begins : Option View → Option Family → ℕ → ℕ → ℕ → List ℕ → List ℕ → Put → Option View → Type 0
Begins None kind family seq port old new a after = (a ≡ not_put no_session) × (new ≡ old) × (after ≡ None)
Begins (Some before) None family seq port old new a after = (a ≡ not_put no_kind) × (new ≡ old) × (after ≡ Some before)
Begins (Some before) (Some kind) family seq port old new a after = BeginsFamily before kind family seq port old new a after

-- ---- a datagram is fed

-- as `Session::feed` has it
abbrev pub FeedsOne : View → List ℕ → FedAnswer → View → Type 0
FeedsOne before bytes a after = (r : Result Progress FeedError) × Fed before bytes r after × EveryDatagram before bytes r after × IsWithin after × (a ≡ session_fed r)

abbrev pub Feeds : Option View → List ℕ → FedAnswer → Option View → Type 0
Feeds None bytes a after = (a ≡ untaken 0 0 no_session) × (after ≡ None)
Feeds (Some before) bytes a after = (v : View) × FeedsOne before bytes a v × (after ≡ Some v)

-- ---- a dump is abandoned

abbrev pub abandon_code : Result (Unit {0}) NotWaiting → ℕ
abandon_code (Ok u) = 0
abandon_code (Err e) = 8

abbrev pub AbandonsOne : View → ℕ → View → Type 0
AbandonsOne before code after = (r : Result (Unit {0}) NotWaiting) × Abandons before r after × IsWithin after × (code ≡ abandon_code r)

abbrev pub Abandoned : Option View → ℕ → Option View → Type 0
Abandoned None code after = (code ≡ no_session) × (after ≡ None)
Abandoned (Some before) code after = (v : View) × AbandonsOne before code v × (after ≡ Some v)
