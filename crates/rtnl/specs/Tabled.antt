-- What is printed of a dump: how it went, and the table that it gave.
use Rattle.std.specs.Prelude.{◌≡◌, ℕ, ◌+◌, List, [], ◌∷◌, ◌++◌, length, codes, Bool, true, false, Result, Ok, Err}
use Rattle.std.specs.Fmt.{decimal, signed_decimal}
use Rattle.std.specs.Global.{Vec}
use Rattle.nl_attr.specs.declared.order.Order.{Order}
use Rattle.nl_route.specs.Families.{name_of}
use Rattle.nl_frame.specs.Limits.{AreLimits, Bounds}
use Rattle.nl_frame.specs.Message.{BodyVal, object}
use Rattle.nl_dump.specs.declared.dump.Dump.{Dump}
use Rattle.nl_dump.specs.declared.dump.End.TheVariants.{Done, Error, Overrun, Abandoned}
use Rattle.nl_dump.specs.declared.dump.State.{State}
use Rattle.nl_dump.specs.declared.dump.State.TheVariants.{Idle, Waiting, Ended}
use Rattle.nl_dump.specs.declared.dump.Progress.{Progress}
use Rattle.nl_dump.specs.declared.errors.FeedError.{FeedError}
use Rattle.nl_dump.specs.declared.errors.FeedError.TheVariants as feed
use Rattle.nl_dump.specs.Headline.{Headline}
use Rattle.nl_dump.specs.Items.{Item}
use Rattle.nl_dump.specs.Standing.{standing_of}
use Rattle.nl_dump.specs.View.{View, table_at, complete_of}
use Rattle.nl_dump.specs.Steps.{IsWaiting}
use Rattle.nl_dump.specs.Whole.{Call, begins, feeds, Calls, SessionOf}
use Rattle.rtnl.specs.Checked.{number_front}
use Rattle.rtnl.specs.Datagrams.{refused_line, too_large_line}
use Rattle.rtnl.specs.Lines.{datagrams}
use Rattle.rtnl.specs.Messages.{body_text}
use Rattle.rtnl.specs.Text.{◌⨟◌}
use Rattle.rtnl.specs.declared.verdict.Verdict.{Verdict}
use Rattle.rtnl.specs.declared.verdict.Verdict.TheVariants.{Clean, NotClean}
use Rattle.rtnl.specs.declared.ending.Ending.{Ending}

-- the dump that is read
unfoldable pub dump_line : Dump → List ℕ
dump_line d = codes "dump " ⨟ name_of d.kind ⨟ codes " seq " ⨟ decimal d.seq ⨟ codes " port " ⨟ decimal d.port ⨟ codes "\n"

-- a datagram was refused, since all datagrams would be too large
unfoldable pub total_line : List ℕ
total_line = codes "refused total\n"

-- the line of the datagram of this number, where it was refused
unfoldable pub refusal_line : ℕ → FeedError → List ℕ
refusal_line number feed.NotWaiting = []
refusal_line number feed.Total = number_front number ++ total_line
refusal_line number feed.TooLarge = number_front number ++ too_large_line
refusal_line number (feed.Layout f) = number_front number ++ refused_line f.reason f.place
refusal_line number feed.Memory = []

-- a datagram that was fed, and its answer
abbrev pub Answered : Type 0
Answered = List ℕ × Result Progress FeedError

-- the report of a dump: which dump is read, each datagram that was refused, each entry, and how the dump ended
pub record Report : Type 0 where
  pub front : Dump → List ℕ
  pub refusal : ℕ → FeedError → List ℕ
  pub entry : Order → ℕ → BodyVal → List ℕ
  pub ending : Dump → Ending → List ℕ

-- the report of a datagram that was answered so
abbrev pub answer_text : Report → ℕ → Result Progress FeedError → List ℕ
answer_text t number (Ok progress) = []
answer_text t number (Err e) = t.refusal number e

-- the report of the datagrams that were fed, the newest first; their numbers count from 1
unfoldable pub refusals_text : Report → List Answered → List ℕ
refusals_text t [] = []
refusals_text t (f ∷ fed) = refusals_text t fed ++ answer_text t (length fed + 1) f.1

-- the entry of this number
unfoldable pub entry_line : ℕ → List ℕ
entry_line number = codes "entry " ⨟ decimal number ⨟ codes "\n"

-- the body lines of an entry
abbrev pub item_text : Order → Item → List ℕ
item_text o item = body_text o (object item.0 item.1)

-- an entry: its line, and its body lines
abbrev pub entry_text : Order → ℕ → BodyVal → List ℕ
entry_text o number body = entry_line number ++ body_text o body

-- entries from this number on, by the body that each has
unfoldable pub bodies_text : {X : Type 0} → (X → BodyVal) → Report → Order → ℕ → List X → List ℕ
bodies_text body t o number [] = []
bodies_text body t o number (x ∷ xs) = t.entry o number (body x) ++ bodies_text body t o (number + 1) xs

-- the entries of a table from this number on, each of which stands behind its key
abbrev pub entries_text : Report → Order → ℕ → List (List ℕ × Item) → List ℕ
entries_text = bodies_text (λ e. object e.1.0 e.1.1)

-- how the dump ended
unfoldable pub end_line : State → List ℕ
end_line Idle = codes "end none\n"
end_line (Waiting d) = codes "end none\n"
end_line (Ended d (Done status)) = codes "end done " ⨟ signed_decimal status ⨟ codes "\n"
end_line (Ended d (Error code)) = codes "end error " ⨟ signed_decimal code ⨟ codes "\n"
end_line (Ended d Overrun) = codes "end overrun\n"
end_line (Ended d Abandoned) = codes "end none\n"

-- yes where it is so, else no
unfoldable pub yes_no : Bool → List ℕ
yes_no true = codes "yes"
yes_no false = codes "no"

-- what was counted of the dump
unfoldable pub counts_line : ℕ → ℕ → ℕ → ℕ → Bool → Bool → List ℕ
counts_line entries missed ignored unfed damaged interrupted =
    codes "entries " ⨟ decimal entries ⨟ codes " missed " ⨟ decimal missed ⨟ codes " ignored " ⨟ decimal ignored
    ⨟ codes " unfed " ⨟ decimal unfed ⨟ codes " damaged " ⨟ yes_no damaged ⨟ codes " interrupted " ⨟ yes_no interrupted ⨟ codes "\n"

-- what was counted of all datagrams
unfoldable pub sums_line : ℕ → ℕ → List ℕ
sums_line received visits = codes "received " ⨟ decimal received ⨟ codes " visits " ⨟ decimal visits ⨟ codes "\n"

-- whether the dump is complete
unfoldable pub complete_line : Bool → List ℕ
complete_line complete = codes "complete " ⨟ yes_no complete ⨟ codes "\n"

-- how a session's dump ended, with so many datagrams left
abbrev pub ending_of : Dump → ℕ → View → Ending
ending_of d unfed v =
    let t = table_at d.kind v.tables in
    record { entries = length t.entries; missed = t.missed; unfed = unfed; standing = standing_of v; complete = complete_of v }

-- how a dump ended
unfoldable pub ending_text : Dump → Ending → List ℕ
ending_text d e =
    end_line e.standing.state
    ⨟ counts_line e.entries e.missed e.standing.ignored e.unfed e.standing.damaged e.standing.interrupted
    ⨟ sums_line e.standing.received e.standing.visits
    ⨟ complete_line e.complete

-- a report in lines of text
abbrev pub in_text : Report
in_text = record { front = dump_line; refusal = refusal_line; entry = entry_text; ending = ending_text }

-- the report of a session's dump, numbers in this order: the datagrams that were fed, and how many were not
abbrev pub tabled_in : Order → Report → Dump → List Answered → ℕ → View → List ℕ
tabled_in o t d fed unfed v =
    ((t.front d ++ refusals_text t fed) ++ entries_text t o 1 (table_at d.kind v.tables).entries) ++ t.ending d (ending_of d unfed v)

-- the same in the order of the session's limits
abbrev pub tabled : Report → Dump → List Answered → ℕ → View → List ℕ
tabled t d fed unfed v = tabled_in v.limits.shape.order t d fed unfed v

-- datagrams in the order in which they were fed
abbrev pub datagrams_of : List Answered → List (List ℕ)
datagrams_of [] = []
datagrams_of (f ∷ fed) = datagrams_of fed ++ f.0 ∷ []

-- the calls that feed them after others, the newest first
abbrev pub feeds_after : List Call → List Answered → List Call
feeds_after before [] = before
feeds_after before (f ∷ fed) = feeds f.0 f.1 ∷ feeds_after before fed

-- the dump waited, and memory did not run out
abbrev pub IsReported : Result Progress FeedError → Type 0
IsReported (Ok progress) = Unit {0}
IsReported (Err feed.NotWaiting) = ⊥
IsReported (Err feed.Total) = Unit {0}
IsReported (Err feed.TooLarge) = Unit {0}
IsReported (Err (feed.Layout f)) = Unit {0}
IsReported (Err feed.Memory) = ⊥

-- it was so at each datagram that was fed
abbrev pub AreReported : List Answered → Type 0
AreReported [] = Unit {0}
AreReported (f ∷ fed) = IsReported f.1 × AreReported fed

-- a session is fed the first of these datagrams, which are answered so, and others are left
pub record FeedsSome (u : View) (ds : List (List ℕ)) (fed : List Answered) (rest : List (List ℕ)) (v : View) : Type 0 where
  pub order : ds ≡ datagrams_of fed ++ rest
  pub reported : AreReported fed
  pub calls : (b : Bounds) (before : List Call) → Calls b before u → Calls b (feeds_after before fed) v

-- whether a dump is complete, as a verdict
abbrev pub verdict_of : Bool → Verdict
verdict_of true = Clean
verdict_of false = NotClean

-- a session in which a dump waits is fed these datagrams in order, until the dump has ended: the report of it, and whether the dump is complete
pub record ReportsFrom (t : Report) (o : Order) (d : Dump) (u : View) (ds : List (List ℕ)) (text : List ℕ) (verdict : Verdict) (v : View) : Type 0 where
  pub fed : List Answered
  pub unfed : List (List ℕ)
  pub feeds : FeedsSome u ds fed unfed v
  pub all : IsWaiting v.state → unfed ≡ []
  pub text_is : text ≡ tabled_in o t d fed (length unfed) v
  pub verdict_is : verdict ≡ verdict_of (complete_of v)

-- the calls of a run: it begins the dump, and then feeds these datagrams
abbrev pub calls_of : Dump → Vec ℕ → List Answered → List Call
calls_of d request fed = feeds_after (begins d (Ok request) ∷ []) fed

-- a new session of these limits begins the dump and is fed the datagrams in order, until the dump has ended
pub record IsRun (b : Bounds) (d : Dump) (ds : List (List ℕ)) (request : Vec ℕ) (fed : List Answered) (unfed : List (List ℕ)) (v : View) : Type 0 where
  -- each answer is that of its call
  pub calls : Calls b (calls_of d request fed) v
  -- the session is that of all calls
  pub session : SessionOf b (calls_of d request fed) v
  -- the first datagrams were fed, in order, each of them while the dump waited
  pub order : ds ≡ datagrams_of fed ++ unfed
  pub reported : AreReported fed
  -- and none is left while the dump waits
  pub all : IsWaiting v.state → unfed ≡ []

-- the report of the session in which the run over these datagrams ends, and whether its dump is complete
pub record TablesBy (t : Report) (b : Bounds) (d : Dump) (ds : List (List ℕ)) (text : List ℕ) (verdict : Verdict) : Type 0 where
  pub request : Vec ℕ
  pub fed : List Answered
  pub unfed : List (List ℕ)
  pub session : View
  pub run : IsRun b d ds request fed unfed session
  pub text_is : text ≡ tabled t d fed (length unfed) session
  pub verdict_is : verdict ≡ verdict_of (complete_of session)

-- the text of the session in which the run over these datagrams ends, and whether its dump is complete
abbrev pub Tables : Bounds → Dump → List (List ℕ) → List ℕ → Verdict → Type 0
Tables = TablesBy in_text

-- whatever a recording has, every datagram that a run over it feeds is refused at its first fault, with the dump's answer and all tables unchanged, or is taken as its one list,
-- and the session stays within its limits
abbrev pub HeadlineOfTables : Type 0
HeadlineOfTables =
    (t : Report) (b : Bounds) (d : Dump) (input : List ℕ) (ds : List (List ℕ)) (text : List ℕ) (verdict : Verdict)
    → AreLimits b → datagrams input ≡ Ok ds → (tables : TablesBy t b d ds text verdict)
    → Headline b (calls_of d tables.request tables.fed) tables.session tables.run.calls
