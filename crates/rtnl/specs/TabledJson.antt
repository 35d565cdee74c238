-- The report of a dump as lines of JSON.
use Rattle.std.specs.Prelude.{ℕ, ℤ, List, [], ◌∷◌, ◌++◌, codes, Option, Some, None}
use Rattle.nl_attr.specs.declared.order.Order.{Order}
use Rattle.nl_frame.specs.Limits.{Bounds}
use Rattle.nl_frame.specs.Message.{BodyVal}
use Rattle.nl_frame.specs.declared.reading.ReadError.TheVariants as read
use Rattle.nl_route.specs.Families.{name_of}
use Rattle.nl_dump.specs.declared.dump.Dump.{Dump}
use Rattle.nl_dump.specs.declared.dump.End.TheVariants.{Done, Error, Overrun, Abandoned}
use Rattle.nl_dump.specs.declared.dump.State.{State}
use Rattle.nl_dump.specs.declared.dump.State.TheVariants.{Idle, Waiting, Ended}
use Rattle.nl_dump.specs.declared.errors.FeedError.{FeedError}
use Rattle.nl_dump.specs.declared.errors.FeedError.TheVariants as feed
use Rattle.nl_dump.specs.declared.standing.Standing.{Standing}
use Rattle.rtnl.specs.Json.{Field, boolean, json_line, number, object, signed, string}
use Rattle.rtnl.specs.MessagesJson.{body_fields}
use Rattle.rtnl.specs.Shown.{datagram_object, refusal_fields}
use Rattle.rtnl.specs.Tabled.{Report, TablesBy}
use Rattle.rtnl.specs.declared.verdict.Verdict.{Verdict}
use Rattle.rtnl.specs.declared.ending.Ending.{Ending}

-- a datagram was refused, since all datagrams would be too large
unfoldable pub total_fields : List Field
total_fields = (codes "refused", string (codes "total")) ∷ []

-- the line of the datagram of this number, which was refused
unfoldable pub refusal_json : ℕ → FeedError → List ℕ
refusal_json n feed.NotWaiting = []
refusal_json n feed.Total = json_line (datagram_object n total_fields)
refusal_json n feed.TooLarge = json_line (datagram_object n (refusal_fields read.TooLarge))
refusal_json n (feed.Layout f) = json_line (datagram_object n (refusal_fields (read.Layout f)))
refusal_json n feed.Memory = []

-- the line of the entry of this number
unfoldable pub entry_json : Order → ℕ → BodyVal → List ℕ
entry_json o n body = json_line (object ((codes "entry", number n) ∷ body_fields o 0 0 body))

-- the dump that is read
unfoldable pub dump_fields : Dump → List Field
dump_fields d = (codes "dump", string (name_of d.kind)) ∷ (codes "seq", number d.seq) ∷ (codes "port", number d.port) ∷ []

-- the word for how the dump ended
abbrev pub end_word : State → List ℕ
end_word Idle = codes "none"
end_word (Waiting d) = codes "none"
end_word (Ended d (Done status)) = codes "done"
end_word (Ended d (Error code)) = codes "error"
end_word (Ended d Overrun) = codes "overrun"
end_word (Ended d Abandoned) = codes "none"

-- the status of DONE, or the code of an ERROR
abbrev pub end_code : State → Option ℤ
end_code Idle = None
end_code (Waiting d) = None
end_code (Ended d (Done status)) = Some status
end_code (Ended d (Error code)) = Some code
end_code (Ended d Overrun) = None
end_code (Ended d Abandoned) = None

-- that status or code, where there is one
abbrev pub code_fields : Option ℤ → List Field
code_fields None = []
code_fields (Some code) = (codes "code", signed code) ∷ []

-- how the dump ended
unfoldable pub end_fields : State → List Field
end_fields state = (codes "end", string (end_word state)) ∷ code_fields (end_code state)

-- what was counted of the dump
unfoldable pub count_fields : Ending → List Field
count_fields e =
    (codes "entries", number e.entries)
    ∷ (codes "missed", number e.missed)
    ∷ (codes "ignored", number e.standing.ignored)
    ∷ (codes "unfed", number e.unfed) ∷ []

-- whether something of it was lost
unfoldable pub loss_fields : Standing → List Field
loss_fields s = (codes "damaged", boolean s.damaged) ∷ (codes "interrupted", boolean s.interrupted) ∷ []

-- what was counted of all datagrams
unfoldable pub sum_fields : Standing → List Field
sum_fields s = (codes "received", number s.received) ∷ (codes "visits", number s.visits) ∷ []

-- the line of how a dump ended
unfoldable pub ending_json : Dump → Ending → List ℕ
ending_json d e =
    json_line (object (dump_fields d ++ (end_fields e.standing.state ++ (count_fields e
    ++ (loss_fields e.standing ++ (sum_fields e.standing ++ (codes "complete", boolean e.complete) ∷ []))))))

-- a report in lines of JSON: the datagrams that were refused, the entries, and how it ended
abbrev pub in_json : Report
in_json = record { front = λ _. []; refusal = refusal_json; entry = entry_json; ending = ending_json }

-- the report of the session in which the run over these datagrams ends, and whether its dump is complete
abbrev pub TablesJson : Bounds → Dump → List (List ℕ) → List ℕ → Verdict → Type 0
TablesJson = TablesBy in_json
