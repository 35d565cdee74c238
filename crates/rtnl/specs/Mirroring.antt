-- A mirror that is kept by the lines of a recording: what a line says, what becomes of the mirror, and what is told of it.
use Rattle.std.specs.Prelude.{◌≡◌, ℕ, ◌+◌, ◌==◌, ◌||◌, ◌&&◌, not, if◌then◌else◌, Bool, true, false, List, [], ◌∷◌, ◌++◌, codes, length, slice_get, Option, Some, None, option_map, is_some, Result, Ok, Err, IfOk}
use Rattle.std.specs.Fmt.{decimal}
use Rattle.nl_attr.specs.declared.order.Order.{Order}
use Rattle.nl_route.specs.declared.family.Family.{Family}
use Rattle.nl_route.specs.declared.family.Family.TheVariants.{Link, Addr, Route, Neigh, Rule}
use Rattle.nl_route.specs.Families.{name_of, same_family}
use Rattle.nl_frame.specs.Limits.{Bounds}
use Rattle.nl_frame.specs.Message.{MessageVal}
use Rattle.nl_frame.specs.declared.reading.ReadError.{ReadError}
use Rattle.nl_dump.specs.declared.dump.Dump.{Dump}
use Rattle.nl_dump.specs.Codes.{read_error}
use Rattle.nl_dump.specs.Items.{Item}
use Rattle.nl_mirror.specs.declared.effect.Effect.{Effect}
use Rattle.nl_mirror.specs.declared.effect.Effect.TheVariants.{Added, Changed, Removed, Waits, Nothing}
use Rattle.nl_mirror.specs.declared.effect.Update.{Update}
use Rattle.nl_mirror.specs.declared.errors.BeginError.{BeginError}
use Rattle.nl_mirror.specs.declared.errors.BeginError.TheVariants as begin
use Rattle.nl_mirror.specs.declared.short.Short.{Short}
use Rattle.nl_mirror.specs.declared.stale.Stale.{Stale}
use Rattle.nl_mirror.specs.declared.stale.Stale.TheVariants.{Lost}
use Rattle.nl_mirror.specs.Changes.{Held}
use Rattle.nl_mirror.specs.Effects.{update_effect}
use Rattle.nl_mirror.specs.Five.{Mirrored, Began, EachHearsBy, EachLoses, IsNew, IsUpdate, follower_at, refusal}
use Rattle.nl_mirror.specs.Names.{stale_name}
use Rattle.nl_mirror.specs.Replicated.{stale_of}
use Rattle.rtnl.specs.Heading.{behind, heading}
use Rattle.rtnl.specs.Lines.{Fails, is_blank, is_comment, line_at}
use Rattle.rtnl.specs.Shown.{Answers}
use Rattle.rtnl.specs.Streams.{one_more}
use Rattle.rtnl.specs.Tabled.{Report, entries_text, item_text}
use Rattle.rtnl.specs.Text.{◌⨟◌}
use Rattle.rtnl.specs.declared.recordings.heading.Heading.{Heading}
use Rattle.rtnl.specs.declared.recordings.heading.Numbers.{Numbers}
use Rattle.rtnl.specs.declared.error.RunError.{RunError}
use Rattle.rtnl.specs.declared.runs.mirrored.MirrorSettings.{MirrorSettings}
use Rattle.rtnl.specs.declared.runs.mirrored.MirrorSoFar.{MirrorSoFar}
use Rattle.rtnl.specs.declared.runs.mirrored.TableState.{TableState}
use Rattle.rtnl.specs.declared.runs.mirrored.TableStates.{TableStates}
use Rattle.rtnl.specs.declared.runs.steps.StepKind.{StepKind}
use Rattle.rtnl.specs.declared.runs.steps.StepKind.TheVariants as step_kind

-- ---- what a line says

-- a datagram is fed, a dump begins, or messages were lost
pub data Step : Type 0 where
  feeds : List ℕ → Step
  begins : Dump → Step
  loses : Step

-- the word before these bytes ends there
abbrev pub ends_word : List ℕ → Bool
ends_word [] = true
ends_word (byte ∷ _) = is_blank byte || byte == 58

abbrev pub is_word : Option (List ℕ) → Bool
is_word None = false
is_word (Some rest) = ends_word rest

-- the line begins with `# dropped`
abbrev pub says_loss : List ℕ → Bool
says_loss line = is_word (behind (codes "# dropped") line)

-- the dump of this kind, if it is said, which asks for this address family
abbrev pub dump_of : ℕ → Numbers → Option Family → Option Step
dump_of family n None = None
dump_of family n (Some kind) = Some (begins (record { kind = kind; family = family; seq = n.seq; port = n.port }))

abbrev pub dump_said : ℕ → Option Heading → Option Step
dump_said family None = None
dump_said family (Some h) = dump_of family h.numbers h.kind

-- what a comment says, if anything
abbrev pub comment_says : ℕ → List ℕ → Option Step
comment_says family line = if says_loss line then Some loses else dump_said family (heading line)

abbrev pub as_fed : Result (Option (List ℕ)) ℕ → Result (Option Step) ℕ
as_fed (Ok None) = Ok None
as_fed (Ok (Some datagram)) = Ok (Some (feeds datagram))
as_fed (Err number) = Err number

-- what a line says, if anything; or it is bad
abbrev pub step_in : ℕ → List ℕ → Result (Option Step) ℕ
step_in family line = if is_comment line then Ok (comment_says family line) else as_fed (line_at 0 line)

-- ---- what becomes of the mirror

-- what was answered of a message, and the mirror behind it
pub record Hearing : Type 0 where
  pub answer : Result Update Short
  pub mirror : Mirrored

-- messages are heard, one after another
abbrev pub HearsAll : Mirrored → List MessageVal → List Hearing → Mirrored → Type 0
HearsAll f [] [] g = g ≡ f
HearsAll f (m ∷ ms) (h ∷ hs) g = EachHearsBy h.answer f m h.mirror × IfOk h.answer (IsUpdate f m) × HearsAll h.mirror ms hs g
HearsAll f ms hs g = ⊥

-- what came of a step: the messages of its datagram were heard, or it was refused; its dump began, or not; or it was a loss
pub data Outcome : Type 0 where
  heard : List Hearing → Outcome
  refused : ReadError → Outcome
  began : Result (Unit {0}) BeginError → Outcome
  lost : Outcome

-- a step takes a mirror of these limits from f to g, and this came of it
abbrev pub Comes : Bounds → Mirrored → Step → Outcome → Mirrored → Type 0
Comes b f (feeds d) (heard hs) g = (ms : List MessageVal) × Answers b d (Ok ms) × HearsAll f ms hs g
Comes b f (feeds d) (refused e) g = Answers b d (Err e) × EachLoses (refusal e) f g
Comes b f (feeds d) o g = ⊥
Comes b f (begins d) (began r) g = Began d r f g
Comes b f (begins d) o g = ⊥
Comes b f loses lost g = EachLoses Lost f g
Comes b f loses o g = ⊥

-- what is found of a step: the mirror before it, what came of it, the mirror behind it, and how many datagrams were fed then
pub record Passed : Type 0 where
  pub before : Mirrored
  pub outcome : Outcome
  pub after : Mirrored
  pub datagrams : ℕ

-- how many datagrams were fed behind a step
abbrev pub fed_by : Step → ℕ → ℕ
fed_by (feeds d) n = one_more n
fed_by (begins d) n = n
fed_by loses n = n

-- the dump began
abbrev pub is_begun : Result (Unit {0}) BeginError → Bool
is_begun (Ok _) = true
is_begun (Err begin.Number) = false
is_begun (Err (begin.Short s)) = true

-- how many dumps didn't begin, behind one that did or didn't
abbrev pub unbegun_by : Bool → ℕ → ℕ
unbegun_by true n = n
unbegun_by false n = one_more n

-- no dump failed to begin by this
abbrev pub begins_well : Outcome → Bool
begins_well (began r) = is_begun r
begins_well (heard hs) = true
begins_well (refused e) = true
begins_well lost = true

-- a step takes what is kept of a mirror of these limits from a to b, and this is found of it
pub record Passes (b : Bounds) (old : MirrorSoFar) (s : Step) (x : Passed) (new : MirrorSoFar) : Type 0 where
  pub before : x.before ≡ old.mirror
  pub comes : Comes b x.before s x.outcome x.after
  pub after : x.after ≡ new.mirror
  pub datagrams : new.datagrams ≡ fed_by s old.datagrams
  pub number : x.datagrams ≡ new.datagrams
  pub unbegun : new.unbegun ≡ unbegun_by (begins_well x.outcome) old.unbegun

-- a datagram was accepted, or the step had none
abbrev pub outcome_is_accepted : Outcome → Bool
outcome_is_accepted (refused e) = false
outcome_is_accepted (heard hs) = true
outcome_is_accepted (began r) = true
outcome_is_accepted lost = true

abbrev pub is_accepted : Passed → Bool
is_accepted x = outcome_is_accepted x.outcome

-- no line ends the run of a mirror
abbrev pub never_ends : MirrorSoFar → Bool
never_ends s = false

-- nothing was heard by a mirror that is set so
pub record IsUnheard (set : MirrorSettings) (s : MirrorSoFar) : Type 0 where
  pub mirror : IsNew set.limits set.waiting s.mirror
  pub datagrams : s.datagrams ≡ 0
  pub unbegun : s.unbegun ≡ 0

-- ---- the tables of a mirror

-- what the table of a kind holds
abbrev pub table_of : Family → Mirrored → Held Item
table_of k m = (follower_at k m).replica.table

-- why its table is stale, if it is
abbrev pub doubt : Family → Mirrored → Option Stale
doubt k m = stale_of (follower_at k m).replica

-- a dump of it runs
abbrev pub runs : Family → Mirrored → Bool
runs k m = is_some (follower_at k m).listening.dump

-- how the table of a kind stands: whether a dump of it runs, and whether it is stale
abbrev pub table_state : Family → Mirrored → TableState
table_state k m = record { dump_running = runs k m; stale = is_some (doubt k m) }

-- a dump of a kind ran, whose table was in this state, and none runs now
abbrev pub has_ended : TableState → Mirrored → Family → Bool
has_ended was m k = was.dump_running && not (runs k m)

-- the entry at a place
abbrev pub entry_at : ℕ → Held Item → Option Item
entry_at place h = option_map (λ e. e.1) (slice_get h.entries place)

-- this kind alone is shown, or all are
abbrev pub is_shown : Option Family → Family → Bool
is_shown None k = true
is_shown (Some only) k = same_family only k

-- ---- what is told

-- how it is told: a dump that doesn't begin; an entry that is new, that is told anew, with what it was, or that is gone; that a table was renewed, of so many
-- entries; that one is stale; and, at the end, which table follows, and how it stands
pub record MirrorReport : Type 0 where
  pub unbegun : Dump → List ℕ
  pub added : Order → Family → ℕ → Item → List ℕ
  pub changed : Order → Family → ℕ → Item → Item → List ℕ
  pub removed : Order → Family → ℕ → Item → List ℕ
  pub renewed : Family → ℕ → List ℕ
  pub doubted : Family → Stale → List ℕ
  pub table : Family → List ℕ
  pub standing : Family → ℕ → ℕ → Option Stale → List ℕ

abbrev pub where_some : {X : Type 0} → (X → List ℕ) → Option X → List ℕ
where_some text None = []
where_some text (Some x) = text x

abbrev pub where_so : Bool → List ℕ → List ℕ
where_so true text = text
where_so false text = []

-- a text for each kind that is shown
abbrev pub of_shown : Option Family → (Family → List ℕ) → List ℕ
of_shown only text =
    where_so (is_shown only Link) (text Link) ⨟ where_so (is_shown only Addr) (text Addr) ⨟ where_so (is_shown only Route) (text Route)
    ⨟ where_so (is_shown only Neigh) (text Neigh) ⨟ where_so (is_shown only Rule) (text Rule)

module _ (t : Report) (r : MirrorReport) (o : Order) where
  -- what was made of a table, which holds this now
  abbrev pub effect_text : Family → Held Item → Effect Item → List ℕ
  effect_text k h (Added place) = where_some (r.added o k (place + 1)) (entry_at place h)
  effect_text k h (Changed place before) = where_some (λ now. r.changed o k (place + 1) now before) (entry_at place h)
  effect_text k h (Removed place before) = r.removed o k (place + 1) before
  effect_text k h Waits = []
  effect_text k h Nothing = []

  abbrev pub update_text : Option Family → Mirrored → Option (Family × Effect Item) → List ℕ
  update_text only m None = []
  update_text only m (Some u) = where_so (is_shown only u.0) (effect_text u.0 (table_of u.0 m) u.1)

  -- what a message made of the tables that are shown
  abbrev pub answer_text : Option Family → Mirrored → Result Update Short → List ℕ
  answer_text only m (Ok update) = update_text only m (update_effect update)
  answer_text only m (Err short) = []

  -- and messages, one after another
  abbrev pub answers_text : Option Family → List Hearing → List ℕ
  answers_text only [] = []
  answers_text only (h ∷ hs) = answer_text only h.mirror h.answer ++ answers_text only hs

  -- the whole table of a kind, which a dump renewed
  abbrev pub renewed_text : Family → Held Item → List ℕ
  renewed_text k h = r.renewed k (length h.entries) ++ entries_text t o 1 h.entries

  -- what a step made of the table of a kind that was in this state before it, beside single entries: its dump has ended; it is stale, and wasn't, or its dump has just ended
  abbrev pub kind_text : TableState → Mirrored → Family → List ℕ
  kind_text was m k =
      where_so (has_ended was m k) (renewed_text k (table_of k m)) ++ where_so (has_ended was m k || not was.stale) (where_some (r.doubted k) (doubt k m))

  -- what came of a step by itself, the datagram being of this number: refusals, whether changes are told or not
  abbrev pub outcome_text : MirrorSettings → Step → ℕ → Outcome → List ℕ
  outcome_text s step number (heard hs) = where_so s.changes (answers_text s.kind hs)
  outcome_text s step number (refused e) = t.refusal number (read_error e)
  outcome_text s (feeds d) number (began answer) = []
  outcome_text s (begins d) number (began answer) = where_so (not (is_begun answer)) (r.unbegun d)
  outcome_text s loses number (began answer) = []
  outcome_text s step number lost = []

  -- what is told of a step
  unfoldable pub step_text : MirrorSettings → Step → Passed → List ℕ
  step_text s step x =
      outcome_text s step x.datagrams x.outcome ++ where_so s.changes (of_shown s.kind (λ k. kind_text (table_state k x.before) x.after k))

  -- the table of a kind at the end, and how it stands
  abbrev pub table_text : Family → Held Item → Option Stale → List ℕ
  table_text k h why = r.table k ⨟ entries_text t o 1 h.entries ⨟ r.standing k (length h.entries) h.missed why

  -- what is told at the end: the tables, where changes were not
  unfoldable pub end_text : MirrorSettings → Mirrored → List ℕ
  end_text s m = where_so (not s.changes) (of_shown s.kind (λ k. table_text k (table_of k m) (doubt k m)))

-- a table is current, or not shown
abbrev pub stands : Option Family → Mirrored → Family → Bool
stands only m k = not (is_shown only k) || not (is_some (doubt k m))

-- each table that is shown is current
abbrev pub is_current : Option Family → Mirrored → Bool
is_current only m = stands only m Link && (stands only m Addr && (stands only m Route && (stands only m Neigh && stands only m Rule)))

-- ---- in lines of text

-- what became of the entry of this number
unfoldable pub change_line : List ℕ → Family → ℕ → List ℕ
change_line sign kind number = sign ⨟ name_of kind ⨟ codes " " ⨟ decimal number ⨟ codes "\n"

-- why a table is stale
unfoldable pub doubted_line : Family → Stale → List ℕ
doubted_line kind why = codes "? " ⨟ name_of kind ⨟ codes " " ⨟ stale_name why ⨟ codes "\n"

-- why a dump didn't begin
unfoldable pub unbegun_reason : List ℕ
unbegun_reason = codes "its sequence number is not above those before\n"

-- a dump didn't begin
unfoldable pub unbegun_line : Dump → List ℕ
unbegun_line d =
    codes "dump " ⨟ name_of d.kind ⨟ codes " seq " ⨟ decimal d.seq ⨟ codes " port " ⨟ decimal d.port
    ⨟ codes " refused: " ⨟ unbegun_reason

-- which table follows
unfoldable pub table_line : Family → List ℕ
table_line kind = codes "table " ⨟ name_of kind ⨟ codes "\n"

-- whether a table is current, or why not
unfoldable pub current_text : Option Stale → List ℕ
current_text None = codes "yes"
current_text (Some why) = codes "no: " ⨟ stale_name why

-- how a table stands
unfoldable pub standing_line : ℕ → ℕ → Option Stale → List ℕ
standing_line entries missed why =
    codes "entries " ⨟ decimal entries ⨟ codes " missed " ⨟ decimal missed ⨟ codes " current " ⨟ current_text why ⨟ codes "\n"

abbrev pub in_text : MirrorReport
in_text = record {
  unbegun = unbegun_line;
  added = λ o k n x. change_line (codes "+ ") k n ++ item_text o x;
  changed = λ o k n x before. change_line (codes "~ ") k n ⨟ item_text o x ⨟ codes "was\n" ⨟ item_text o before;
  removed = λ o k n before. change_line (codes "- ") k n ++ item_text o before;
  renewed = λ k n. change_line (codes "= ") k n;
  doubted = doubted_line;
  table = table_line;
  standing = λ k n missed why. standing_line n missed why;
}

-- ---- for private clauses

-- the step that a line says, its datagram being these bytes
abbrev pub step_of : List ℕ → StepKind → Step
step_of bytes step_kind.Datagram = feeds bytes
step_of bytes (step_kind.Dump d) = begins d
step_of bytes step_kind.Loss = loses

-- a line was read; or it is bad, or memory ran out
abbrev pub ReadsStep : ℕ → List ℕ → List ℕ → Result (Option StepKind) RunError → Type 0
ReadsStep family line bytes (Ok kind) = step_in family line ≡ Ok (option_map (step_of bytes) kind)
ReadsStep family line bytes (Err e) = Fails e (step_in family line)

-- how the tables of all kinds stand
abbrev pub table_states : Mirrored → TableStates
table_states m = record { link = table_state Link m; addr = table_state Addr m; route = table_state Route m; neigh = table_state Neigh m; rule = table_state Rule m }

abbrev pub state_in : TableStates → Family → TableState
state_in s Link = s.link
state_in s Addr = s.addr
state_in s Route = s.route
state_in s Neigh = s.neigh
state_in s Rule = s.rule
