-- The answers to C of the calls of a mirror. A handle has a mirror or none, before a call and after it.
use Rattle.std.specs.Prelude.{◌≡◌, ◌<◌, ◌≤◌, ◌+◌, ◌-◌, ◌*◌, ◌/◌, ◌^◌, ◌++◌, ◌∷◌, ◌↔◌, ℕ, min, List, [], length, take, drop, Option, Some, None, option_map, is_some, Result, Ok, Err, false}
use Rattle.nl_attr.specs.declared.order.Order.{Order}
use Rattle.nl_route.specs.declared.family.Family.{Family}
use Rattle.nl_route.specs.declared.family.Verb.TheVariants.{New}
use Rattle.nl_route.specs.Families.{type_of}
use Rattle.nl_frame.specs.declared.reading.ReadError.{ReadError}
use Rattle.nl_frame.specs.declared.reading.ReadError.TheVariants as unread
use Rattle.nl_frame.specs.declared.writing.WriteError.{WriteError}
use Rattle.nl_frame.specs.Limits.{Bounds, AreLimits}
use Rattle.nl_frame.specs.Message.{MessageVal}
use Rattle.nl_frame.specs.Outcomes.{read_code}
use Rattle.nl_frame.specs.Written.{written}
use Rattle.nl_table.specs.Content.{Content}
use Rattle.nl_dump.specs.declared.dump.Dump.{Dump}
use Rattle.nl_dump.specs.Items.{Item}
use Rattle.nl_dump.specs.Request.{dump_of, request_of}
use Rattle.nl_mirror.specs.declared.effect.Effect.{Effect}
use Rattle.nl_mirror.specs.declared.effect.Effect.TheVariants.{Added, Changed, Removed, Waits, Nothing}
use Rattle.nl_mirror.specs.declared.effect.Update.{Update}
use Rattle.nl_mirror.specs.declared.errors.BeginError.{BeginError}
use Rattle.nl_mirror.specs.declared.errors.BeginError.TheVariants as begin
use Rattle.nl_mirror.specs.declared.short.Short.{Short}
use Rattle.nl_mirror.specs.declared.short.Short.TheVariants as short
use Rattle.nl_mirror.specs.declared.stale.Stale.{Stale}
use Rattle.nl_mirror.specs.declared.stale.Stale.TheVariants as stale
use Rattle.nl_mirror.specs.Effects.{update_effect}
use Rattle.nl_mirror.specs.Five.{Mirrored, Began, EachLoses, HearsEach, IsFed, IsNew, follower_at}
use Rattle.nl_mirror.specs.Hearing.{Follows}
use Rattle.nl_mirror.specs.Replicated.{stale_of}
use Rattle.rtnl_c.specs.declared.hearing.Change.{Change}
use Rattle.rtnl_c.specs.declared.hearing.Heard.{Heard}
use Rattle.rtnl_c.specs.declared.mirrored.MirrorTableInfo.{MirrorTableInfo}
use Rattle.rtnl_c.specs.declared.options.Options.{Options}
use Rattle.rtnl_c.specs.declared.put.Put.{Put}
use Rattle.rtnl_c.specs.declared.tables.FoundEntry.{FoundEntry}
use Rattle.rtnl_c.specs.Checked.{place_of as place_in}
use Rattle.rtnl_c.specs.Codes.{busy, no_kind, no_memory, no_mirror, no_room, used_seq}
use Rattle.rtnl_c.specs.Entries.{entry_message, found_at, found_if, place_of}
use Rattle.rtnl_c.specs.Options.{bounds_in}
use Rattle.rtnl_c.specs.Put.{not_put, put_of}

-- ---- a mirror is made

-- a mirror of these limits, where so many changes of a kind may wait, is new, or there was no memory for it
pub data Makes (b : Bounds) (waiting : ℕ) : ℕ → Option Mirrored → Type 0 where
  makes : (m : Mirrored) → IsNew b waiting m → Makes b waiting 0 (Some m)
  refused : Makes b waiting no_memory None

-- where there is a mirror, it stays; else one is made, unless a limit is out of its range
abbrev pub News : Options → ℕ → Option Mirrored → ℕ → Option Mirrored → Type 0
News o waiting (Some m) code after = (code ≡ busy) × (after ≡ Some m)
News o waiting None code after = (AreLimits (bounds_in o) → Makes (bounds_in o) waiting code after) × ((AreLimits (bounds_in o) → ⊥) → (code ≡ 12) × (after ≡ None))

-- ---- a dump begins

abbrev pub short_code : Short → ℕ
short_code short.Memory = no_memory
short_code short.Waiting = no_room

-- the byte order of the table of a family
abbrev pub order_at : Family → Mirrored → Order
order_at k m = (follower_at k m).replica.order

-- a buffer with bytes at its front, that has room for them
abbrev pub laid : {T : Type 0} → List T → List T → List T
laid front old = front ++ drop (length front) old

-- the request of a dump that has begun stands in the buffer, also where something was short; of one that has not, nothing does
abbrev pub PutsBegun : List ℕ → Result (Unit {0}) BeginError → List ℕ → List ℕ → Put → Type 0
PutsBegun request (Ok u) old new a = (a ≡ put_of (length request) 0) × (new ≡ laid request old)
PutsBegun request (Err (begin.Short s)) old new a = (a ≡ put_of (length request) (short_code s)) × (new ≡ laid request old)
PutsBegun request (Err begin.Number) old new a = (a ≡ not_put used_seq) × (new ≡ old)

-- a dump begins as `Mirror::begin` has it, where there is room for its request
abbrev pub BeginsDump : Mirrored → Dump → List ℕ → List ℕ → Put → Mirrored → Type 0
BeginsDump before d old new a after =
    let request = request_of (order_at d.kind before) d in
    (length old < length request → (a ≡ put_of (length request) no_room) × (new ≡ old) × (after ≡ before))
    × (length request ≤ length old → (r : Result (Unit {0}) BeginError) × Began d r before after × PutsBegun request r old new a)

abbrev pub BeginsKind : Mirrored → Option Family → ℕ → ℕ → ℕ → List ℕ → List ℕ → Put → Mirrored → Type 0
BeginsKind before None family seq port old new a after = (a ≡ not_put no_kind) × (new ≡ old) × (after ≡ before)
BeginsKind before (Some kind) family seq port old new a after = BeginsDump before (dump_of kind family seq port) old new a after

abbrev pub Begins : Option Mirrored → Option Family → ℕ → ℕ → ℕ → List ℕ → List ℕ → Put → Option Mirrored → Type 0
Begins None kind family seq port old new a after = (a ≡ not_put no_mirror) × (new ≡ old) × (after ≡ None)
Begins (Some before) kind family seq port old new a after = (m : Mirrored) × BeginsKind before kind family seq port old new a m × (after ≡ Some m)

-- ---- something was lost

abbrev pub LosesAll : Option Mirrored → ℕ → Option Mirrored → Type 0
LosesAll None code after = (code ≡ no_mirror) × (after ≡ None)
LosesAll (Some before) code after = (code ≡ 0) × (m : Mirrored) × EachLoses stale.Lost before m × (after ≡ Some m)

-- ---- what a message makes of a table

module _ {T : Type 0} where
  -- the numbers of effects
  abbrev pub effect_number : Effect T → ℕ
  effect_number Nothing = 0
  effect_number (Added i) = 1
  effect_number (Changed i x) = 2
  effect_number (Removed i x) = 3
  effect_number Waits = 4

  -- the place of the entry, where it has one
  abbrev pub effect_index : Effect T → ℕ
  effect_index Nothing = 0
  effect_index (Added i) = i
  effect_index (Changed i x) = i
  effect_index (Removed i x) = i
  effect_index Waits = 0

  -- the entry that was there before
  abbrev pub effect_before : Effect T → Option T
  effect_before Nothing = None
  effect_before (Added i) = None
  effect_before (Changed i x) = Some x
  effect_before (Removed i x) = Some x
  effect_before Waits = None

  -- what becomes of a message of this family, with the entry before it at this place, of so many bytes
  abbrev pub change_in : Family → Effect T → ℕ → ℕ → Change
  change_in k e at len = record { before = at; before_len = len; index = effect_index e; kind = type_of k New; effect = effect_number e; code = 0 }

-- of a message that makes nothing of a table
abbrev pub no_change : ℕ → ℕ → ℕ → Change
no_change at len code = record { before = at; before_len = len; index = 0; kind = 0; effect = 0; code = code }

abbrev pub update_change : Option (Family × Effect Item) → ℕ → ℕ → Change
update_change (Some p) at len = change_in p.0 p.1 at len
update_change None at len = no_change at len 0

-- of a message that was answered so
abbrev pub change_of : Result Update Short → ℕ → ℕ → Change
change_of (Ok u) at len = update_change (update_effect u) at len
change_of (Err s) at len = no_change at len (short_code s)

-- the entry before it as its message is written, in the byte order of its table
abbrev pub update_before : Mirrored → Option (Family × Effect Item) → Option (List ℕ)
update_before m (Some p) = option_map (λ i. written (order_at p.0 m) (entry_message p.0 i ∷ [])) (effect_before p.1)
update_before m None = None

abbrev pub before_bytes : Mirrored → Result Update Short → Option (List ℕ)
before_bytes m (Ok u) = update_before m (update_effect u)
before_bytes m (Err s) = None

-- ---- where that is put

-- what is put of the entry before: all of it, where there is room; nothing where there is none, where there is less room, or where it can't be written
pub data IsBefore (room : ℕ) : Option (List ℕ) → List ℕ → Type 0 where
  none : IsBefore room None []
  whole : (bytes : List ℕ) → length bytes ≤ room → IsBefore room (Some bytes) bytes
  lacks : (bytes : List ℕ) → room < length bytes → IsBefore room (Some bytes) []
  unwritten : (bytes : List ℕ) → WriteError → IsBefore room (Some bytes) []

-- of messages that were answered so these are the changes, and these bytes the entries before them, one behind another, for which there is so much room
pub data AreChanges (m : Mirrored) (room : ℕ) : List (Result Update Short) → List Change → List ℕ → Type 0 where
  nothing : AreChanges m room [] [] []
  another : (rs : List (Result Update Short)) (cs : List Change) (put : List ℕ) → AreChanges m room rs cs put
      → (r : Result Update Short) (bytes : List ℕ) → IsBefore (room - length put) (before_bytes m r) bytes
      → AreChanges m room (rs ++ r ∷ []) (cs ++ change_of r (length put) (length bytes) ∷ []) (put ++ bytes)

-- the entry before stands at the front of a buffer, as far as it was put
abbrev pub PutsBefore : Option (List ℕ) → List ℕ → List ℕ → ℕ → Type 0
PutsBefore before old new len = (bytes : List ℕ) × IsBefore (length old) before bytes × (new ≡ laid bytes old) × (len ≡ length bytes)

-- the changes stand at the front of one buffer, one for each message, and the entries before them at the front of the other
pub record PutsChanges (m : Mirrored) (rs : List (Result Update Short)) (old : List Change) (out : List ℕ) (new : List Change) (out' : List ℕ) (len : ℕ) : Type 0 where
  pub changes : List Change
  pub put : List ℕ
  pub are : AreChanges m (length out) rs changes put
  pub one_each : length changes ≡ length rs
  pub room : length put ≤ length out
  pub told : new ≡ laid changes old
  pub stand : out' ≡ laid put out
  pub end : len ≡ length put

-- places are below 2 ^ 32, so no more of a buffer is used
abbrev pub place_room : List ℕ → ℕ
place_room out = min (length out) (2 ^ 32 - 1)

abbrev pub heard : ℕ → ℕ → ℕ → Heard
heard visits changes before = record { visits = visits; changes = changes; before = before; place = 0; code = 0 }

abbrev pub unheard : ℕ → ℕ → ℕ → Heard
unheard visits place code = record { visits = visits; changes = 0; before = 0; place = place; code = code }

-- nothing is put where there is no room for any change
pub data Tells (m : Mirrored) (rs : List (Result Update Short)) (visits : ℕ) (old : List Change) (out : List ℕ) : List Change → List ℕ → Heard → Type 0 where
  unasked : length old ≡ 0 → Tells m rs visits old out old out (heard visits 0 0)
  tells : 0 < length old → length rs ≤ length old → (new : List Change) (front : List ℕ) (len : ℕ) → PutsChanges m rs old (take (place_room out) out) new front len
      → Tells m rs visits old out new (front ++ drop (place_room out) out) (heard visits (length rs) len)

-- the messages are heard in order, and what they are answered has this property
abbrev pub Hears : Mirrored → List MessageVal → Mirrored → (List (Result Update Short) → Type 0) → Type 0
Hears before ms after P = (rs : List (Result Update Short)) × HearsEach before ms rs after × P rs

-- ---- a datagram is fed

-- what was answered is told, or why it was refused
abbrev pub Answers : Mirrored → Result (List (Result Update Short)) ReadError → ℕ → List Change → List ℕ → List Change → List ℕ → Heard → Type 0
Answers m (Ok rs) visits old out new out' a = Tells m rs visits old out new out' a
Answers m (Err e) visits old out new out' a = (a ≡ unheard visits (place_in e) (read_code e)) × (new ≡ old) × (out' ≡ out)

-- changes are wanted, and there is room for fewer than a sixteenth of the bytes
abbrev pub IsShortOf : List Change → List ℕ → Type 0
IsShortOf old bytes = (0 < length old) × (length old < length bytes / 16)

-- as `Mirror::feed` has it, where there is room for the changes or none for any
pub data FeedsOne (before : Mirrored) (bytes : List ℕ) (old : List Change) (out : List ℕ) : List Change → List ℕ → Heard → Mirrored → Type 0 where
  short_of : IsShortOf old bytes → FeedsOne before bytes old out old out (unheard 0 0 no_room) before
  feeds : (IsShortOf old bytes → ⊥) → (r : Result (List (Result Update Short)) ReadError) (visits : ℕ) (after : Mirrored) → IsFed before bytes r after
      → (r ≡ Err unread.TooLarge ↔ before.settings.limits.datagram < length bytes) → visits ≤ (before.settings.limits.shape.depth + 1) * length bytes
      → (new : List Change) (out' : List ℕ) (a : Heard) → Answers after r visits old out new out' a → FeedsOne before bytes old out new out' a after

pub data Feeds (bytes : List ℕ) (old : List Change) (out : List ℕ) : Option Mirrored → List Change → List ℕ → Heard → Option Mirrored → Type 0 where
  unmade : Feeds bytes old out None old out (unheard 0 0 no_mirror) None
  fed : (before : Mirrored) (new : List Change) (out' : List ℕ) (a : Heard) (after : Mirrored) → FeedsOne before bytes old out new out' a after → Feeds bytes old out (Some before) new out' a (Some after)

-- ---- its tables

-- the numbers of what makes a table stale
abbrev pub stale_number : Option Stale → ℕ
stale_number None = 0
stale_number (Some stale.NeverDumped) = 1
stale_number (Some stale.Lost) = 2
stale_number (Some stale.Refused) = 3
stale_number (Some stale.Memory) = 4
stale_number (Some stale.Waiting) = 5
stale_number (Some stale.Silent) = 6
stale_number (Some stale.Unnamed) = 7
stale_number (Some stale.Full) = 8

-- the sequence number of the dump that runs
abbrev pub number_of : Option Dump → ℕ
number_of None = 0
number_of (Some d) = d.seq

abbrev pub unmirrored : ℕ → MirrorTableInfo
unmirrored code = record { missed = 0; count = 0; limit = 0; seq = 0; stale = 0; dumps = false; code = code }

abbrev pub standing : Follows → MirrorTableInfo
standing f = record {
  missed = f.replica.table.missed;
  count = length f.replica.table.entries;
  limit = f.replica.limit;
  seq = number_of f.listening.dump;
  stale = stale_number (stale_of f.replica);
  dumps = is_some f.listening.dump;
  code = 0;
}

abbrev pub standing_in : Option Mirrored → Option Family → MirrorTableInfo
standing_in None kind = unmirrored no_mirror
standing_in (Some m) None = unmirrored no_kind
standing_in (Some m) (Some k) = standing (follower_at k m)

-- the table of a family; nothing is said of the places that it has reserved
abbrev pub table_of : Follows → Content Item
table_of f = record { order = f.replica.order; limit = f.replica.limit; missed = f.replica.table.missed; spare = 0; entries = f.replica.table.entries }

abbrev pub table_at : Family → Mirrored → Content Item
table_at k m = table_of (follower_at k m)

-- what is put of a table, where there is a mirror and the family
abbrev pub OfTable : (Content Item → Family → List ℕ → List ℕ → Put → Type 0) → Option Mirrored → Option Family → List ℕ → List ℕ → Put → Type 0
OfTable P None kind old new a = (a ≡ not_put no_mirror) × (new ≡ old)
OfTable P (Some m) None old new a = (a ≡ not_put no_kind) × (new ≡ old)
OfTable P (Some m) (Some k) old new a = P (table_at k m) k old new a

abbrev pub found_in : Option Mirrored → Option Family → List ℕ → FoundEntry
found_in None kind key = found_at 0 no_mirror
found_in (Some m) None key = found_at 0 no_kind
found_in (Some m) (Some k) key = found_if (place_of key (table_at k m))
