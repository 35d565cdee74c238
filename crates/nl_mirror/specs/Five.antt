-- The mirror of all kinds: each of its followers hears every message.
use Rattle.std.specs.Prelude.{◌≡◌, ℕ, Bool, true, false, is_some, List, [], ◌∷◌, map, IfErr, IfOk, Option, Some, None, nat_le, Result, Ok, Err}
use Rattle.std.specs.Global.{Vec}
use Rattle.nl_route.specs.declared.family.Family.{Family}
use Rattle.nl_route.specs.declared.family.Family.TheVariants.{Link, Addr, Route, Neigh, Rule}
use Rattle.nl_route.specs.declared.object.Object.{Object}
use Rattle.nl_route.specs.Families.{row, same_family}
use Rattle.nl_frame.specs.declared.body.Message.{Message}
use Rattle.nl_frame.specs.declared.reading.ReadError.{ReadError}
use Rattle.nl_frame.specs.declared.reading.ReadError.TheVariants as unread
use Rattle.nl_frame.specs.Message.{MessageVal}
use Rattle.nl_frame.specs.View.{message_view}
use Rattle.nl_frame.specs.Limits.{Bounds}
use Rattle.nl_frame.specs.Layout.{Layout}
use Rattle.nl_frame.specs.Heads.{IsFirstFault, whole}
use Rattle.nl_frame.specs.Outcomes.{IfFault}
use Rattle.nl_dump.specs.declared.dump.Dump.{Dump}
use Rattle.nl_dump.specs.Items.{body_item, item_of}
use Rattle.nl_mirror.specs.declared.effect.Update.{Update}
use Rattle.nl_mirror.specs.declared.errors.BeginError.{BeginError}
use Rattle.nl_mirror.specs.declared.errors.BeginError.TheVariants as begin
use Rattle.nl_mirror.specs.declared.short.Short.{Short}
use Rattle.nl_mirror.specs.declared.short.Short.TheVariants as short
use Rattle.nl_mirror.specs.declared.stale.Stale.{Stale}
use Rattle.nl_mirror.specs.declared.stale.Stale.TheVariants as stale
use Rattle.nl_mirror.specs.Replicated.{new_replica}
use Rattle.nl_mirror.specs.Notes.{asks, hears, silent}
use Rattle.nl_mirror.specs.Effects.{FindsNoRoom, effect_heard, update_effect}
use Rattle.nl_mirror.specs.Hearing.{Following, Follows, in_items, IsHeardBy, IsLost}

-- what a mirror is set to: its limits, and the sequence number of the last dump that began
pub record Settings : Type 0 where
  pub limits : Bounds
  pub last : Option ℕ

-- that, and the followers of the five kinds
pub record Mirrored : Type 0 where
  pub settings : Settings
  pub links : Following (Object (row Link).Head)
  pub addrs : Following (Object (row Addr).Head)
  pub routes : Following (Object (row Route).Head)
  pub neighs : Following (Object (row Neigh).Head)
  pub rules : Following (Object (row Rule).Head)

abbrev pub follower_at : Family → Mirrored → Follows
follower_at Link m = in_items (item_of Link) m.links
follower_at Addr m = in_items (item_of Addr) m.addrs
follower_at Route m = in_items (item_of Route) m.routes
follower_at Neigh m = in_items (item_of Neigh) m.neighs
follower_at Rule m = in_items (item_of Rule) m.rules

-- a follower of this kind that heard nothing
abbrev pub new_follower : Bounds → ℕ → Family → Follows
new_follower b waiting k = record { kind = k; listening = silent; replica = new_replica b.shape.order b.entries waiting }

-- a mirror of these limits that heard nothing, where so many changes of a kind may wait for a dump's end
abbrev pub IsNew : Bounds → ℕ → Mirrored → Type 0
IsNew b waiting m = (m.settings ≡ record { limits = b; last = None }) × ((k : Family) → follower_at k m ≡ new_follower b waiting k)

-- the message has a body of this kind
abbrev pub is_own : Family → MessageVal → Bool
is_own k m = is_some (body_item k m.body)

-- the follower of this kind hears a message of another
abbrev pub IsOverheard : {A : Type 0} → Family → Result A Short → Follows → MessageVal → Follows → Type 0
IsOverheard k r f m g = (is_own k m ≡ true → g ≡ f) × (is_own k m ≡ false → IsHeardBy r f (hears f.kind f.listening m) g)

-- the follower of this kind hears a message of its own
abbrev pub IsOwnHeard : {A : Type 0} → Family → Result A Short → Follows → MessageVal → Follows → Type 0
IsOwnHeard k r f m g = (is_own k m ≡ true → IsHeardBy r f (hears f.kind f.listening m) g) × (is_own k m ≡ false → g ≡ f)

-- all others than that of its kind hear it
abbrev pub OthersHear : {A : Type 0} → Result A Short → Mirrored → MessageVal → Mirrored → Type 0
OthersHear r f m g = (g.settings ≡ f.settings) × ((k : Family) → IsOverheard k r (follower_at k f) m (follower_at k g))

-- that of its kind hears it, and the others don't
abbrev pub OneHears : {A : Type 0} → Result A Short → Mirrored → MessageVal → Mirrored → Type 0
OneHears r f m g = (g.settings ≡ f.settings) × ((k : Family) → IsOwnHeard k r (follower_at k f) m (follower_at k g))

-- what may be short: room, where the message tells a change of its own kind that finds none; and memory, where it tells no such
abbrev pub IsShort : Mirrored → MessageVal → Short → Type 0
IsShort f m short.Waiting = (k : Family) × (is_own k m ≡ true) × FindsNoRoom (follower_at k f) m
IsShort f m short.Memory = (k : Family) → is_own k m ≡ true → FindsNoRoom (follower_at k f) m → ⊥

-- each hears this message, as the answer says
abbrev pub EachHearsBy : {A : Type 0} → Result A Short → Mirrored → MessageVal → Mirrored → Type 0
EachHearsBy r f m g =
    (g.settings ≡ f.settings) × ((k : Family) → IsHeardBy r (follower_at k f) (hears (follower_at k f).kind (follower_at k f).listening m) (follower_at k g))
    × IfErr r (IsShort f m)

-- each loses something
abbrev pub EachLoses : Stale → Mirrored → Mirrored → Type 0
EachLoses why f g = (g.settings ≡ f.settings) × ((k : Family) → IsLost why (follower_at k f) (follower_at k g))

-- the one meaning of a datagram is heard
abbrev pub IsOneLayout : Bounds → List ℕ → List MessageVal → Type 0
IsOneLayout b bs ms = Layout b.shape ms bs × ((ns : List MessageVal) → Layout b.shape ns bs → ns ≡ ms)

-- the reason that tables have after a refusal
abbrev pub refusal : ReadError → Stale
refusal unread.Memory = stale.Memory
refusal e = stale.Refused

-- what a message makes of the table of its own kind, if it has one
abbrev pub IsUpdate : Mirrored → MessageVal → Update → Type 0
IsUpdate f m u =
    ((k : Family) → is_own k m ≡ true → update_effect u ≡ Some (k, effect_heard (follower_at k f) m))
    × (((k : Family) → is_own k m ≡ false) → update_effect u ≡ None)

-- a message whose change finds no room is answered so, and no other
abbrev pub FullIsSaid : Type 0
FullIsSaid =
    (r : Result Update Short) (f g : Mirrored) (m : MessageVal) (k : Family) → EachHearsBy r f m g → is_own k m ≡ true → FindsNoRoom (follower_at k f) m → r ≡ Err short.Waiting

-- each hears the messages, one after another, and each message is answered: what it makes of the table of its kind, or what was short
abbrev pub HearsEach : Mirrored → List MessageVal → List (Result Update Short) → Mirrored → Type 0
HearsEach f [] [] g = g ≡ f
HearsEach f (m ∷ ms) (r ∷ rs) g = (h : Mirrored) × EachHearsBy r f m h × IfOk r (IsUpdate f m) × HearsEach h ms rs g
HearsEach f ms rs g = ⊥

-- a datagram is refused so: at its first fault, where a header breaks a rule, and no list is its layout then
abbrev pub IsRefused : Bounds → List ℕ → ReadError → Type 0
IsRefused b bs e = IfFault e (λ f. IsFirstFault b.shape (whole bs) f.place f.reason × ((ms : List MessageVal) → Layout b.shape ms bs → ⊥))

-- what is read of a datagram: its one meaning, or why it is refused
abbrev pub IsRead : Bounds → List ℕ → Result (Vec Message) ReadError → Type 0
IsRead b bs (Ok ms) = IsOneLayout b bs (map message_view ms.items)
IsRead b bs (Err e) = IsRefused b bs e

-- what becomes of a mirror by a datagram, each of whose messages is answered: where it is refused, nothing changes but that each table is stale
abbrev pub IsFed : Mirrored → List ℕ → Result (List (Result Update Short)) ReadError → Mirrored → Type 0
IsFed f bs (Ok rs) g = (ms : List MessageVal) × IsOneLayout f.settings.limits bs ms × HearsEach f ms rs g
IsFed f bs (Err e) g = EachLoses (refusal e) f g × IsRefused f.settings.limits bs e

abbrev pub Fed : Mirrored → List ℕ → Result (Vec (Result Update Short)) ReadError → Mirrored → Type 0
Fed f bs (Ok rs) g = IsFed f bs (Ok rs.items) g
Fed f bs (Err e) g = IsFed f bs (Err e) g

-- a dump had this sequence number, or a later one
abbrev pub is_used : Option ℕ → ℕ → Bool
is_used None n = false
is_used (Some last) n = nat_le n last

-- the last dump that began has this number
abbrev pub numbered : ℕ → Mirrored → Mirrored
numbered n f = record f { settings = record f.settings { last = Some n } }

-- a dump of one kind begins, and nothing else changes
abbrev pub BeginsIn : Dump → Result (Unit {0}) Short → Mirrored → Mirrored → Type 0
BeginsIn d r f g =
    (g.settings ≡ f.settings) × IsHeardBy r (follower_at d.kind f) (asks (follower_at d.kind f).listening d) (follower_at d.kind g)
    × ((k : Family) → same_family k d.kind ≡ false → follower_at k g ≡ follower_at k f)

-- it begins under its number, which is above those of all dumps before; else nothing changes
abbrev pub Began : Dump → Result (Unit {0}) BeginError → Mirrored → Mirrored → Type 0
Began d (Ok x) f g = (is_used f.settings.last d.seq ≡ false) × BeginsIn d (Ok x) (numbered d.seq f) g
Began d (Err (begin.Short s)) f g = (is_used f.settings.last d.seq ≡ false) × BeginsIn d (Err s) (numbered d.seq f) g × (s ≡ short.Memory)
Began d (Err begin.Number) f g = (is_used f.settings.last d.seq ≡ true) × (g ≡ f)
