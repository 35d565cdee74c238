-- What messages are to the mirror of a family.
use Rattle.std.specs.Prelude.{ℕ, ◌==◌, ◌&&◌, ◌||◌, not, Bool, false, if◌then◌else◌, List, [], ◌∷◌, ◌++◌, Option, Some, None, is_some, option_map, bit_and}
use Rattle.nl_route.specs.declared.family.Family.{Family}
use Rattle.nl_route.specs.declared.family.Family.TheVariants.{Link, Addr, Route, Neigh, Rule}
use Rattle.nl_route.specs.declared.family.Verb.TheVariants.{New, Del}
use Rattle.nl_route.specs.Families.{row, same_family, type_of}
use Rattle.nl_frame.specs.Message.{BodyVal, object, overrun, MessageVal}
use Rattle.nl_dump.specs.declared.dump.Dump.{Dump}
use Rattle.nl_dump.specs.declared.dump.End.{End}
use Rattle.nl_dump.specs.declared.dump.End.TheVariants.{Done, Overrun}
use Rattle.nl_dump.specs.View.{is_success}
use Rattle.nl_dump.specs.Items.{Item, body_item}
use Rattle.nl_dump.specs.Answer.{belongs, item_in, end_in}
use Rattle.nl_mirror.specs.declared.change.Change.{Change}
use Rattle.nl_mirror.specs.declared.change.Change.TheVariants.{Now, Gone}
use Rattle.nl_mirror.specs.declared.stale.Stale.{Stale}
use Rattle.nl_mirror.specs.declared.stale.Stale.TheVariants.{NeverDumped, Lost, Silent, Unnamed}
use Rattle.nl_mirror.specs.Past.{Event, brings, ends, tells, beginning, by_doubt}

-- the family byte of a head
abbrev pub head_family : (g : Family) → (row g).Head → ℕ
head_family Link h = h.family
head_family Addr h = h.family
head_family Route h = h.family
head_family Neigh h = h.family
head_family Rule h = h.family

abbrev pub item_family : Item → ℕ
item_family i = head_family i.0.family i.0.head

-- a route that answers a look-up has RTM_F_CLONED (0x200), and is in no table of the kernel
abbrev pub head_cloned : (g : Family) → (row g).Head → Bool
head_cloned Link h = false
head_cloned Addr h = false
head_cloned Route h = not (bit_and h.flags 512 == 0)
head_cloned Neigh h = false
head_cloned Rule h = false

abbrev pub item_cloned : Item → Bool
item_cloned i = head_cloned i.0.family i.0.head

-- AF_BRIDGE of linux/socket.h
abbrev pub AF_BRIDGE : ℕ
AF_BRIDGE = 7

-- what a dump that asks for this address family covers: that one; or, where it asks for 0, all but AF_BRIDGE, and of links 0 alone
abbrev pub covers : Family → ℕ → ℕ → Bool
covers k asked has = (asked == has) || ((asked == 0) && (not (same_family k Link) && not (has == AF_BRIDGE)))

-- an item that is covered
abbrev pub if_covered : Family → ℕ → Option Item → Option Item
if_covered k asked None = None
if_covered k asked (Some i) = if covers k asked (item_family i) && not (item_cloned i) then Some i else None

-- a part of a dump's answer has the flag MULTI
abbrev pub is_part : ℕ → Bool
is_part flags = not (bit_and flags 2 == 0)

-- what a message is told of a family's entries, where it is no part of a dump: NEW says that one is so now, DEL that it is gone
abbrev pub note_in : Family → ℕ → MessageVal → Option (Change Item)
note_in k asked m =
    if is_part m.flags then None else (
    if m.kind == type_of k New then option_map Now (if_covered k asked (body_item k m.body)) else (
    if m.kind == type_of k Del then option_map Gone (if_covered k asked (body_item k m.body)) else None))

-- a dump ended whole: by DONE with no failure, and without an interruption
abbrev pub ends_whole : Bool → End → Bool
ends_whole interrupted (Done z) = is_success z && not interrupted
ends_whole interrupted e = false

-- what the mirror of a family knows of the datagrams so far: the dump that runs, if it is of this family; whether it was interrupted; the address family asked for last
pub record Listening : Type 0 where
  pub dump : Option Dump
  pub interrupted : Bool
  pub asked : ℕ

-- what a mirror hears, the oldest first, and what it knows then
pub record Heard : Type 0 where
  pub events : List (Event Item)
  pub after : Listening

-- one more message has DUMP_INTR
abbrev pub marks : MessageVal → Bool
marks m = not (bit_and m.flags 16 == 0)

-- what a message of a family leaves open of routes. A link that isn't up (IFF_UP, 1) or is gone, and an address of IPv4 (2) that is gone, take routes of IPv4 with
-- them, of which nothing is told. REPLACE (0x100) doesn't say which route goes, and APPEND (0x800) not which one it joins; of IPv6 (10) one hop alone may go
abbrev pub leaves_open : MessageVal → (g : Family) → (row g).Head → Option Stale
leaves_open m Link h = if (m.kind == type_of Link Del) || (bit_and h.flags 1 == 0) then Some Silent else None
leaves_open m Addr h = if (m.kind == type_of Addr Del) && (h.family == 2) then Some Silent else None
leaves_open m Route h = if not (bit_and m.flags 2304 == 0) || ((m.kind == type_of Route Del) && (h.family == 10)) then Some Unnamed else None
leaves_open m Neigh h = None
leaves_open m Rule h = None

abbrev pub body_open : MessageVal → BodyVal → Option Stale
body_open m (object h is) = leaves_open m h.family h.head
body_open m b = None

-- after a message the table of this family is stale: the kernel lost some, as OVERRUN says, or a change leaves open what routes there are
abbrev pub body_doubt : Family → MessageVal → BodyVal → Option Stale
body_doubt k m (overrun bytes) = Some Lost
body_doubt k m b = if same_family k Route && not (is_part m.flags) then body_open m b else None

abbrev pub doubt_of : Family → MessageVal → Option Stale
doubt_of k m = body_doubt k m m.body

-- what is told by a message that belongs to no dump
abbrev pub by_note : Option (Change Item) → List (Event Item)
by_note (Some c) = tells c ∷ []
by_note None = []

abbrev pub beside : Family → Listening → MessageVal → Heard
beside k l m = record { events = by_note (note_in k l.asked m) ++ by_doubt (doubt_of k m); after = l }

-- with an OVERRUN that ends a dump something is lost
abbrev pub lost_by : End → Option Stale
lost_by Overrun = Some Lost
lost_by e = None

-- what is heard of the end of the dump that runs
abbrev pub ending : End → Bool → Listening → Heard
ending e interrupted l = record { events = ends (ends_whole interrupted e) ∷ by_doubt (lost_by e); after = record l { dump = None } }

-- what is heard of a message that belongs to the dump that runs: its end, or an item
abbrev pub within : Option End → Option Item → Bool → Listening → Heard
within (Some e) i marked l = ending e (l.interrupted || marked) l
within None (Some i) marked l = record { events = brings i ∷ []; after = record l { interrupted = l.interrupted || marked } }
within None None marked l = record { events = []; after = l }

abbrev pub hears_while : Option Dump → Family → Listening → MessageVal → Heard
hears_while None k l m = beside k l m
hears_while (Some d) k l m = if belongs d m then within (end_in d m) (item_in d m) (marks m) l else beside k l m

-- one message
abbrev pub hears : Family → Listening → MessageVal → Heard
hears k l m = hears_while l.dump k l m

-- nothing was heard
abbrev pub silent : Listening
silent = record { dump = None; interrupted = false; asked = 0 }

-- a dump of another address family makes the table stale until it has ended: of that family nothing is known yet
abbrev pub renewal : ℕ → ℕ → Option Stale
renewal before now = if before == now then None else Some NeverDumped

-- a dump begins, and one that runs is given up
abbrev pub asks : Listening → Dump → Heard
asks l d = record { events = beginning (is_some l.dump) (renewal l.asked d.family); after = record { dump = Some d; interrupted = false; asked = d.family } }
