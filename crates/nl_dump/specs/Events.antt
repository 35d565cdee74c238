-- How the events of a dump's items are sifted from those of a datagram, as the program does it. No public clause cites this module.
use Rattle.std.specs.Prelude.{◌≡◌, ◌≤◌, ℕ, ◌+◌, ◌==◌, ◌&&◌, ◌||◌, not, Bool, true, false, nat_lt, if◌then◌else◌, pos}
use Rattle.std.specs.Prelude.{List, [], ◌∷◌, length, take, drop, Option, Some, None, bit_and}
use Rattle.std.specs.Ordering.{int_eq}
use Rattle.nl_attr.specs.declared.events.Event.{Event}
use Rattle.nl_attr.specs.Fixed.{SORT_MESSAGE}
use Rattle.nl_attr.specs.declared.fault.Reason.{Reason}
use Rattle.nl_attr.specs.declared.order.Order.{Order}
use Rattle.nl_route.specs.declared.family.Verb.TheVariants.{New}
use Rattle.nl_route.specs.Families.{type_of}
use Rattle.nl_frame.specs.declared.form.Form.{Form}
use Rattle.nl_frame.specs.declared.form.Form.TheVariants as form
use Rattle.nl_frame.specs.Front.{broken_message, form_at, payload_at}
use Rattle.nl_frame.specs.Header.{header_of}
use Rattle.nl_frame.specs.Reading.{signed_of}
use Rattle.nl_dump.specs.declared.dump.Dump.{Dump}
use Rattle.nl_dump.specs.declared.dump.End.{End}
use Rattle.nl_dump.specs.declared.dump.End.TheVariants.{Done, Error, Overrun}
use Rattle.nl_dump.specs.declared.role.Role.{Role}
use Rattle.nl_dump.specs.declared.role.Role.TheVariants.{Item as Brings, End as Ends, Other}
use Rattle.nl_dump.specs.declared.role.Found.{Found}
use Rattle.nl_dump.specs.declared.counts.Counts.{Counts}
use Rattle.nl_dump.specs.Answer.{ends_done, one_if}

-- ---- one message, as it lies in its datagram

-- a status, 0 where there is none
abbrev pub status_at : Order → List ℕ → End
status_at o payload = if nat_lt (length payload) 4 then Done (pos 0) else Done (signed_of o payload)

-- an ERROR with code 0 is an acknowledgement
abbrev pub error_at : Order → List ℕ → Option End
error_at o payload = if int_eq (signed_of o payload) (pos 0) then None else Some (Error (signed_of o payload))

-- how a body of this form ends a dump
abbrev pub form_end : Order → Form → List ℕ → Option End
form_end o form.Error payload = error_at o payload
form_end o form.Done payload = Some (status_at o payload)
form_end o form.Overrun payload = Some Overrun
form_end o f payload = None

-- nothing where no whole message stands there
abbrev pub unbroken : Option Reason → Option End → Option End
unbroken None e = e
unbroken (Some why) e = None

-- how the message at the front of these bytes ends a dump
abbrev pub end_here : Order → List ℕ → Option End
end_here o left = unbroken (broken_message o left) (form_end o (form_at o left) (payload_at o left))

-- it carries the numbers of the dump
abbrev pub belongs_in : Order → Dump → List ℕ → Bool
belongs_in o d left = ((header_of o left).seq == d.seq) && ((header_of o left).port == d.port)

-- it has the flag DUMP_INTR
abbrev pub marked_in : Order → List ℕ → Bool
marked_in o left = not (bit_and (header_of o left).flags 16 == 0)

-- an end, or neither an item nor an end
abbrev pub role_by : Option End → Role (Unit {0})
role_by (Some e) = Ends e
role_by None = Other

-- what a message of this type, at the front of these bytes, is to a dump
abbrev pub role_here : Order → Dump → ℕ → List ℕ → Role (Unit {0})
role_here o d number left =
    if belongs_in o d left then (
    if number == type_of d.kind New then Brings tt else role_by (end_here o left)) else Other

-- the bytes from a place on, where they have room for a header
abbrev pub left_at : List ℕ → ℕ → Option (List ℕ)
left_at bytes place = if nat_lt (length bytes) (place + 16) then None else Some (drop place bytes)

-- what a message of this type is, where these bytes are left
abbrev pub found_in : Order → Dump → ℕ → Option (List ℕ) → Found
found_in o d number None = record { role = Other; marked = false }
found_in o d number (Some left) = record { role = role_here o d number left; marked = marked_in o left }

-- what the message of an event is
abbrev pub found_at : Order → Dump → List ℕ → Event → Found
found_at o d bytes e = found_in o d e.number (left_at bytes e.place)

-- ---- one event after another

-- no message yet: what has none before it is kept
abbrev pub no_counts : Counts
no_counts = record { events = 0; keeps = true; items = 0; ignored = 0; interrupted = false; end = None }

-- one more message
abbrev pub judge : Option End → Role (Unit {0}) → Bool → Counts → Counts
judge (Some e) r marked s = record s { keeps = false; ignored = s.ignored + 1 }
judge None (Brings t) marked s = record s { keeps = true; items = s.items + 1; interrupted = s.interrupted || marked }
judge None (Ends e) marked s = record s { keeps = false; interrupted = s.interrupted || (marked && ends_done (Some e)); end = Some e }
judge None Other marked s = record s { keeps = false; ignored = s.ignored + 1 }

-- the event of a message's header is judged; another belongs to the message before it
abbrev pub at_head : (Event → Found) → Event → Counts → Counts
at_head find e s = if e.sort == SORT_MESSAGE then judge s.end (find e).role (find e).marked s else s

-- one more event stands in the buffer, where the message is kept
abbrev pub counted : Counts → Counts
counted s = record s { events = s.events + one_if s.keeps }

-- one more event
abbrev pub step : (Event → Found) → Counts → Event → Counts
step find s e = counted (at_head find e s)

-- all events
abbrev pub counts_of : (Event → Found) → Counts → List Event → Counts
counts_of find s [] = s
counts_of find s (e ∷ es) = counts_of find (step find s e) es

-- an event in front of others, where it is kept
abbrev pub keeping : Bool → Event → List Event → List Event
keeping b e es = if b then e ∷ es else es

-- the events that are kept
abbrev pub kept : (Event → Found) → Counts → List Event → List Event
kept find s [] = []
kept find s (e ∷ es) = keeping (step find s e).keeps e (kept find (step find s e) es)

-- what is found of events that are all kept, so far as they are counted
pub record IsFront (find : Event → Found) (old : List Event) (s : Counts) : Type 0 where
  pub found : s ≡ counts_of find no_counts (take s.events old)
  pub all : kept find no_counts (take s.events old) ≡ take s.events old
  pub keeps : s.keeps ≡ true
  pub end : s.end ≡ None
  pub items : s.items ≤ s.events
  pub ignored : s.ignored ≡ 0
