-- The parts of a datagram: what its bytes are, by the events of its tape, and by the head at which it is refused.
use Rattle.std.specs.Prelude.{◌+◌, ◌-◌, ◌==◌, ◌||◌, nat_le, nat_lt, ℕ, min, if◌then◌else◌, List, [], ◌∷◌, ◌++◌, length, take, drop, codes, slice_get, Option, Some, None, unwrap_or, Bool, true}
use Rattle.nl_attr.specs.declared.broken.BrokenHead.{BrokenHead}
use Rattle.nl_attr.specs.declared.broken.HeadKind.{HeadKind}
use Rattle.nl_attr.specs.declared.broken.HeadKind.TheVariants as head
use Rattle.nl_attr.specs.declared.events.Event.{Event}
use Rattle.nl_attr.specs.declared.order.Order.{Order}
use Rattle.nl_attr.specs.declared.tree.Ctx.{Ctx}
use Rattle.nl_attr.specs.declared.tree.Ctx.TheVariants.{Plain}
use Rattle.nl_attr.specs.Fixed.{SORT_MESSAGE, SORT_BYTES, SORT_NEXT_HOP, STANDARD_LEVELS}
use Rattle.nl_attr.specs.Numbers.{aligned, number_of}
use Rattle.nl_frame.specs.declared.form.Form.{Form}
use Rattle.nl_frame.specs.declared.form.Form.TheVariants as form
use Rattle.nl_frame.specs.declared.scanning.ScanError.{ScanError}
use Rattle.nl_frame.specs.declared.scanning.ScanError.TheVariants.{TooLarge, Layout}
use Rattle.nl_frame.specs.Form.{form_of}
use Rattle.nl_values.specs.Known.{KnownAttribute, extack_set, message_set}
use Rattle.nl_values.specs.Meanings.{Sense, resolved_format}
use Rattle.nl_values.specs.declared.format.Format.TheVariants as format
use Rattle.nl_values.specs.declared.set.Set.{Set}
use Rattle.rtnl.specs.declared.bytes.notation.Notation.TheVariants.{Blank, Payload, Meaning}
use Rattle.rtnl.specs.declared.bytes.parts.Depth.{Depth}
use Rattle.rtnl.specs.declared.bytes.parts.Depth.TheVariants.{Header, Body, Level}
use Rattle.rtnl.specs.declared.bytes.parts.Extent.{Extent}
use Rattle.rtnl.specs.declared.bytes.parts.Extent.TheVariants.{Bytes, UpTo}
use Rattle.rtnl.specs.Attributes.{attribute_style}
use Rattle.rtnl.specs.Data.{MOST_CHOSEN, Part, kind_for, known, left_behind}
use Rattle.rtnl.specs.Inside.{inside_marks, payload_name, sense_marks, whole}
use Rattle.rtnl.specs.Marks.{Label, Mark, fields, gap, named, padding}
use Rattle.rtnl.specs.MessagesJson.{echo_of, has_attributes, sense_beside, set_inside, set_of}
use Rattle.rtnl.specs.Structs.{Field, head_of, nlmsgerr, nlmsghdr, rtattr, rtgenmsg, rtnexthop, status}
use Rattle.rtnl.specs.Tape.{context_in}
use Rattle.rtnl.specs.Types.{type_flags}
use Rattle.rtnl.specs.Values.{Reading, reading_of}

-- a part of a datagram: where its first byte stands, its bytes, what they are, and why the datagram is refused there
pub record BytePart : Type 0 where
  pub place : ℕ
  pub bytes : List ℕ
  pub label : Label
  pub refusal : Option ScanError

-- ---- bytes, by marks

-- how many bytes there are of these from a place on
abbrev pub size_from : ℕ → Extent → ℕ
size_from place (Bytes count) = count
size_from place (UpTo end) = end - place

-- bytes that were not read
abbrev pub unread : Label
unread = record { level = 0; indent = 0; name = codes "unread"; notation = Blank; is_aside = true }

-- how many of the bytes from a place on a mark has
abbrev pub size_in : ℕ → List ℕ → Mark → ℕ
size_in place d m = min (size_from place m.extent) (length d)

-- the parts of bytes that begin at a place: one for each mark that has some of them, then what is left, which was not read; a refusal stands at the first
abbrev pub parts_by : ℕ → List ℕ → Option ScanError → List Mark → List BytePart
parts_by place d refusal [] =
    if length d == 0 then []
    else record { place = place; bytes = d; label = unread; refusal = refusal } ∷ []
parts_by place d refusal (m ∷ marks) =
    if size_in place d m == 0 then parts_by place d refusal marks
    else
    record { place = place; bytes = take (size_in place d m) d; label = m.label; refusal = refusal }
    ∷ parts_by (place + size_in place d m) (drop (size_in place d m) d) None marks

-- ---- marks

-- the header of a message of this type
abbrev pub header : Depth → ℕ → List Mark
header depth kind = fields depth (nlmsghdr (type_flags kind))

-- ---- attribute lists

-- what is known of a list of attributes, that of a body, of an attribute or of a next hop: its context and its set; the events from its first attribute on; how many attributes may still be chosen by a kind; and the byte of the message's address family
pub record AttrList : Type 0 where
  pub context : Ctx
  pub set : Option Set
  pub events : List Event
  pub left : ℕ
  pub family : List ℕ

-- where no list is open
abbrev pub no_list : AttrList
no_list = record { context = Plain; set = None; events = []; left = 0; family = [] }

-- the list of a level, of those that are open
abbrev pub list_at : List AttrList → ℕ → AttrList
list_at lists level = unwrap_or (slice_get lists level) no_list

-- the bytes of an item behind its header
abbrev pub content_of : List ℕ → ℕ → Event → List ℕ
content_of d header e = take e.len (drop (e.place + header) d)

-- what an attribute holds: bytes; none of a list
abbrev pub held_of : List ℕ → Event → List ℕ
held_of d e = if e.sort == SORT_BYTES then content_of d 4 e else []

-- an event ends a list of this level
abbrev pub ends_list : ℕ → Event → Bool
ends_list level e = e.sort == SORT_MESSAGE || nat_lt e.level level

-- an event is of an attribute of this level
abbrev pub item_in : List ℕ → ℕ → Event → List Part
item_in d level e = if e.level == level then (e.number, held_of d e) ∷ [] else []

-- the attributes of a list of this level, by the events from the first of them on
abbrev pub attrs_in : List ℕ → ℕ → List Event → List Part
attrs_in d level [] = []
attrs_in d level (e ∷ es) = if ends_list level e then [] else item_in d level e ++ attrs_in d level es

-- what is known of an attribute in a list
abbrev pub known_here : AttrList → Event → KnownAttribute
known_here a e = known a.set e.number

-- the kind that chooses its format
abbrev pub kind_here : List ℕ → AttrList → Event → List ℕ
kind_here d a e = kind_for a.left a.family [] (attrs_in d e.level a.events) (known_here a e).format

module _ (o : Order) (d : List ℕ) (a : AttrList) (e : Event) where
  -- what its bytes are read as, and what they mean beside that
  abbrev pub reading_here : Reading
  reading_here = reading_of o (attribute_style a.context e.number) e.net (content_of d 4 e)

  abbrev pub sense_here : Sense
  sense_here = sense_beside o reading_here e.net (known_here a e).format (kind_here d a e) (content_of d 4 e)

  -- its payload, by what it means, or else in its style
  abbrev pub payload : List Mark
  payload =
      sense_marks o a.family (inside_marks o a.family (STANDARD_LEVELS - 1)) (Level e.level) (payload_name a.set e.number) [] (content_of d 4 e)
      (Payload (attribute_style a.context e.number) e.net) (Meaning (resolved_format o (kind_here d a e) (known_here a e).format)) sense_here

  -- an attribute, with its payload where it holds bytes
  abbrev pub attribute : List Mark
  attribute = fields (Level e.level) (rtattr a.set) ++ (if e.sort == SORT_BYTES then payload else [])

-- ---- the head that an event is of, with what stands in it but for further heads

-- where the body of a message begins, and where it ends
abbrev pub body_place : Event → ℕ
body_place e = e.place + 16

abbrev pub body_end : Event → ℕ
body_end e = body_place e + e.len

-- a number in front of these bytes; 0 where there are fewer than it has
abbrev pub number_at : Order → ℕ → List ℕ → ℕ
number_at o size bytes = if nat_le size (length bytes) then number_of o size bytes else 0

-- the flags in a message's header
abbrev pub flags_at : Order → List ℕ → Event → ℕ
flags_at o d e = number_at o 2 (drop (e.place + 6) d)

-- the rest of a body
abbrev pub rest_of : Event → List ℕ → List Mark
rest_of e name = named Body (UpTo (body_end e)) name Blank ∷ []

-- a payload of a type that isn't typed, by what messages of the type have
abbrev pub other_body : Order → ℕ → List ℕ → List Mark
other_body o kind content = inside_marks o (take 1 content) STANDARD_LEVELS Body (codes "payload") (known (Some message_set) kind).format [] [] content

-- what stands behind an answer with a code, or behind the end of a dump, of a message with these flags: attributes, NLMSGERR_ATTR_*, or bytes
abbrev pub tail_marks : Order → ℕ → List ℕ → List Mark
tail_marks o flags tail =
    if has_attributes flags then inside_marks o [] STANDARD_LEVELS Body (codes "tail") (format.List extack_set) [] [] tail
    else whole Body (codes "tail") Blank (length tail)

-- the request's payload, of which so many bytes come back, and what stands behind it
abbrev pub echo_marks : Order → ℕ → ℕ → ℕ → List ℕ → List Mark
echo_marks o flags kind size tail =
    other_body o kind (take size tail)
    ++ (gap Body (length (take (aligned size) tail) - length (take size tail)) ∷ tail_marks o flags (drop (aligned size) tail))

-- how many bytes of it come back, by the flags of the message and what stands in front of its body: the code, and the length in the header that it answers
abbrev pub echo_size : Order → ℕ → List ℕ → ℕ
echo_size o flags content = echo_of flags (number_at o 4 content == 0) (number_at o 4 (drop 4 content))

-- an answer with a code, of which this is the body
abbrev pub error_marks : Order → ℕ → List ℕ → List Mark
error_marks o flags content =
    fields Body nlmsgerr
    ++ (header Body (number_at o 2 (drop 8 content))
    ++ echo_marks o flags (number_at o 2 (drop 8 content)) (echo_size o flags content) (drop 20 content))

-- the end of a dump
abbrev pub done_marks : Order → ℕ → List ℕ → List Mark
done_marks o flags content =
    if nat_lt (length content) 4 then tail_marks o flags content
    else fields Body status ++ tail_marks o flags (drop 4 content)

-- the body of a message, by its form; of a family's its head
abbrev pub body : Order → List ℕ → Event → Form → List Mark
body o d e (form.Object g) = fields Body (head_of g)
body o d e form.Error = error_marks o (flags_at o d e) (content_of d 16 e)
body o d e form.Done = done_marks o (flags_at o d e) (content_of d 16 e)
body o d e form.Get = fields Body rtgenmsg ++ rest_of e (codes "tail")
body o d e form.Noop = rest_of e (codes "payload")
body o d e form.Overrun = rest_of e (codes "payload")
body o d e form.Other = other_body o e.number (content_of d 16 e)

-- a message
abbrev pub message : Order → List ℕ → Event → List Mark
message o d e = header Header e.number ++ body o d e (form_of e.number)

-- a head in a list
abbrev pub head_marks : Order → List ℕ → AttrList → Event → List Mark
head_marks o d a e =
    if e.sort == SORT_MESSAGE then message o d e else (
    if e.sort == SORT_NEXT_HOP then fields (Level e.level) rtnexthop
    else attribute o d a e)

-- ---- all heads

-- the set of the attributes in a body of this form
abbrev pub body_set : Form → Option Set
body_set (form.Object g) = Some (set_of g)
body_set form.Noop = None
body_set form.Error = None
body_set form.Done = None
body_set form.Overrun = None
body_set form.Get = None
body_set form.Other = None

-- the set of the attributes in a head: in a message those of its kind, in a next hop those of the list of next hops
abbrev pub set_in_head : Order → List ℕ → AttrList → Event → Option Set
set_in_head o d a e =
    if e.sort == SORT_MESSAGE then body_set (form_of e.number) else (
    if e.sort == SORT_NEXT_HOP then a.set else (
    if e.sort == SORT_BYTES then None
    else set_inside o (kind_here d a e) (known_here a e).format))

-- the byte of the address family there
abbrev pub family_in_head : List ℕ → AttrList → Event → List ℕ
family_in_head d a e = if e.sort == SORT_MESSAGE then take 1 (content_of d 16 e) else a.family

-- the list in a head, where these are the events behind it
abbrev pub list_inside : Order → List ℕ → AttrList → Event → List Event → AttrList
list_inside o d a e es =
    record {
      context = context_in e a.context;
      set = set_in_head o d a e;
      events = es;
      left = MOST_CHOSEN;
      family = family_in_head d a e;
    }

-- what is known of a list behind a head: one attribute less may be chosen, where this one was
abbrev pub list_behind : AttrList → Event → AttrList
list_behind a e =
    record {
      context = a.context;
      set = a.set;
      events = a.events;
      left = if e.sort == SORT_NEXT_HOP then a.left else left_behind a.left (known_here a e).format;
      family = a.family;
    }

-- how deep what stands in a head lies, and the padding behind it
abbrev pub depth_inside : Event → Depth
depth_inside e = if e.sort == SORT_MESSAGE then Body else Level e.level

-- the lists around a head in a list, the outermost first: those around the list, and what is known of it behind the head
abbrev pub lists_closed : List AttrList → AttrList → Event → List AttrList
lists_closed lists a e = if e.sort == SORT_MESSAGE then [] else take e.level lists ++ list_behind a e ∷ []

-- the lists that are open behind the head
abbrev pub lists_entered : Order → List ℕ → List AttrList → AttrList → Event → List Event → List AttrList
lists_entered o d lists a e es = lists_closed lists a e ++ list_inside o d a e es ∷ []

abbrev pub lists_behind : Order → List ℕ → List AttrList → Event → List Event → List AttrList
lists_behind o d lists e es = lists_entered o d lists (list_at lists e.level) e es

-- behind all events
abbrev pub lists_after : Order → List ℕ → List AttrList → List Event → List AttrList
lists_after o d lists [] = lists
lists_after o d lists (e ∷ es) = lists_after o d (lists_behind o d lists e es) es

-- what stands from the end of a head on, by the events behind it: padding up to each head, and the head; at the end of the datagram padding
abbrev pub marks_from : Order → List ℕ → List AttrList → Depth → List Event → List Mark
marks_from o d lists depth [] = padding depth (length d) ∷ []
marks_from o d lists depth (e ∷ es) =
    padding depth e.place ∷ (head_marks o d (list_at lists e.level) e ++ marks_from o d (lists_behind o d lists e es) (depth_inside e) es)

-- what stands in a datagram with these events
abbrev pub marks_of : Order → List ℕ → List Event → List Mark
marks_of o d es = marks_from o d [] Header es

-- ---- the head at which a datagram is refused

-- how deep it lies
abbrev pub broken_depth : HeadKind → ℕ → Depth
broken_depth head.Message level = Header
broken_depth head.Attribute level = Level level
broken_depth head.NextHop level = Level level

-- its fields, where these lists are open
abbrev pub broken_fields : List AttrList → BrokenHead → HeadKind → List Field
broken_fields lists h head.Message = nlmsghdr (type_flags (unwrap_or h.number 0))
broken_fields lists h head.Attribute = rtattr (list_at lists h.level).set
broken_fields lists h head.NextHop = rtnexthop

-- the name of one that is cut
abbrev pub cut_name : HeadKind → List ℕ
cut_name head.Message = codes "nlmsghdr"
cut_name head.Attribute = codes "rtattr"
cut_name head.NextHop = codes "rtnexthop"

-- what stands in one that says a length, and in one that has fewer bytes than it says it in
abbrev pub broken_by : List AttrList → BrokenHead → Option ℕ → List Mark
broken_by lists h (Some len) = fields (broken_depth h.kind h.level) (broken_fields lists h h.kind)
broken_by lists h None = named (broken_depth h.kind h.level) (Bytes h.left) (cut_name h.kind) Blank ∷ []

-- what stands from where a datagram is refused on
abbrev pub refused_marks : List AttrList → ScanError → List Mark
refused_marks lists TooLarge = []
refused_marks lists (Layout h) = broken_by lists h h.len
