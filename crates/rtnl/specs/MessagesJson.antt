-- Messages, their bodies and their attributes as values of JSON, with the words of the printed text.
use Rattle.std.specs.Prelude.{ℕ, ℤ, pos, ⊤, ◌≤◌, ◌-◌, ◌==◌, ◌||◌, not, if◌then◌else◌, length, take, drop, List, [], ◌∷◌, ◌++◌, map, codes, Bool, true, false, Option, Some, None}
use Rattle.json.specs.Json as json
use Rattle.json.specs.Token.{Token}
use Rattle.json.specs.Token as token
use Rattle.nl_attr.specs.declared.order.Order.{Order}
use Rattle.nl_attr.specs.declared.tree.AttrFlags.{AttrFlags}
use Rattle.nl_attr.specs.declared.tree.Ctx.{Ctx}
use Rattle.nl_attr.specs.declared.tree.Ctx.TheVariants.{Route}
use Rattle.nl_attr.specs.Tree.{Val, bytes, list, hops, Items, no_items, item, HopItems, no_hops, hop, holds_of}
use Rattle.nl_route.specs.declared.family.Family.{Family}
use Rattle.nl_route.specs.declared.family.Family.TheVariants as family
use Rattle.nl_route.specs.Families.{row, AnyHead, family_of, context_of, name_of}
use Rattle.nl_frame.specs.declared.header.Header.{Header}
use Rattle.nl_frame.specs.Message.{BodyVal, noop, error, done, overrun, object as family_object, get, other, MessageVal}
use Rattle.nl_dump.specs.Items.{Item}
use Rattle.std.specs.Int.RustNames.{bit_and}
use Rattle.std.specs.Ordering.{int_eq}
use Rattle.nl_attr.specs.Fixed.{STANDARD_LEVELS}
use Rattle.nl_attr.specs.Numbers.{aligned}
use Rattle.nl_values.specs.Known.{KnownAttribute, addr_set, extack_set, link_set, message_set, neigh_set, route_set, rule_set}
use Rattle.nl_values.specs.Meanings as sense
use Rattle.nl_values.specs.Meanings.{Sense, resolved_format}
use Rattle.nl_values.specs.declared.format.Format.{Format}
use Rattle.nl_values.specs.declared.format.Format.TheVariants as format
use Rattle.nl_values.specs.declared.set.Set.{Set}
use Rattle.rtnl.specs.Attributes.{attribute_style, inner_context}
use Rattle.rtnl.specs.Data.{MOST_CHOSEN, Part, data_fields, kind_for, known, left_behind, name_json, parts_in, sense_at, shown_sense}
use Rattle.rtnl.specs.declared.names.attributes.Style.{Style}
use Rattle.rtnl.specs.Json.{Field, IsUnescaped, object, array, number, signed, string, strings, digits}
use Rattle.rtnl.specs.Link.{link_head_fields}
use Rattle.rtnl.specs.Addr.{addr_head_fields}
use Rattle.rtnl.specs.Route.{route_head_fields}
use Rattle.rtnl.specs.Neigh.{neigh_head_fields}
use Rattle.rtnl.specs.Rule.{rule_head_fields}
use Rattle.rtnl.specs.Messages.{status_of}
use Rattle.rtnl.specs.NamedBits.{flag_names, hop_flags}
use Rattle.rtnl.specs.Names.{names_json}
use Rattle.rtnl.specs.Types.{type_flags, type_name}
use Rattle.rtnl.specs.Values.{Reading, u8, u16, u32, text, ipv4, ipv6, hex, ipv4_text, ipv6_text, reading_of, reading_word}

-- what a payload is read as
unfoldable pub reading_json : Reading → json.Json
reading_json (u8 n) = number n
reading_json (u16 n) = number n
reading_json (u32 n) = number n
reading_json (text t) = string t
reading_json (ipv4 payload) = string (ipv4_text payload)
reading_json (ipv6 payload) = string (ipv6_text payload)
reading_json (hex payload) = digits payload

-- the words of an attribute's flags
abbrev pub flag_list : Bool → Bool → List (List ℕ)
flag_list false false = []
flag_list false true = codes "net" ∷ []
flag_list true false = codes "nested" ∷ []
flag_list true true = codes "nested" ∷ codes "net" ∷ []

-- the flags of an attribute
unfoldable pub flags_json : AttrFlags → json.Json
flags_json flags = strings (flag_list flags.nested flags.net)

-- what every attribute has
unfoldable pub attr_front : List ℕ → ℕ → AttrFlags → List Field
attr_front name n flags =
    (codes "number", number n)
    ∷ (codes "name", name_json name)
    ∷ (codes "flags", flags_json flags) ∷ []

-- the form and the value of a payload
unfoldable pub reading_fields : Reading → List Field
reading_fields r = (codes "form", string (reading_word r)) ∷ (codes "value", reading_json r) ∷ []

-- for private clauses: the form, and the name of the field of the value
abbrev pub form_tokens : Reading → List Token
form_tokens r = token.key (codes "form") ∷ token.string (reading_word r) ∷ token.key (codes "value") ∷ []

-- for private clauses: a number, an address, a text of at most 128 bytes that stands for itself, or at most 64 bytes
abbrev pub IsReady : Reading → Type 0
IsReady (u8 n) = ⊤
IsReady (u16 n) = ⊤
IsReady (u32 n) = ⊤
IsReady (text t) = (length t ≤ 128) × IsUnescaped t
IsReady (ipv4 address) = ⊤
IsReady (ipv6 address) = ⊤
IsReady (hex payload) = length payload ≤ 64

-- the form of a container, and what it holds
unfoldable pub items_fields : List ℕ → List json.Json → List Field
items_fields form values = (codes "form", string form) ∷ (codes "items", array values) ∷ []

-- what a next hop says of itself
unfoldable pub hop_front : ℕ → ℕ → ℤ → List Field
hop_front flags count index =
    (codes "flags", number flags)
    ∷ (codes "flag_names", names_json hop_flags flags)
    ∷ (codes "hops", number count)
    ∷ (codes "index", signed index) ∷ []

-- whether what is read says already what the bytes mean: a number, a text or an address
abbrev pub is_said : Reading → Sense → Bool
is_said (hex payload) s = false
is_said r (sense.integer z) = true
is_said r (sense.text t) = true
is_said r (sense.ipv4 address) = true
is_said r (sense.ipv6 address) = true
is_said r s = false

abbrev pub unless_said : Reading → Sense → Sense
unless_said r s = if is_said r s then sense.unknown else s

-- what a payload means beside what is read of it; nothing where the flag of the network's order stands
abbrev pub sense_beside : Order → Reading → Bool → Format → List ℕ → List ℕ → Sense
sense_beside o r net f kind payload = if net then sense.unknown else unless_said r (sense_at o STANDARD_LEVELS f kind payload)

-- for private clauses: more is read of a payload than its bytes
abbrev pub is_read : Reading → Bool
is_read (hex payload) = false
is_read r = true

-- for private clauses: whether what is read says all that bytes of a format can mean
abbrev pub says_all : Reading → Format → Bool
says_all r format.Bytes = true
says_all r (format.Hops set) = true
says_all r (format.Integer n) = is_read r
says_all r format.Unsigned = is_read r
says_all r format.Text = is_read r
says_all r format.Ipv4 = is_read r
says_all r format.Ipv6 = is_read r
says_all r format.Ip = is_read r
says_all r f = false

-- the form and the value of a payload of which this is read, and what it means beside that
abbrev pub read_fields : Order → List ℕ → Reading → Bool → Format → List ℕ → List ℕ → List Field
read_fields o family r net f kind payload =
    reading_fields r ++ data_fields (shown_sense o family (sense_beside o r net f kind payload) payload)

-- the form and the value of a payload, and what it means
abbrev pub bytes_fields : Order → List ℕ → Style → Bool → Format → List ℕ → List ℕ → List Field
bytes_fields o family style net f kind payload = read_fields o family (reading_of o style net payload) net f kind payload

-- the set of the attributes that a payload of a format holds
abbrev pub set_of_format : Format → Option Set
set_of_format (format.List set) = Some set
set_of_format (format.Hops set) = Some set
set_of_format f = None

-- the same where a kind chooses the format
abbrev pub set_inside : Order → List ℕ → Format → Option Set
set_inside o kind f = set_of_format (resolved_format o kind f)

module _ (o : Order) (family : List ℕ) where
  abbrev mutual
    -- the form of an attribute, and what it holds: a payload of a style and a format, or items of
    -- the context inside
    pub value_fields : Style → Bool → Ctx → Format → List ℕ → Val → List Field
    value_fields style net ctx f kind (bytes payload) = bytes_fields o family style net f kind payload
    value_fields style net ctx f kind (list items) =
        items_fields (codes "list") (attrs_json (set_inside o kind f) MOST_CHOSEN (parts_in items) ctx items)
    value_fields style net ctx f kind (hops items) = items_fields (codes "hops") (hops_json (set_inside o kind f) items)

    -- attributes of a set in a context, among all of their list, of which so many may be chosen by a kind
    pub attrs_json : Option Set → ℕ → List Part → Ctx → Items → List json.Json
    attrs_json set left all ctx no_items = []
    attrs_json set left all ctx (item n flags v more) =
        object (attr_front (known set n).name n flags
        ++ value_fields (attribute_style ctx n) flags.net (inner_context (holds_of ctx n flags)) (known set n).format
        (kind_for left family [] all (known set n).format) v)
        ∷ attrs_json set (left_behind left (known set n).format) all ctx more

    -- next hops, whose attributes are of a set
    pub hops_json : Option Set → HopItems → List json.Json
    hops_json set no_hops = []
    hops_json set (hop flags count index attrs more) =
        object (hop_front flags count index ++ (codes "attrs", array (attrs_json set MOST_CHOSEN (parts_in attrs) Route attrs)) ∷ [])
        ∷ hops_json set more

  -- the attributes of a list, which are of a set, in a context
  abbrev pub list_json : Option Set → Ctx → Items → List json.Json
  list_json set ctx items = attrs_json set MOST_CHOSEN (parts_in items) ctx items

-- the fields of a family's head
abbrev pub fields_of : (g : Family) → (row g).Head → List Field
fields_of family.Link = link_head_fields
fields_of family.Addr = addr_head_fields
fields_of family.Route = route_head_fields
fields_of family.Neigh = neigh_head_fields
fields_of family.Rule = rule_head_fields

-- the fields of the head of any family
abbrev pub head_fields : AnyHead → List Field
head_fields h = fields_of h.family h.head

-- the address family that a head says
abbrev pub address_family_of : (g : Family) → (row g).Head → ℕ
address_family_of family.Link h = h.family
address_family_of family.Addr h = h.family
address_family_of family.Route h = h.family
address_family_of family.Neigh h = h.family
address_family_of family.Rule h = h.family

abbrev pub address_family : AnyHead → ℕ
address_family h = address_family_of h.family h.head

-- the attributes of a family
abbrev pub set_of : Family → Set
set_of family.Link = link_set
set_of family.Addr = addr_set
set_of family.Route = route_set
set_of family.Neigh = neigh_set
set_of family.Rule = rule_set

-- a family's head and its attributes, under the name of the family
unfoldable pub family_field : Order → AnyHead → Items → Field
family_field o h items = (
  name_of (family_of h),
  object (head_fields h
      ++ (codes "attrs", array (list_json o (address_family h ∷ []) (Some (set_of (family_of h))) (context_of (family_of h)) items)) ∷ []),
)

-- an item of a table
abbrev pub item_field : Order → Item → Field
item_field o entry = family_field o entry.0 entry.1

-- the name of a message type, where it is known
abbrev pub kind_fields : List ℕ → List Field
kind_fields [] = []
kind_fields (c ∷ cs) = (codes "kind", string (c ∷ cs)) ∷ []

-- what is known of the messages of a type
abbrev pub known_type : ℕ → KnownAttribute
known_type kind = known (Some message_set) kind

-- what a message's payload means by its type; its first byte is the address family
abbrev pub payload_fields : Order → ℕ → List ℕ → List Field
payload_fields o kind payload =
    data_fields (shown_sense o (take 1 payload) (sense_at o STANDARD_LEVELS (known_type kind).format [] payload) payload)

-- what a type is called, and what the payload means
abbrev pub meant_fields : Order → ℕ → List ℕ → List Field
meant_fields o kind payload = kind_fields (known_type kind).name ++ payload_fields o kind payload

-- the bit of a flag is set (netlink(7), "nlmsg_flags" of NLMSG_ERROR)
abbrev pub has_flag : ℕ → ℕ → Bool
has_flag flag flags = not (bit_and flags flag == 0)

-- NLM_F_CAPPED: the payload of the request doesn't come back with the error
abbrev pub is_capped : ℕ → Bool
is_capped flags = has_flag 0x100 flags

-- NLM_F_ACK_TLVS: attributes stand behind it
abbrev pub has_attributes : ℕ → Bool
has_attributes flags = has_flag 0x200 flags

-- how many bytes of the request's payload come back, of a request of this length: none with an acknowledgement
abbrev pub echo_of : ℕ → Bool → ℕ → ℕ
echo_of flags is_ack len = if is_ack || is_capped flags then 0 else len - 16

abbrev pub echoed : ℕ → ℤ → Header → ℕ
echoed flags code h = echo_of flags (int_eq code (pos 0)) h.len

-- the attributes behind so many bytes, NLMSGERR_ATTR_*
abbrev pub extack_fields : Order → ℕ → List ℕ → List Field
extack_fields o flags attrs =
    if has_attributes flags then data_fields (shown_sense o [] (sense_at o STANDARD_LEVELS (format.List extack_set) [] attrs) attrs) else []

-- the header that an answer with a code is about, and the payload that comes back
abbrev pub answered_json : Order → Header → List ℕ → json.Json
answered_json o h payload =
    object ((codes "len", number h.len)
    ∷ (codes "type", number h.kind)
    ∷ (codes "flags", number h.flags)
    ∷ (codes "seq", number h.seq)
    ∷ (codes "port", number h.port) ∷ meant_fields o h.kind payload)

-- an answer with a code
unfoldable pub error_field : Order → ℕ → ℤ → Header → List ℕ → Field
error_field o flags code h tail = (
  codes "error",
  object ((codes "code", signed code)
      ∷ (codes "answers", answered_json o h (take (echoed flags code h) tail))
      ∷ (codes "tail", digits tail) ∷ extack_fields o flags (drop (aligned (echoed flags code h)) tail)),
)

-- a dump's end
unfoldable pub done_field : Order → ℕ → ℤ → List ℕ → Field
done_field o flags status tail =
    (codes "done", object ((codes "status", signed status) ∷ (codes "tail", digits tail) ∷ extack_fields o flags tail))

-- a request
unfoldable pub get_field : ℕ → List ℕ → Field
get_field n tail = (codes "get", object ((codes "family", number n) ∷ (codes "tail", digits tail) ∷ []))

-- a payload that is kept as it stands
unfoldable pub bytes_field : List ℕ → Field
bytes_field payload = (codes "bytes", digits payload)

-- the body of a message of this type and with these flags, under its word; 0 for both says nothing of it
unfoldable pub body_fields : Order → ℕ → ℕ → BodyVal → List Field
body_fields o kind flags (noop payload) = bytes_field payload ∷ []
body_fields o kind flags (error code h tail) = error_field o flags code h tail ∷ []
body_fields o kind flags (done status tail) = done_field o flags (status_of status) tail ∷ []
body_fields o kind flags (overrun payload) = bytes_field payload ∷ []
body_fields o kind flags (family_object h items) = family_field o h items ∷ []
body_fields o kind flags (get n tail) = get_field n tail ∷ []
body_fields o kind flags (other payload) = bytes_field payload ∷ meant_fields o kind payload

-- what a message's header says
unfoldable pub header_fields : ℕ → ℕ → ℕ → ℕ → List Field
header_fields kind flags seq port =
    (codes "message", number kind)
    ∷ (codes "type", string (type_name kind))
    ∷ (codes "flags", number flags)
    ∷ (codes "flag_names", names_json (flag_names (type_flags kind)) flags)
    ∷ (codes "seq", number seq)
    ∷ (codes "port", number port) ∷ []

-- a message
unfoldable pub message_json : Order → MessageVal → json.Json
message_json o m = object (header_fields m.kind m.flags m.seq m.port ++ body_fields o m.kind m.flags m.body)

-- messages, one after another
abbrev pub messages_json : Order → List MessageVal → List json.Json
messages_json o messages = map (message_json o) messages
