-- The printed text of messages and their bodies.
use Rattle.std.specs.Prelude.{ℕ, ℤ, pos, List, [], Option, Some, None, codes}
use Rattle.std.specs.Fmt.{decimal, signed_decimal}
use Rattle.std.specs.List.{flat_map}
use Rattle.nl_attr.specs.declared.order.Order.{Order}
use Rattle.nl_route.specs.declared.family.Family.{Family}
use Rattle.nl_route.specs.declared.family.Family.TheVariants as family
use Rattle.nl_route.specs.Families.{row, AnyHead, family_of, context_of}
use Rattle.nl_frame.specs.declared.header.Header.{Header}
use Rattle.nl_frame.specs.Message.{BodyVal, noop, error, done, overrun, object, get, other, MessageVal}
use Rattle.rtnl.specs.Link.{link_line}
use Rattle.rtnl.specs.Addr.{addr_line}
use Rattle.rtnl.specs.Route.{route_line}
use Rattle.rtnl.specs.Neigh.{neigh_line}
use Rattle.rtnl.specs.Rule.{rule_line}
use Rattle.rtnl.specs.NamedBits.{flag_names}
use Rattle.rtnl.specs.Names.{names_text}
use Rattle.rtnl.specs.Text.{◌⨟◌, hex_text, padded_hex}
use Rattle.rtnl.specs.Trees.{indented, items_text}
use Rattle.rtnl.specs.Types.{type_flags, type_name}

-- the line of a family's head
abbrev pub line_of : (g : Family) → (row g).Head → List ℕ
line_of family.Link = link_line
line_of family.Addr = addr_line
line_of family.Route = route_line
line_of family.Neigh = neigh_line
line_of family.Rule = rule_line

-- the line of a head
abbrev pub head_line : AnyHead → List ℕ
head_line h = line_of h.family h.head

-- the bytes behind a fixed part, which end the line
abbrev pub tail_end : List ℕ → List ℕ
tail_end tail = codes " tail " ⨟ hex_text tail ⨟ codes "\n"

-- the line of an answer with a code
unfoldable pub error_line : ℤ → Header → List ℕ → List ℕ
error_line code h tail =
    codes "  error code " ⨟ signed_decimal code ⨟ codes " answers len " ⨟ decimal h.len ⨟ codes " type " ⨟ decimal h.kind
    ⨟ codes " flags 0x" ⨟ padded_hex 4 h.flags ⨟ codes " seq " ⨟ decimal h.seq ⨟ codes " port " ⨟ decimal h.port
    ⨟ tail_end tail

-- a status, 0 where there is none
abbrev pub status_of : Option ℤ → ℤ
status_of None = pos 0
status_of (Some status) = status

-- the line of a dump's end
unfoldable pub done_line : ℤ → List ℕ → List ℕ
done_line status tail = codes "  done status " ⨟ signed_decimal status ⨟ tail_end tail

-- the line of a request
unfoldable pub get_line : ℕ → List ℕ → List ℕ
get_line n tail = codes "  get family " ⨟ decimal n ⨟ tail_end tail

-- the line of a payload that is kept as it stands
unfoldable pub bytes_line : List ℕ → List ℕ
bytes_line payload = codes "  bytes " ⨟ hex_text payload ⨟ codes "\n"

-- a body: its line, and its attributes' lines
unfoldable pub body_text : Order → BodyVal → List ℕ
body_text o (noop payload) = bytes_line payload
body_text o (error code h tail) = error_line code h tail
body_text o (done status tail) = done_line (status_of status) tail
body_text o (overrun payload) = bytes_line payload
body_text o (object h items) = head_line h ⨟ items_text o (indented []) (context_of (family_of h)) items
body_text o (get n tail) = get_line n tail
body_text o (other payload) = bytes_line payload

-- the line of a message's header
unfoldable pub message_line : ℕ → ℕ → ℕ → ℕ → List ℕ
message_line kind flags seq port =
    codes "message " ⨟ decimal kind ⨟ codes " " ⨟ type_name kind ⨟ codes " flags 0x" ⨟ padded_hex 4 flags
    ⨟ codes " " ⨟ names_text (flag_names (type_flags kind)) flags
    ⨟ codes " seq " ⨟ decimal seq ⨟ codes " port " ⨟ decimal port ⨟ codes "\n"

-- a message
unfoldable pub message_text : Order → MessageVal → List ℕ
message_text o m = message_line m.kind m.flags m.seq m.port ⨟ body_text o m.body

-- messages, one after another
abbrev pub messages_text : Order → List MessageVal → List ℕ
messages_text o messages = flat_map (message_text o) messages
