-- What stands beside the bytes of a part, in text and in JSON.
use Rattle.std.specs.Prelude.{ℕ, ◌%◌, ◌==◌, if◌then◌else◌, List, [], length, slice_index, codes, Bool, true, false, Option, Some, None}
use Rattle.std.specs.Fmt.{decimal, signed_decimal}
use Rattle.std.specs.Int.{w32, cast_signed}
use Rattle.json.specs.Json as json
use Rattle.nl_attr.specs.declared.order.Order.{Order}
use Rattle.nl_attr.specs.declared.tree.AttrFlags.{AttrFlags}
use Rattle.nl_attr.specs.Fixed.{NUMBERS}
use Rattle.nl_attr.specs.Numbers.{number_of}
use Rattle.nl_attr.specs.Walk.{flags_of}
use Rattle.rtnl.specs.declared.names.flags.Bits.{Bits}
use Rattle.rtnl.specs.declared.names.flags.Bits.TheVariants as bits
use Rattle.rtnl.specs.declared.bytes.notation.Notation.{Notation}
use Rattle.rtnl.specs.declared.bytes.notation.Notation.TheVariants.{Blank, Decimal, Signed, Digits, Flags, MessageType, AttrType, Payload, Meaning}
use Rattle.rtnl.specs.Json.{number, signed, string}
use Rattle.nl_values.specs.Known.{bits_of}
use Rattle.nl_values.specs.Meanings as sense
use Rattle.nl_values.specs.Meanings.{Sense}
use Rattle.nl_values.specs.declared.set.Set.{Set}
use Rattle.rtnl.specs.Data.{data_json, mac_text, sense_at}
use Rattle.rtnl.specs.Kernel.{any_message_name, set_name}
use Rattle.rtnl.specs.NamedBits.{BitName, flag_names, hop_flags, link_flags, neigh_flags, neigh_states}
use Rattle.rtnl.specs.Names.{names_text}
use Rattle.rtnl.specs.MessagesJson.{reading_json}
use Rattle.rtnl.specs.Text.{◌⨟◌, padded_hex}
use Rattle.rtnl.specs.Values.{Reading, u8, u16, u32, text, ipv4, ipv6, hex, reading_of, text_reading, value_text}

-- the number that one, two or four bytes are
abbrev pub number_in : Order → List ℕ → Option ℕ
number_in o bytes =
    if length bytes == 1 then Some (slice_index bytes 0)
    else if length bytes == 2 then Some (number_of o 2 bytes)
    else if length bytes == 4 then Some (number_of o 4 bytes)
    else None

-- ---- in text

-- a number in decimal
abbrev pub decimal_behind : Option ℕ → List ℕ
decimal_behind None = []
decimal_behind (Some n) = codes " " ⨟ decimal n

-- a number in so many hexadecimal digits
unfoldable pub digits_behind : ℕ → ℕ → List ℕ
digits_behind count n = codes " 0x" ⨟ padded_hex count n

-- the same in two digits for each byte
abbrev pub all_digits : Order → List ℕ → List ℕ
all_digits o bytes =
    if length bytes == 1 then digits_behind 2 (slice_index bytes 0)
    else if length bytes == 2 then digits_behind 4 (number_of o 2 bytes)
    else if length bytes == 4 then digits_behind 8 (number_of o 4 bytes)
    else []

-- flags in so many digits, and the names of those that are set
unfoldable pub flags_behind : ℕ → List BitName → ℕ → List ℕ
flags_behind count table n = codes " 0x" ⨟ padded_hex count n ⨟ codes " " ⨟ names_text table n

-- the same of flags with these names
abbrev pub all_flags : Order → Bits → List ℕ → List ℕ
all_flags o (bits.Message names) bytes = if length bytes == 2 then flags_behind 4 (flag_names names) (number_of o 2 bytes) else []
all_flags o bits.Link bytes = if length bytes == 4 then flags_behind 8 link_flags (number_of o 4 bytes) else []
all_flags o bits.NeighState bytes = if length bytes == 2 then flags_behind 4 neigh_states (number_of o 2 bytes) else []
all_flags o bits.NeighFlags bytes = if length bytes == 1 then flags_behind 2 neigh_flags (slice_index bytes 0) else []
all_flags o bits.NextHop bytes = if length bytes == 1 then flags_behind 2 hop_flags (slice_index bytes 0) else []

-- a name, where there is one
abbrev pub name_behind : Option (List ℕ) → List ℕ
name_behind None = []
name_behind (Some name) = codes " " ⨟ name

-- a message's type, and its name
unfoldable pub type_behind : ℕ → List ℕ
type_behind kind = codes " " ⨟ decimal kind ⨟ name_behind (any_message_name kind)

-- a word, where it holds
abbrev pub word_if : List ℕ → Bool → List ℕ
word_if word true = word
word_if word false = []

-- the flag bits of an attribute's type
unfoldable pub bits_behind : AttrFlags → List ℕ
bits_behind flags = word_if (codes " NESTED") flags.nested ⨟ word_if (codes " NET_BYTEORDER") flags.net

-- an attribute's type: its number, its name and its flag bits
unfoldable pub attr_behind : Option Set → ℕ → List ℕ
attr_behind set kind = codes " " ⨟ decimal (kind % NUMBERS) ⨟ name_behind (set_name set (kind % NUMBERS)) ⨟ bits_behind (flags_of kind)

-- what a payload is read as; nothing where that is its bytes, which stand there
unfoldable pub reading_behind : Reading → List ℕ
reading_behind (u8 n) = codes " " ⨟ value_text (u8 n)
reading_behind (u16 n) = codes " " ⨟ value_text (u16 n)
reading_behind (u32 n) = codes " " ⨟ value_text (u32 n)
reading_behind (text t) = codes " " ⨟ value_text (text t)
reading_behind (ipv4 bytes) = codes " " ⨟ value_text (ipv4 bytes)
reading_behind (ipv6 bytes) = codes " " ⨟ value_text (ipv6 bytes)
reading_behind (hex bytes) = []

-- what bytes mean that are one part; nothing where that isn't known, or is a text with other characters than those of printed text
unfoldable pub sense_behind : Sense → List ℕ
sense_behind sense.unknown = []
sense_behind sense.flag = []
sense_behind (sense.text t) = reading_behind (text_reading t)
sense_behind (sense.integer z) = codes " " ⨟ signed_decimal z
sense_behind (sense.value z name) = codes " " ⨟ signed_decimal z ⨟ name_behind name
sense_behind (sense.bits n names) = codes " " ⨟ decimal n ⨟ codes " " ⨟ names_text (bits_of names) n
sense_behind (sense.mac address) = codes " " ⨟ mac_text address
sense_behind (sense.ipv4 address) = codes " " ⨟ value_text (ipv4 address)
sense_behind (sense.ipv6 address) = codes " " ⨟ value_text (ipv6 address)
sense_behind (sense.series n) = []
sense_behind (sense.counters n names) = []
sense_behind (sense.fields of) = []
sense_behind (sense.array of size) = []
sense_behind (sense.headed of set from) = []
sense_behind (sense.list set) = []

-- what stands behind the name of a part with these bytes: a blank and their value, or nothing
unfoldable pub value_behind : Order → Notation → List ℕ → List ℕ
value_behind o Blank bytes = []
value_behind o Decimal bytes = decimal_behind (number_in o bytes)
value_behind o Signed bytes = if length bytes == 4 then codes " " ⨟ signed_decimal (cast_signed w32 (number_of o 4 bytes)) else []
value_behind o Digits bytes = all_digits o bytes
value_behind o (Flags b) bytes = all_flags o b bytes
value_behind o MessageType bytes = if length bytes == 2 then type_behind (number_of o 2 bytes) else []
value_behind o (AttrType set) bytes = if length bytes == 2 then attr_behind set (number_of o 2 bytes) else []
value_behind o (Payload style net) bytes = reading_behind (reading_of o style net bytes)
value_behind o (Meaning f) bytes = sense_behind (sense_at o 1 f [] bytes)

-- ---- in JSON

-- a number, and null where there is none
abbrev pub number_json : Option ℕ → json.Json
number_json None = json.null
number_json (Some n) = number n

-- a name, or the number that has none
abbrev pub name_or : ℕ → Option (List ℕ) → json.Json
name_or n None = number n
name_or n (Some name) = string name

-- what a payload is read as; null where that is its bytes
unfoldable pub payload_json : Reading → json.Json
payload_json (u8 n) = reading_json (u8 n)
payload_json (u16 n) = reading_json (u16 n)
payload_json (u32 n) = reading_json (u32 n)
payload_json (text t) = reading_json (text t)
payload_json (ipv4 bytes) = reading_json (ipv4 bytes)
payload_json (ipv6 bytes) = reading_json (ipv6 bytes)
payload_json (hex bytes) = json.null

-- what bytes mean; null where that isn't known
abbrev pub or_null : Option json.Json → json.Json
or_null None = json.null
or_null (Some value) = value

-- the value of the bytes of a part
unfoldable pub value_json : Order → Notation → List ℕ → json.Json
value_json o Blank bytes = json.null
value_json o Decimal bytes = number_json (number_in o bytes)
value_json o Signed bytes = if length bytes == 4 then signed (cast_signed w32 (number_of o 4 bytes)) else json.null
value_json o Digits bytes = number_json (number_in o bytes)
value_json o (Flags b) bytes = number_json (number_in o bytes)
value_json o MessageType bytes = if length bytes == 2 then name_or (number_of o 2 bytes) (any_message_name (number_of o 2 bytes)) else json.null
value_json o (AttrType set) bytes = if length bytes == 2 then name_or (number_of o 2 bytes % NUMBERS) (set_name set (number_of o 2 bytes % NUMBERS)) else json.null
value_json o (Payload style net) bytes = payload_json (reading_of o style net bytes)
value_json o (Meaning f) bytes = or_null (data_json o [] 1 f [] [] bytes)
