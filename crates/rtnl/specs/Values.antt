-- What a payload is read as, and how that is printed.
use Rattle.std.specs.Prelude.{ℕ, ⊤, ◌≤◌, ◌+◌, ◌*◌, ◌-◌, ◌==◌, ◌&&◌, not, nat_le, Bool, false, if◌then◌else◌, List, length, take, codes, slice_index}
use Rattle.std.specs.List.{list_all}
use Rattle.std.specs.Fmt.{decimal}
use Rattle.nl_attr.specs.declared.order.Order.{Order}
use Rattle.nl_attr.specs.declared.order.Order.TheVariants.{Big}
use Rattle.nl_attr.specs.Numbers.{number_of}
use Rattle.rtnl.specs.declared.names.attributes.Style.{Style}
use Rattle.rtnl.specs.declared.names.attributes.Style.TheVariants.{U8, U16, U32, NetworkU16, Text, Address, Hex}
use Rattle.rtnl.specs.declared.names.values.Reading.{Reading as HeldReading}
use Rattle.rtnl.specs.declared.names.values.Reading.TheVariants as held
use Rattle.rtnl.specs.Text.{◌⨟◌, hex_text, padded_hex}

-- a number of one, two or four bytes, a text, an address, or other bytes
pub data Reading : Type 0 where
  u8 : ℕ → Reading
  u16 : ℕ → Reading
  u32 : ℕ → Reading
  text : List ℕ → Reading
  ipv4 : List ℕ → Reading
  ipv6 : List ℕ → Reading
  hex : List ℕ → Reading

-- the reading that one of the program is
abbrev pub reading_view : HeldReading → Reading
reading_view (held.U8 n) = u8 n
reading_view (held.U16 n) = u16 n
reading_view (held.U32 n) = u32 n
reading_view (held.Text t) = text t.now
reading_view (held.Ipv4 address) = ipv4 address
reading_view (held.Ipv6 address) = ipv6 address
reading_view (held.Hex bytes) = hex bytes.now

-- a number of one byte, unless the network's order is said
abbrev pub u8_reading : Bool → List ℕ → Reading
u8_reading net bytes = if length bytes == 1 && not net then u8 (slice_index bytes 0) else hex bytes

-- a number of two bytes, unless the network's order is said
abbrev pub u16_reading : Order → Bool → List ℕ → Reading
u16_reading o net bytes = if length bytes == 2 && not net then u16 (number_of o 2 bytes) else hex bytes

-- a number of four bytes, unless the network's order is said
abbrev pub u32_reading : Order → Bool → List ℕ → Reading
u32_reading o net bytes = if length bytes == 4 && not net then u32 (number_of o 4 bytes) else hex bytes

-- the bytes without one zero byte at their end, if it is there
abbrev pub stem_of : List ℕ → List ℕ
stem_of bytes = if slice_index bytes (length bytes - 1) == 0 then take (length bytes - 1) bytes else bytes

-- a byte from the space to `~`
abbrev pub is_plain_byte : ℕ → Bool
is_plain_byte byte = nat_le 32 byte && nat_le byte 126

-- some bytes, and each of them plain
abbrev pub is_plain : List ℕ → Bool
is_plain bytes = not (length bytes == 0) && list_all is_plain_byte bytes

-- a text that may end in a zero byte
abbrev pub text_reading : List ℕ → Reading
text_reading bytes = if is_plain (stem_of bytes) then text (stem_of bytes) else hex bytes

-- an address, by its length
abbrev pub ip_reading : List ℕ → Reading
ip_reading bytes =
    if length bytes == 4 then ipv4 bytes
    else if length bytes == 16 then ipv6 bytes
    else hex bytes

-- a payload of a style, in the order of the datagram, where net says that the attribute has the flag of the network's order
unfoldable pub reading_of : Order → Style → Bool → List ℕ → Reading
reading_of o U8 net bytes = u8_reading net bytes
reading_of o U16 net bytes = u16_reading o net bytes
reading_of o U32 net bytes = u32_reading o net bytes
reading_of o NetworkU16 net bytes = u16_reading Big false bytes
reading_of o Text net bytes = text_reading bytes
reading_of o Address net bytes = ip_reading bytes
reading_of o Hex net bytes = hex bytes

-- four numbers
unfoldable pub ipv4_text : List ℕ → List ℕ
ipv4_text bytes =
    decimal (slice_index bytes 0) ⨟ codes "." ⨟ decimal (slice_index bytes 1)
    ⨟ codes "." ⨟ decimal (slice_index bytes 2) ⨟ codes "." ⨟ decimal (slice_index bytes 3)

-- the two bytes from place i on, the high one first
unfoldable pub group_at : ℕ → List ℕ → ℕ
group_at i bytes = 256 * slice_index bytes i + slice_index bytes (i + 1)

-- four groups of four digits, from place i on
unfoldable pub groups_text : ℕ → List ℕ → List ℕ
groups_text i bytes =
    padded_hex 4 (group_at i bytes) ⨟ codes ":" ⨟ padded_hex 4 (group_at (i + 2) bytes)
    ⨟ codes ":" ⨟ padded_hex 4 (group_at (i + 4) bytes) ⨟ codes ":" ⨟ padded_hex 4 (group_at (i + 6) bytes)

-- eight groups
unfoldable pub ipv6_text : List ℕ → List ℕ
ipv6_text bytes = groups_text 0 bytes ⨟ codes ":" ⨟ groups_text 8 bytes

-- the word for what is read
unfoldable pub reading_word : Reading → List ℕ
reading_word (u8 n) = codes "u8"
reading_word (u16 n) = codes "u16"
reading_word (u32 n) = codes "u32"
reading_word (text t) = codes "text"
reading_word (ipv4 bytes) = codes "ipv4"
reading_word (ipv6 bytes) = codes "ipv6"
reading_word (hex bytes) = codes "hex"

-- what is printed behind the word
unfoldable pub reading_text : Reading → List ℕ
reading_text (u8 n) = decimal n
reading_text (u16 n) = decimal n
reading_text (u32 n) = decimal n
reading_text (text t) = t
reading_text (ipv4 bytes) = ipv4_text bytes
reading_text (ipv6 bytes) = ipv6_text bytes
reading_text (hex bytes) = hex_text bytes

-- the word and what stands behind it
unfoldable pub value_text : Reading → List ℕ
value_text r = reading_word r ⨟ codes " " ⨟ reading_text r

-- for private clauses: a number, an address, a text of at most 128 bytes, or at most 64 bytes
abbrev pub IsShort : Reading → Type 0
IsShort (u8 n) = ⊤
IsShort (u16 n) = ⊤
IsShort (u32 n) = ⊤
IsShort (text t) = length t ≤ 128
IsShort (ipv4 address) = ⊤
IsShort (ipv6 address) = ⊤
IsShort (hex bytes) = length bytes ≤ 64
