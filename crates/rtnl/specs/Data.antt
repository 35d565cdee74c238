-- What a payload means, as a value of JSON.
use Rattle.std.specs.Prelude.{ℕ, zero, suc, ℤ, ◌+◌, ◌-◌, ◌/◌, ◌%◌, ◌==◌, nat_lt, if◌then◌else◌, Bool, true, false, List, [], ◌∷◌, ◌++◌, map, length, take, drop, slice_index, codes, Option, Some, None}
use Rattle.std.specs.Fmt.{decimal}
use Rattle.json.specs.Json as json
use Rattle.nl_attr.specs.Fixed.{LONGEST_REGION, NUMBERS, STANDARD_LEVELS}
use Rattle.nl_attr.specs.Numbers.{kind_of, span_of}
use Rattle.nl_attr.specs.Tree.{Val, bytes, list, hops, Items, no_items, item}
use Rattle.nl_attr.specs.Walk.{broken_length, payload_of}
use Rattle.nl_attr.specs.declared.fault.Reason.{Reason}
use Rattle.nl_attr.specs.declared.order.Order.{Order}
use Rattle.nl_values.specs.Fields.{part_in}
use Rattle.nl_values.specs.Known.{KnownAttribute, KnownField, attribute_of, bits_of, fields_of, name_of}
use Rattle.nl_values.specs.Meanings as sense
use Rattle.nl_values.specs.Meanings.{Sense, sense_in}
use Rattle.nl_values.specs.Numbers.{integer_of, size_of}
use Rattle.nl_values.specs.declared.format.Format.{Format}
use Rattle.nl_values.specs.declared.format.Format.TheVariants.{Bytes, Chosen}
use Rattle.nl_values.specs.declared.format.Number.{Number}
use Rattle.nl_values.specs.declared.format.Selector.{Selector}
use Rattle.nl_values.specs.declared.format.Selector.TheVariants.{Family, Beside, Above}
use Rattle.nl_values.specs.declared.names.Names.{Names}
use Rattle.nl_values.specs.declared.set.Set.{Set}
use Rattle.rtnl.specs.Json.{Field, object, array, number, signed, string, strings, digits, boolean}
use Rattle.rtnl.specs.Names.{names_set}
use Rattle.rtnl.specs.Text.{◌⨟◌, padded_hex}
use Rattle.rtnl.specs.Values.{ipv4_text, ipv6_text}

-- an attribute: its number and its payload
abbrev pub Part : Type 0
Part = ℕ × List ℕ

-- the attributes, where the header in front of the first breaks no rule of lengths
abbrev pub unless_broken : Option Reason → List Part → List Part
unless_broken None parts = parts
unless_broken (Some r) parts = []

module _ (o : Order) where
  -- the attributes of a region up to a header that breaks a rule of lengths; the first argument
  -- bounds the recursion
  unfoldable pub parts_at : ℕ → List ℕ → List Part
  parts_at zero left = []
  parts_at (suc n) left =
      unless_broken (broken_length o 4 2 left)
      ((kind_of o left % NUMBERS, payload_of o 4 2 left) ∷ parts_at n (drop (span_of o 2 left) left))

  -- the attributes of a region, which has bytes enough for them
  abbrev pub parts_of : List ℕ → List Part
  parts_of region = parts_at (length region) region

-- the bytes that a value is; none of a list
abbrev pub held : Val → List ℕ
held (bytes payload) = payload
held (list items) = []
held (hops items) = []

-- the attributes of a list that was read
abbrev pub parts_in : Items → List Part
parts_in no_items = []
parts_in (item n flags v more) = (n, held v) ∷ parts_in more

-- ---- what a kind chooses

-- the payloads of the attributes of this number
abbrev pub payloads : ℕ → List Part → List (List ℕ)
payloads n [] = []
payloads n (part ∷ parts) = if part.0 == n then part.1 ∷ payloads n parts else payloads n parts

-- the only one of these; nothing where there is none, or more than one
abbrev pub only : List (List ℕ) → List ℕ
only [] = []
only (payload ∷ []) = payload
only (payload ∷ another ∷ payloads) = []

-- the payload of the only attribute of this number
abbrev pub only_in : ℕ → List Part → List ℕ
only_in n parts = only (payloads n parts)

-- how many attributes of a list may be chosen by a kind, so that a list is searched so often at most
abbrev pub MOST_CHOSEN : ℕ
MOST_CHOSEN = 4

-- the kind that a selector names, for an attribute among these: the byte of the message's family,
-- or a payload beside it; outer are the attributes of the list outside
abbrev pub selected : List ℕ → List Part → List Part → Selector → List ℕ
selected family outer parts Family = family
selected family outer parts (Beside n) = only_in n parts
selected family outer parts (Above n) = only_in n outer

-- the kind for a format, where so many attributes may still be chosen
abbrev pub kind_for : ℕ → List ℕ → List Part → List Part → Format → List ℕ
kind_for zero family outer parts f = []
kind_for (suc n) family outer parts (Chosen choice selector) = selected family outer parts selector
kind_for (suc n) family outer parts f = []

-- how many may be behind an attribute of this format
abbrev pub left_behind : ℕ → Format → ℕ
left_behind n (Chosen choice selector) = n - 1
left_behind n f = n

-- ---- names and formats

-- what is said of the attributes of no set
abbrev pub unknown_attribute : KnownAttribute
unknown_attribute = record { name = []; format = Bytes }

abbrev pub or_unknown : Option KnownAttribute → KnownAttribute
or_unknown None = unknown_attribute
or_unknown (Some it) = it

-- what is said of an attribute
abbrev pub known : Option Set → ℕ → KnownAttribute
known None n = unknown_attribute
known (Some set) n = or_unknown (attribute_of set n)

-- the longest name of an attribute has at most so many bytes
abbrev pub longest_name : ℕ
longest_name = 40

-- a name, and null where there is none
abbrev pub name_json : List ℕ → json.Json
name_json [] = json.null
name_json (c ∷ cs) = string (c ∷ cs)

abbrev pub option_json : Option (List ℕ) → json.Json
option_json None = json.null
option_json (Some name) = string name

-- ---- values

-- the byte at a place, and a colon in front of it
unfoldable pub byte_behind : ℕ → List ℕ → List ℕ
byte_behind i address = codes ":" ⨟ padded_hex 2 (slice_index address i)

-- six bytes, with colons between
unfoldable pub mac_text : List ℕ → List ℕ
mac_text address =
    padded_hex 2 (slice_index address 0) ⨟ byte_behind 1 address ⨟ byte_behind 2 address
    ⨟ byte_behind 3 address ⨟ byte_behind 4 address ⨟ byte_behind 5 address

-- the first so many pieces of this size
abbrev pub pieces : ℕ → ℕ → List ℕ → List (List ℕ)
pieces size zero bs = []
pieces size (suc n) bs = take size bs ∷ pieces size n (drop size bs)

-- how many pieces of this size so many bytes have
abbrev pub count_in : ℕ → ℕ → ℕ
count_in size len = if size == 0 then 0 else len / size

-- numbers, one behind the other
abbrev pub numbers_json : Order → Number → List ℕ → List json.Json
numbers_json o n bs = map (λ piece. signed (integer_of n o piece)) (pieces (size_of n) (count_in (size_of n) (length bs)) bs)

-- the name of a place, or its number
abbrev pub place_name : ℕ → Option (List ℕ) → List ℕ
place_name place None = decimal place
place_name place (Some name) = name

-- numbers by the names of their places, from this place on
abbrev pub counters : Names → ℕ → List json.Json → List Field
counters names place [] = []
counters names place (value ∷ values) = (place_name place (name_of names place), value) ∷ counters names (place + 1) values

-- a value of an enumeration and its name
unfoldable pub value_json : ℤ → Option (List ℕ) → json.Json
value_json z name = object ((codes "number", signed z) ∷ (codes "name", option_json name) ∷ [])

-- a number and the names of its bits
unfoldable pub bits_json : ℕ → Names → json.Json
bits_json n names = object ((codes "number", number n) ∷ (codes "names", strings (names_set (bits_of names) n)) ∷ [])

-- the bytes in digits, where no meaning is known
abbrev pub or_digits : List ℕ → Option json.Json → json.Json
or_digits bs None = digits bs
or_digits bs (Some value) = value

-- bytes of this meaning are shown otherwise than in digits
abbrev pub is_known : Sense → Bool
is_known sense.unknown = false
is_known s = true

-- what an attribute holds: bytes, or what they mean
abbrev pub held_json : List ℕ → Option json.Json → Field
held_json payload None = (codes "value", digits payload)
held_json payload (Some value) = (codes "data", value)

-- an attribute in a payload
abbrev pub attr_json : ℕ → List ℕ → List ℕ → Option json.Json → json.Json
attr_json n name payload value = object ((codes "number", number n) ∷ (codes "name", name_json name) ∷ held_json payload value ∷ [])

-- what a payload is shown as by its format, its kind and the attributes beside it
abbrev pub Shows : Type 0
Shows = Format → List ℕ → List Part → List ℕ → Option json.Json

module _ (shows : Shows) where
  -- a field of a struct, where its bytes are there
  abbrev pub part_json : List ℕ → Format → Option (List ℕ) → List Field
  part_json name f None = []
  part_json name f (Some part) = (name, or_digits part (shows f [] [] part)) ∷ []

  -- a field of the struct that these bytes are
  abbrev pub field_json : KnownField → List ℕ → List Field
  field_json field bs = part_json field.name field.format (part_in field.place field.size bs)

  -- its fields
  abbrev pub struct_json : List KnownField → List ℕ → List Field
  struct_json [] bs = []
  struct_json (field ∷ fields) bs = field_json field bs ++ struct_json fields bs

  -- structs of this size, one behind the other
  abbrev pub structs_json : List KnownField → ℕ → List ℕ → List json.Json
  structs_json fields size bs = map (λ piece. object (struct_json fields piece)) (pieces size (count_in size (length bs)) bs)

  module _ (family : List ℕ) (outer all : List Part) (set : Set) where
    -- attributes of a set among all of a list, of which so many may be chosen
    abbrev pub parts_json : ℕ → List Part → List json.Json
    parts_json n [] = []
    parts_json n (part ∷ parts) =
        attr_json part.0 (known (Some set) part.0).name part.1
        (shows (known (Some set) part.0).format (kind_for n family outer all (known (Some set) part.0).format) all part.1)
        ∷ parts_json (left_behind n (known (Some set) part.0).format) parts

-- what a payload means, where so many levels may be shown: nothing is said of one that is longer than any message
abbrev pub sense_at : Order → ℕ → Format → List ℕ → List ℕ → Sense
sense_at o levels f kind bs =
    if nat_lt LONGEST_REGION (length bs) then sense.unknown else sense_in o STANDARD_LEVELS (STANDARD_LEVELS - levels) f kind bs

module _ (o : Order) (family : List ℕ) where
  module _ (shows : Shows) where
    -- the attributes of a region
    abbrev pub region_json : List Part → Set → List ℕ → List json.Json
    region_json outer set region = parts_json shows family outer (parts_of o region) set MOST_CHOSEN (parts_of o region)

    -- a struct, and the attributes of the region behind it
    abbrev pub headed_json : List Part → List KnownField → Set → ℕ → List ℕ → List Field
    headed_json outer fields set from bs = struct_json shows fields bs ++ (codes "attrs", array (region_json outer set (drop from bs))) ∷ []

    -- what bytes of this meaning are shown as, among the attributes of a list
    abbrev pub sense_json : List Part → List ℕ → Sense → Option json.Json
    sense_json parts bs sense.unknown = None
    sense_json parts bs sense.flag = Some (boolean true)
    sense_json parts bs (sense.text t) = Some (string t)
    sense_json parts bs (sense.integer z) = Some (signed z)
    sense_json parts bs (sense.value z name) = Some (value_json z name)
    sense_json parts bs (sense.bits n names) = Some (bits_json n names)
    sense_json parts bs (sense.mac address) = Some (string (mac_text address))
    sense_json parts bs (sense.ipv4 address) = Some (string (ipv4_text address))
    sense_json parts bs (sense.ipv6 address) = Some (string (ipv6_text address))
    sense_json parts bs (sense.series n) = Some (array (numbers_json o n bs))
    sense_json parts bs (sense.counters n names) = Some (object (counters names 0 (numbers_json o n bs)))
    sense_json parts bs (sense.fields of) = Some (object (struct_json shows (fields_of of) bs))
    sense_json parts bs (sense.array of size) = Some (array (structs_json shows (fields_of of) size bs))
    sense_json parts bs (sense.headed of set from) = Some (object (headed_json parts (fields_of of) set from bs))
    sense_json parts bs (sense.list set) = Some (array (region_json parts set bs))

  -- what it is shown as
  unfoldable pub data_json : ℕ → Shows
  data_json zero f kind parts bs = None
  data_json (suc n) f kind parts bs = sense_json (data_json n) parts bs (sense_at o (suc n) f kind bs)

-- a payload that means this
abbrev pub shown_sense : Order → List ℕ → Sense → List ℕ → Option json.Json
shown_sense o family s payload = sense_json o family (data_json o family (STANDARD_LEVELS - 1)) [] payload s

-- the field for what a payload means, where it is known
abbrev pub data_fields : Option json.Json → List Field
data_fields None = []
data_fields (Some value) = (codes "data", value) ∷ []
