-- What stands inside a payload, by what it means: the bytes of a struct by its fields, and of attributes by their headers and what these hold.
use Rattle.std.specs.Prelude.{◌+◌, ◌-◌, ◌%◌, nat_lt, ℕ, zero, suc, if◌then◌else◌, List, [], ◌∷◌, ◌++◌, length, take, drop, replicate, codes, Option, Some, None, unwrap_or}
use Rattle.std.specs.List.{flat_map}
use Rattle.nl_attr.specs.declared.order.Order.{Order}
use Rattle.nl_attr.specs.Fixed.{LONGEST_REGION}
use Rattle.nl_values.specs.Fields.{part_in}
use Rattle.nl_values.specs.Known.{KnownField, fields_of, name_of}
use Rattle.nl_values.specs.Meanings as sense
use Rattle.nl_values.specs.Meanings.{Sense, resolved_format}
use Rattle.nl_values.specs.Numbers.{size_of}
use Rattle.nl_values.specs.declared.format.Format.{Format}
use Rattle.nl_values.specs.declared.format.Format.TheVariants.{Integer}
use Rattle.nl_values.specs.declared.format.Number.{Number}
use Rattle.nl_values.specs.declared.names.Names.{Names}
use Rattle.nl_values.specs.declared.set.Set.{Set}
use Rattle.rtnl.specs.declared.bytes.notation.Notation.{Notation}
use Rattle.rtnl.specs.declared.bytes.notation.Notation.TheVariants.{Blank, Meaning}
use Rattle.rtnl.specs.declared.bytes.parts.Depth.{Depth}
use Rattle.rtnl.specs.declared.bytes.parts.Depth.TheVariants.{Header, Body, Level}
use Rattle.rtnl.specs.declared.bytes.parts.Extent.TheVariants.{Bytes}
use Rattle.rtnl.specs.Data.{MOST_CHOSEN, Part, count_in, kind_for, known, left_behind, parts_of, pieces, sense_at}
use Rattle.rtnl.specs.Marks.{Mark, fields, gap, named}
use Rattle.rtnl.specs.Kernel.{set_name}
use Rattle.rtnl.specs.Structs.{rtattr}

-- how deep attributes lie in bytes of this depth
abbrev pub deeper : Depth → Depth
deeper Header = Level 0
deeper Body = Level 0
deeper (Level n) = Level (n + 1)

-- bytes that are one part
abbrev pub whole : Depth → List ℕ → Notation → ℕ → List Mark
whole depth name notation size = named depth (Bytes size) name notation ∷ []

-- what a payload is called that an attribute of a set holds
abbrev pub payload_name : Option Set → ℕ → List ℕ
payload_name set n = unwrap_or (set_name set n) (codes "payload")

-- so many numbers, each of them a part
abbrev pub series_marks : Depth → List ℕ → Number → ℕ → List Mark
series_marks depth name n count = replicate count (named depth (Bytes (size_of n)) name (Meaning (Integer n)))

-- the same by the names of their places, from this place on
abbrev pub counter_marks : Depth → List ℕ → Number → Names → ℕ → ℕ → List Mark
counter_marks depth name n names place zero = []
counter_marks depth name n names place (suc count) =
    named depth (Bytes (size_of n)) (unwrap_or (name_of names place) name) (Meaning (Integer n)) ∷ counter_marks depth name n names (place + 1) count

-- the padding behind a payload of so many bytes, before what follows
abbrev pub padding_behind : ℕ → ℕ
padding_behind size = (4 - size % 4) % 4

-- the bytes of a field, where the struct has them
abbrev pub field_part : KnownField → List ℕ → Option (List ℕ)
field_part field bs = part_in field.place field.size bs

-- where it ends, where so many bytes stand before it
abbrev pub field_end : ℕ → KnownField → Option (List ℕ) → ℕ
field_end at field None = at
field_end at field (Some part) = field.place + length part

-- what stands in a payload of a depth, under a name, by its format, its kind and the attributes beside it
abbrev pub Divides : Type 0
Divides = Depth → List ℕ → Format → List ℕ → List Part → List ℕ → List Mark

module _ (divides : Divides) where
  -- a field of a struct, where so many bytes stand before it
  abbrev pub field_marks : Depth → ℕ → KnownField → Option (List ℕ) → List Mark
  field_marks depth at field None = []
  field_marks depth at field (Some part) = gap depth (field.place - at) ∷ divides depth field.name field.format [] [] part

  -- the fields of the struct that these bytes are, and what is behind them
  abbrev pub struct_marks : Depth → ℕ → List KnownField → List ℕ → List Mark
  struct_marks depth at [] bs = gap depth (length bs - at) ∷ []
  struct_marks depth at (field ∷ fields) bs =
      field_marks depth at field (field_part field bs) ++ struct_marks depth (field_end at field (field_part field bs)) fields bs

  -- structs of this size, one behind the other
  abbrev pub structs_marks : Depth → List KnownField → ℕ → List ℕ → List Mark
  structs_marks depth fields size bs = flat_map (struct_marks depth 0 fields) (pieces size (count_in size (length bs)) bs)

  -- an attribute of this number of a set: its header, and what it holds
  abbrev pub held_marks : Depth → Set → ℕ → Format → List ℕ → List Part → List ℕ → List Mark
  held_marks depth set n f kind all payload = fields depth (rtattr (Some set)) ++ divides depth (payload_name (Some set) n) f kind all payload

  module _ (family : List ℕ) (outer all : List Part) (set : Set) where
    -- the same among all of a list, of which so many may be chosen
    abbrev pub item_marks : Depth → ℕ → Part → List Mark
    item_marks depth left part =
        held_marks depth set part.0 (known (Some set) part.0).format (kind_for left family outer all (known (Some set) part.0).format) all part.1

    -- attributes with their padding, in so many bytes; in front of the first stand others
    abbrev pub items_marks : Depth → ℕ → ℕ → ℕ → List Part → List Mark
    items_marks depth left front size [] = gap depth size ∷ []
    items_marks depth left front size (part ∷ parts) =
        gap depth front ∷ (item_marks depth left part
        ++ items_marks depth (left_behind left (known (Some set) part.0).format) (padding_behind (length part.1)) (size - (front + 4) - length part.1) parts)

module _ (o : Order) (family : List ℕ) where
  module _ (divides : Divides) where
    -- the attributes of a region
    abbrev pub region_marks : Depth → List Part → Set → List ℕ → List Mark
    region_marks depth outer set region = items_marks divides family outer (parts_of o region) set depth MOST_CHOSEN 0 (length region) (parts_of o region)

    -- a struct, and the attributes of the region behind it
    abbrev pub headed_marks : Depth → List Part → List KnownField → Set → ℕ → List ℕ → List Mark
    headed_marks depth outer fields set from bs =
        struct_marks divides depth 0 fields (take from bs) ++ region_marks (deeper depth) outer set (drop from bs)

    -- what stands in bytes of this meaning, among the attributes of a list: what has no parts is one part, and is read so; what has no meaning is read in a plain way
    abbrev pub sense_marks : Depth → List ℕ → List Part → List ℕ → Notation → Notation → Sense → List Mark
    sense_marks depth name parts bs plain own sense.unknown = whole depth name plain (length bs)
    sense_marks depth name parts bs plain own sense.flag = whole depth name own (length bs)
    sense_marks depth name parts bs plain own (sense.text t) = whole depth name own (length bs)
    sense_marks depth name parts bs plain own (sense.integer z) = whole depth name own (length bs)
    sense_marks depth name parts bs plain own (sense.value z v) = whole depth name own (length bs)
    sense_marks depth name parts bs plain own (sense.bits n names) = whole depth name own (length bs)
    sense_marks depth name parts bs plain own (sense.mac address) = whole depth name own (length bs)
    sense_marks depth name parts bs plain own (sense.ipv4 address) = whole depth name own (length bs)
    sense_marks depth name parts bs plain own (sense.ipv6 address) = whole depth name own (length bs)
    sense_marks depth name parts bs plain own (sense.series n) = series_marks depth name n (count_in (size_of n) (length bs))
    sense_marks depth name parts bs plain own (sense.counters n names) = counter_marks depth name n names 0 (count_in (size_of n) (length bs))
    sense_marks depth name parts bs plain own (sense.fields of) = struct_marks divides depth 0 (fields_of of) bs
    sense_marks depth name parts bs plain own (sense.array of size) = structs_marks divides depth (fields_of of) size bs
    sense_marks depth name parts bs plain own (sense.headed of set from) = headed_marks depth parts (fields_of of) set from bs
    sense_marks depth name parts bs plain own (sense.list set) = region_marks (deeper depth) parts set bs

  -- what stands in a payload, where so many levels may be shown; nothing is said of one that is longer than any message
  unfoldable pub inside_marks : ℕ → Divides
  inside_marks zero depth name f kind parts bs = whole depth name Blank (length bs)
  inside_marks (suc n) depth name f kind parts bs =
      if nat_lt LONGEST_REGION (length bs) then whole depth name Blank (length bs)
      else sense_marks (inside_marks n) depth name parts bs Blank (Meaning (resolved_format o kind f)) (sense_at o (suc n) f kind bs)
