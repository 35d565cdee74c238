-- What a payload means by what is said of it.
use Rattle.std.specs.Prelude.{ℕ, ℤ, ◌+◌, ◌==◌, ◌&&◌, ◌%◌, not, nat_lt, nat_le, Bool, false, if◌then◌else◌, List, length, drop, Option, Some, None, is_ok}
use Rattle.std.specs.Option.{option_map}
use Rattle.nl_attr.specs.declared.order.Order.{Order}
use Rattle.nl_attr.specs.declared.tree.Ctx.TheVariants.{Plain}
use Rattle.nl_attr.specs.Numbers.{aligned}
use Rattle.nl_attr.specs.Reading.{Outcome, items_of_region}
use Rattle.nl_attr.specs.Shape.{shape_of}
use Rattle.nl_attr.specs.Tree.{Items}
use Rattle.nl_values.specs.declared.format.Format.{Format}
use Rattle.nl_values.specs.declared.format.Format.TheVariants as format
use Rattle.nl_values.specs.declared.format.Number.{Number}
use Rattle.nl_values.specs.declared.format.Number.TheVariants.{U32, U64}
use Rattle.nl_values.specs.declared.meaning.Meaning.{Meaning}
use Rattle.nl_values.specs.declared.meaning.Meaning.TheVariants as meaning
use Rattle.nl_values.specs.declared.names.Names.{Names}
use Rattle.nl_values.specs.declared.set.Set.{Set}
use Rattle.nl_values.specs.declared.structs.Struct.{Struct}
use Rattle.nl_values.specs.Known.{bounds_of, chosen_format, name_of}
use Rattle.nl_values.specs.Numbers.{integer_of, integer_view, raw_of, size_of}
use Rattle.nl_values.specs.Texts.{is_text, stem_of}

-- what a payload can mean
pub data Sense : Type 0 where
  unknown : Sense
  flag : Sense
  text : List ℕ → Sense
  integer : ℤ → Sense
  value : ℤ → Option (List ℕ) → Sense
  bits : ℕ → Names → Sense
  mac : List ℕ → Sense
  ipv4 : List ℕ → Sense
  ipv6 : List ℕ → Sense
  series : Number → Sense
  counters : Number → Names → Sense
  fields : Struct → Sense
  array : Struct → ℕ → Sense
  headed : Struct → Set → ℕ → Sense
  list : Set → Sense

-- the sense of a meaning of the program
abbrev pub sense_of : Meaning → Sense
sense_of meaning.Unknown = unknown
sense_of meaning.Flag = flag
sense_of (meaning.Text t) = text t.now
sense_of (meaning.Integer n) = integer (integer_view n)
sense_of (meaning.Value n name) = value (integer_view n) (option_map (λ r. r.now) name)
sense_of (meaning.Bits n names) = bits n names
sense_of (meaning.Mac address) = mac address
sense_of (meaning.Ipv4 address) = ipv4 address
sense_of (meaning.Ipv6 address) = ipv6 address
sense_of (meaning.Series n) = series n
sense_of (meaning.Counters n names) = counters n names
sense_of (meaning.Fields s) = fields s
sense_of (meaning.Array s size) = array s size
sense_of (meaning.Headed s set from) = headed s set from
sense_of (meaning.List set) = list set

-- bytes within the least and the most that a struct has
abbrev pub is_within : Option (ℕ × ℕ) → ℕ → Bool
is_within None len = false
is_within (Some (least, most)) len = nat_le least len && nat_le len most

-- a struct of this size, again and again
abbrev pub is_repeated : ℕ → ℕ → Bool
is_repeated least len = not (least == 0) && (len % least == 0)

-- what a struct again and again means
abbrev pub array_sense : Struct → Option (ℕ × ℕ) → ℕ → Sense
array_sense of None len = unknown
array_sense of (Some (least, most)) len = if is_repeated least len then array of least else unknown

-- what a format is once a kind has chosen
abbrev pub resolved_format : Order → List ℕ → Format → Format
resolved_format o kind (format.Chosen choice selector) = chosen_format choice o kind
resolved_format o kind f = f

module _ (o : Order) (bs : List ℕ) where
  -- an unsigned number by its length
  abbrev pub unsigned_sense : Sense
  unsigned_sense =
      if length bs == 4 then integer (integer_of U32 o bs)
      else if length bs == 8 then integer (integer_of U64 o bs)
      else unknown

-- an address by its length
abbrev pub ip_sense : List ℕ → Sense
ip_sense bs = if length bs == 4 then ipv4 bs else if length bs == 16 then ipv6 bs else unknown

-- A payload in a message of this order, in a list of this level, under this depth limit.
module _ (o : Order) (depth level : ℕ) where
  -- reading a region as attributes, which are a level deeper
  abbrev pub reading_inside : List ℕ → Outcome Items
  reading_inside region = items_of_region (shape_of o depth) Plain (level + 1) 0 region

  -- bytes are attributes: the limit allows a level more, and they are read without a fault. A region
  -- is read exactly where some list fits it, as `nl_attr` proves.
  abbrev pub is_list : List ℕ → Bool
  is_list region = nat_lt level depth && is_ok (reading_inside region).0

  -- so many bytes are visited to find that out: none at the last level, else those of that reading
  abbrev pub visits_inside : List ℕ → ℕ
  visits_inside region = if nat_le depth level then 0 else (reading_inside region).1

  -- what a struct of this size means, and attributes behind it and its padding
  abbrev pub headed_sense : Option (ℕ × ℕ) → Struct → Set → List ℕ → Sense
  headed_sense None of set bs = unknown
  headed_sense (Some (least, most)) of set bs =
      if nat_le least (length bs) && is_list (drop (aligned least) bs) then headed of set (aligned least) else unknown

  -- and what is visited for that
  abbrev pub headed_visits : Option (ℕ × ℕ) → List ℕ → ℕ
  headed_visits None bs = 0
  headed_visits (Some (least, most)) bs =
      if nat_le least (length bs) then visits_inside (drop (aligned least) bs) else 0

  -- what these bytes mean in a format
  abbrev pub meaning_of : List ℕ → Format → Sense
  meaning_of bs format.Bytes = unknown
  meaning_of bs format.Flag = if length bs == 0 then flag else unknown
  meaning_of bs format.Text = if is_text bs then text (stem_of bs) else unknown
  meaning_of bs (format.Integer n) = if length bs == size_of n then integer (integer_of n o bs) else unknown
  meaning_of bs format.Unsigned = unsigned_sense o bs
  meaning_of bs (format.Value n names) =
      if length bs == size_of n then value (integer_of n o bs) (name_of names (raw_of n o bs)) else unknown
  meaning_of bs (format.Bits n names) = if length bs == size_of n then bits (raw_of n o bs) names else unknown
  meaning_of bs format.Mac = if length bs == 6 then mac bs else unknown
  meaning_of bs format.Ipv4 = if length bs == 4 then ipv4 bs else unknown
  meaning_of bs format.Ipv6 = if length bs == 16 then ipv6 bs else unknown
  meaning_of bs format.Ip = ip_sense bs
  meaning_of bs (format.Series n) = if length bs % size_of n == 0 then series n else unknown
  meaning_of bs (format.Counters n names) = if length bs % size_of n == 0 then counters n names else unknown
  meaning_of bs (format.Fields of) = if is_within (bounds_of of) (length bs) then fields of else unknown
  meaning_of bs (format.Array of) = array_sense of (bounds_of of) (length bs)
  meaning_of bs (format.Headed of set) = headed_sense (bounds_of of) of set bs
  meaning_of bs (format.List set) = if is_list bs then list set else unknown
  meaning_of bs (format.Hops set) = unknown
  meaning_of bs (format.Chosen choice selector) = unknown

  -- how many bytes are visited for it
  abbrev pub visits_of : List ℕ → Format → ℕ
  visits_of bs (format.Headed of set) = headed_visits (bounds_of of) bs
  visits_of bs (format.List set) = visits_inside bs
  visits_of bs f = 0

  -- what a payload means in a format, where these are the bytes of the kind
  abbrev pub sense_in : Format → List ℕ → List ℕ → Sense
  sense_in f kind payload = meaning_of payload (resolved_format o kind f)

  -- and how many bytes are visited
  abbrev pub visits_in : Format → List ℕ → List ℕ → ℕ
  visits_in f kind payload = visits_of payload (resolved_format o kind f)
