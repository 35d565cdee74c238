-- How the tables are read. Each definition takes the tables that it reads.
use Rattle.std.specs.Prelude.{ℕ, ◌+◌, ◌-◌, ◌==◌, ◌||◌, nat_eq, nat_lt, nat_le, Bool, false, if◌then◌else◌, List, [], ◌∷◌, length}
use Rattle.std.specs.Prelude.{map, slice_get, slice_range, bit_and, bit_xor, Option, Some, None}
use Rattle.std.specs.Cmp.Lexicographic.{pointwise}
use denote.Ref.{Bor}
use Rattle.nl_attr.specs.Numbers.{number_of}
use Rattle.nl_attr.specs.declared.order.Order.{Order}
use Rattle.nl_attr.specs.declared.order.Order.TheVariants.{Little}
use Rattle.nl_values.specs.Texts.{stem_of}
use Rattle.nl_values.specs.declared.rows.Label.{Label}
use Rattle.nl_values.specs.declared.rows.SetRow.{SetRow}
use Rattle.nl_values.specs.declared.rows.AttributeRow.{AttributeRow}
use Rattle.nl_values.specs.declared.rows.StructRow.{StructRow}
use Rattle.nl_values.specs.declared.rows.FieldRow.{FieldRow}
use Rattle.nl_values.specs.declared.rows.NamesRow.{NamesRow}
use Rattle.nl_values.specs.declared.rows.NamedRow.{NamedRow}
use Rattle.nl_values.specs.declared.rows.ChoiceRow.{ChoiceRow}
use Rattle.nl_values.specs.declared.rows.CaseRow.{CaseRow}
use Rattle.nl_values.specs.declared.rows.Kind.{Kind}
use Rattle.nl_values.specs.declared.rows.Kind.TheVariants.{Text, Number}
use Rattle.nl_values.specs.declared.format.Format.{Format}
use Rattle.nl_values.specs.declared.format.Format.TheVariants.{Bytes}
use Rattle.nl_values.specs.declared.set.Attribute.{Attribute}
use Rattle.nl_values.specs.declared.structs.Field.{Field}

-- what is known of an attribute
pub record KnownAttribute : Type 0 where
  pub name : List ℕ
  pub format : Format

-- what is known of a field
pub record KnownField : Type 0 where
  pub name : List ℕ
  pub place : ℕ
  pub size : ℕ
  pub format : Format

-- what an attribute of the program says
abbrev pub attribute_view : Attribute → KnownAttribute
attribute_view it = record { name = it.name.now; format = it.format }

-- what a field of the program says
abbrev pub field_view : Field → KnownField
field_view it = record { name = it.name.now; place = it.place; size = it.size; format = it.format }

-- what a bit of the program says: its name, and its mask
abbrev pub bit_view : Bor (List ℕ) × ℕ → List ℕ × ℕ
bit_view bit = (bit.0.now, bit.1)

-- a part of a list by its first place and its length; nothing where the list ends before
abbrev pub part : {X : Type 0} → List X → ℕ → ℕ → List X
part xs from count = if nat_lt (length xs) (from + count) then [] else slice_range xs from (from + count)

-- a name is the part of the text that its label says
abbrev pub name_at : List ℕ → Label → List ℕ
name_at text label = part text label.at label.len

-- the prefix of the set of a row
abbrev pub prefix_by : List ℕ → Option SetRow → List ℕ
prefix_by text None = []
prefix_by text (Some row) = name_at text row.prefix

-- the row of this number, which is as far behind the first row as the number is behind the first
-- number; a set without a prefix has its first row for all numbers
abbrev pub row_in : SetRow → List AttributeRow → ℕ → Option AttributeRow
row_in set rows number =
    if set.prefix.len == 0 then slice_get rows set.from
    else if nat_lt number set.first || nat_le set.count (number - set.first) then None
    else slice_get rows (set.from + (number - set.first))

abbrev pub row_of : Option SetRow → List AttributeRow → ℕ → Option AttributeRow
row_of None rows number = None
row_of (Some set) rows number = row_in set rows number

-- the row of this number in the set of a number
abbrev pub row_at : List SetRow → List AttributeRow → ℕ → ℕ → Option AttributeRow
row_at sets rows set number = row_of (slice_get sets set) rows number

-- what a row says of an attribute
abbrev pub attribute_by : List ℕ → AttributeRow → KnownAttribute
attribute_by text row = record { name = name_at text row.label; format = row.format }

-- the rows of the fields of a struct
abbrev pub field_rows_of : Option StructRow → List FieldRow → List FieldRow
field_rows_of None fields = []
field_rows_of (Some row) fields = part fields row.from row.count

-- those of the struct of a number
abbrev pub field_rows : List StructRow → List FieldRow → ℕ → List FieldRow
field_rows structs fields of = field_rows_of (slice_get structs of) fields

-- what a row says of a field
abbrev pub field_by : List ℕ → FieldRow → KnownField
field_by text row = record { name = name_at text row.label; place = row.place; size = row.size; format = row.format }

-- the fields of the struct of a number, in their order
abbrev pub fields_at : List StructRow → List FieldRow → List ℕ → ℕ → List KnownField
fields_at structs fields text of = map (field_by text) (field_rows structs fields of)

-- the least and the most bytes of a struct
abbrev pub bounds_of : Option StructRow → Option (ℕ × ℕ)
bounds_of None = None
bounds_of (Some row) = Some (row.least, row.most)

-- those of the struct of a number
abbrev pub bounds_at : List StructRow → ℕ → Option (ℕ × ℕ)
bounds_at structs of = bounds_of (slice_get structs of)

-- the rows of names
abbrev pub rows_of : Option NamesRow → List NamedRow → List NamedRow
rows_of None values = []
rows_of (Some row) values = part values row.from row.count

-- the rows of the names of a number
abbrev pub named_rows : List NamesRow → List NamedRow → ℕ → List NamedRow
named_rows names values of = rows_of (slice_get names of) values

-- the label of the first row of a number
abbrev pub label_of : List NamedRow → ℕ → Option Label
label_of [] number = None
label_of (row ∷ rows) number = if row.number == number then Some row.label else label_of rows number

-- what a row says of a bit: its name, and its mask
abbrev pub bit_by : List ℕ → NamedRow → List ℕ × ℕ
bit_by text row = (name_at text row.label, row.number)

-- the bits of the names of a number, in their order
abbrev pub bits_at : List NamesRow → List NamedRow → List ℕ → ℕ → List (List ℕ × ℕ)
bits_at names values text of = map (bit_by text) (named_rows names values of)

-- the prefix of the names of a row
abbrev pub names_prefix_by : List ℕ → Option NamesRow → List ℕ
names_prefix_by text None = []
names_prefix_by text (Some row) = name_at text row.prefix

-- the bits of a number without those of these rows
abbrev pub rest_of : List NamedRow → ℕ → ℕ
rest_of [] number = number
rest_of (row ∷ rows) number = rest_of rows (bit_xor number (bit_and number row.number))

-- the number that the bytes of a kind are
abbrev pub kind_number_of : Order → List ℕ → Option ℕ
kind_number_of o bs =
    if length bs == 1 then Some (number_of Little 1 bs)
    else if length bs == 2 then Some (number_of o 2 bs)
    else if length bs == 4 then Some (number_of o 4 bs)
    else None

-- the number of a kind is this one
abbrev pub kind_equals : Option ℕ → ℕ → Bool
kind_equals None number = false
kind_equals (Some kind) number = kind == number

-- the bytes of a kind are that of a case
abbrev pub is_kind : Kind → List ℕ → Order → List ℕ → CaseRow → Bool
is_kind Text text o bs row = pointwise nat_eq (name_at text row.label) (stem_of bs)
is_kind Number text o bs row = kind_equals (kind_number_of o bs) row.number

-- the format of the first case that passes a test
abbrev pub case_of : Format → (CaseRow → Bool) → List CaseRow → Format
case_of other p [] = other
case_of other p (row ∷ rows) = if p row then row.format else case_of other p rows

-- what a kind chooses among the cases of a sub-message
abbrev pub format_of : Option ChoiceRow → List CaseRow → List ℕ → Order → List ℕ → Format
format_of None cases text o kind = Bytes
format_of (Some row) cases text o kind = case_of row.other (is_kind row.kind text o kind) (part cases row.from row.count)

-- what a kind chooses in the sub-message of a number
abbrev pub format_at : List ChoiceRow → List CaseRow → List ℕ → ℕ → Order → List ℕ → Format
format_at choices cases text of o kind = format_of (slice_get choices of) cases text o kind
