-- What the tables say of names, structs and sub-messages.
use Rattle.std.specs.Prelude.{ℕ, ◌==◌, ◌&&◌, ◌||◌, nat_le, Bool, List, length, map, Option, slice_get}
use Rattle.std.specs.Char.{is_ascii_alphanumeric}
use Rattle.std.specs.List.{list_all}
use Rattle.std.specs.Option.{option_map}
use Rattle.nl_attr.specs.declared.order.Order.{Order}
use Rattle.nl_values.specs.declared.choice.Choice.{Choice}
use Rattle.nl_values.specs.declared.format.Format.{Format}
use Rattle.nl_values.specs.declared.names.Names.{Names}
use Rattle.nl_values.specs.declared.set.Set.{Set}
use Rattle.nl_values.specs.declared.structs.Struct.{Struct}
use Rattle.nl_values.specs.declared.set.TheConstants.Set as own
use Rattle.nl_values.specs.declared.names.TheConstants.Names as own_names
use Rattle.nl_values.specs.declared.tables.TheConstants.{SETS, ATTRIBUTES, NAMES_OF_ATTRIBUTES, STRUCTS, FIELDS, NAMES_OF_FIELDS}
use Rattle.nl_values.specs.declared.tables.TheConstants.{NAMES, VALUES, NAMES_OF_VALUES, CHOICES, CASES, NAMES_OF_KINDS}
use Rattle.nl_values.specs.Rows.{attribute_by, bits_at, bounds_at, fields_at, format_at, label_of, name_at, named_rows, names_prefix_by, prefix_by, rest_of, row_at}
pub use Rattle.nl_values.specs.Rows.{KnownAttribute, KnownField, attribute_view, field_view, bit_view}

-- the prefix of a set
unfoldable pub prefix_of : Set → List ℕ
prefix_of set = prefix_by NAMES_OF_ATTRIBUTES.now (slice_get SETS set.0)

-- the sets that have a name in the program
abbrev pub link_set : Set
link_set = own.LINK

abbrev pub addr_set : Set
addr_set = own.ADDR

abbrev pub route_set : Set
route_set = own.ROUTE

abbrev pub neigh_set : Set
neigh_set = own.NEIGH

abbrev pub rule_set : Set
rule_set = own.RULE

abbrev pub extack_set : Set
extack_set = own.EXTACK

abbrev pub message_set : Set
message_set = own.MESSAGES

-- the attribute of this number in a set
unfoldable pub attribute_of : Set → ℕ → Option KnownAttribute
attribute_of set number = option_map (attribute_by NAMES_OF_ATTRIBUTES.now) (row_at SETS ATTRIBUTES set.0 number)

-- a letter, a digit, `-` or `_`
abbrev pub is_word_byte : ℕ → Bool
is_word_byte b = is_ascii_alphanumeric b || b == 45 || b == 95

-- at most 40 of them
abbrev pub is_word : List ℕ → Bool
is_word name = nat_le (length name) 40 && list_all is_word_byte name

-- the names of errors
abbrev pub errno_names : Names
errno_names = own_names.ERRNO

-- the fields of a struct, in their order
unfoldable pub fields_of : Struct → List KnownField
fields_of struct = fields_at STRUCTS FIELDS NAMES_OF_FIELDS.now struct.0

-- the least and the most bytes that a struct has
unfoldable pub bounds_of : Struct → Option (ℕ × ℕ)
bounds_of struct = bounds_at STRUCTS struct.0

-- the prefix of names
unfoldable pub names_prefix_of : Names → List ℕ
names_prefix_of names = names_prefix_by NAMES_OF_VALUES.now (slice_get NAMES names.0)

-- the name of a number
unfoldable pub name_of : Names → ℕ → Option (List ℕ)
name_of names number = option_map (name_at NAMES_OF_VALUES.now) (label_of (named_rows NAMES VALUES names.0) number)

-- the bits that have names, in their order: the name, and the bit
unfoldable pub bits_of : Names → List (List ℕ × ℕ)
bits_of names = bits_at NAMES VALUES NAMES_OF_VALUES.now names.0

-- the bits of a number that have no name
unfoldable pub unnamed_of : Names → ℕ → ℕ
unnamed_of names number = rest_of (named_rows NAMES VALUES names.0) number

-- what a kind chooses
unfoldable pub chosen_format : Choice → Order → List ℕ → Format
chosen_format choice o kind = format_at CHOICES CASES NAMES_OF_KINDS.now choice.0 o kind
