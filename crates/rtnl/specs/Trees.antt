-- The printed text of attributes and next hops, each line behind its indentation.
use Rattle.std.specs.Prelude.{ℕ, ◌+◌, ℤ, Bool, true, false, List, [], ◌++◌, codes}
use Rattle.std.specs.Fmt.{decimal, signed_decimal}
use Rattle.nl_attr.specs.declared.order.Order.{Order}
use Rattle.nl_attr.specs.declared.tree.AttrFlags.{AttrFlags}
use Rattle.nl_attr.specs.declared.tree.Ctx.{Ctx}
use Rattle.nl_attr.specs.declared.tree.Ctx.TheVariants.{Route}
use Rattle.nl_attr.specs.Tree.{Val, bytes, list, hops, Items, no_items, item, HopItems, no_hops, hop, holds_of}
use Rattle.rtnl.specs.declared.names.attributes.Style.{Style}
use Rattle.rtnl.specs.Attributes.{attribute_style, attribute_name, inner_context}
use Rattle.rtnl.specs.NamedBits.{hop_flags}
use Rattle.rtnl.specs.Names.{names_text}
use Rattle.rtnl.specs.Text.{◌⨟◌, padded_hex}
use Rattle.rtnl.specs.Values.{reading_of, value_text}

-- nested, and the network's order
abbrev pub flag_words : Bool → Bool → List ℕ
flag_words false false = codes "-"
flag_words false true = codes "net"
flag_words true false = codes "nested"
flag_words true true = codes "nested,net"

-- the flags of an attribute
unfoldable pub flags_text : AttrFlags → List ℕ
flags_text flags = flag_words flags.nested flags.net

-- what stands before the words of a line inside a body, and more where it lies deeper
abbrev pub indented : List ℕ → List ℕ
indented more = codes "    " ++ more

-- the indentation of what an item holds
unfoldable pub deeper : List ℕ → List ℕ
deeper indent = indent ++ codes "  "

-- how many attributes
abbrev pub item_count : Items → ℕ
item_count no_items = 0
item_count (item n flags v more) = item_count more + 1

-- how many next hops
abbrev pub hop_count : HopItems → ℕ
hop_count no_hops = 0
hop_count (hop flags count index attrs more) = hop_count more + 1

-- what an attribute's own line says of its value
unfoldable pub inline_text : Order → Style → Bool → Val → List ℕ
inline_text o style net (bytes payload) = value_text (reading_of o style net payload)
inline_text o style net (list items) = codes "list " ⨟ decimal (item_count items)
inline_text o style net (hops items) = codes "hops " ⨟ decimal (hop_count items)

-- an attribute's own line
unfoldable pub attr_line : Order → List ℕ → Ctx → ℕ → AttrFlags → Val → List ℕ
attr_line o indent ctx n flags v =
    indent ⨟ codes "attr " ⨟ decimal n ⨟ codes " " ⨟ attribute_name ctx n ⨟ codes " " ⨟ flags_text flags
    ⨟ codes " " ⨟ inline_text o (attribute_style ctx n) flags.net v ⨟ codes "\n"

-- a next hop's own line
unfoldable pub hop_line : List ℕ → ℕ → ℕ → ℤ → List ℕ
hop_line indent flags count index =
    indent ⨟ codes "hop flags 0x" ⨟ padded_hex 2 flags ⨟ codes " " ⨟ names_text hop_flags flags
    ⨟ codes " hops " ⨟ decimal count ⨟ codes " index " ⨟ signed_decimal index ⨟ codes "\n"

abbrev mutual
  -- what an attribute holds, in the context of the attributes inside
  pub held_text : Order → List ℕ → Ctx → Val → List ℕ
  held_text o indent ctx (bytes payload) = []
  held_text o indent ctx (list items) = items_text o indent ctx items
  held_text o indent ctx (hops items) = hops_text o indent items

  -- attributes in a context, each followed by what it holds
  pub items_text : Order → List ℕ → Ctx → Items → List ℕ
  items_text o indent ctx no_items = []
  items_text o indent ctx (item n flags v more) =
      attr_line o indent ctx n flags v ⨟ held_text o (deeper indent) (inner_context (holds_of ctx n flags)) v
      ⨟ items_text o indent ctx more

  -- next hops, each followed by its attributes
  pub hops_text : Order → List ℕ → HopItems → List ℕ
  hops_text o indent no_hops = []
  hops_text o indent (hop flags count index attrs more) =
      hop_line indent flags count index ⨟ items_text o (deeper indent) Route attrs ⨟ hops_text o indent more

-- for private clauses: what stands on an attribute's own line before what it says of its value
abbrev pub attr_front : ℕ → List ℕ → AttrFlags → List ℕ
attr_front n name flags = codes "attr " ⨟ decimal n ⨟ codes " " ⨟ name ⨟ codes " " ⨟ flags_text flags ⨟ codes " "
