-- The tree that a value of the program stands for: `Items` for a vector of `Attr`, `Val` for a
-- `Value`, `HopItems` for a vector of `Hop`. Clauses speak of these trees.
use Rattle.std.specs.Prelude.{List, [], ◌∷◌, map}
use Rattle.nl_attr.specs.declared.tree.Value.{Value, fold-Value}
use Rattle.nl_attr.specs.declared.tree.Value.TheOpen.{Value-F, Attr-F, Hop-F}
use Rattle.nl_attr.specs.declared.tree.Value.TheFolds.{fold-Attr, fold-Hop}
use Rattle.nl_attr.specs.declared.tree.Attr.{Attr}
use Rattle.nl_attr.specs.declared.tree.Hop.{Hop}
use Rattle.nl_attr.specs.Tree.{Val, bytes, list, hops, Items, no_items, item, HopItems, no_hops, hop}

-- an attribute, as the function that puts it in front of others
abbrev pub Front : Type 0
Front = Items → Items

-- a next hop, as the function that puts it in front of others
abbrev pub HopFront : Type 0
HopFront = HopItems → HopItems

-- attributes, one in front of the other
abbrev pub items_of : List Front → Items
items_of [] = no_items
items_of (f ∷ fs) = f (items_of fs)

-- next hops, one in front of the other
abbrev pub hops_of : List HopFront → HopItems
hops_of [] = no_hops
hops_of (f ∷ fs) = f (hops_of fs)

-- a value whose parts have been seen
abbrev pub value_step : Value-F Val Front HopFront → Val
value_step (Value-F.Bytes v) = bytes v
value_step (Value-F.List v) = list (items_of v.items)
value_step (Value-F.Hops v) = hops (hops_of v.items)

-- an attribute whose value has been seen
abbrev pub attr_step : Attr-F Val Front HopFront → Front
attr_step a = item a.number a.flags a.value

-- a next hop whose attributes have been seen
abbrev pub hop_step : Hop-F Val Front HopFront → HopFront
hop_step h = hop h.flags h.hops h.ifindex (items_of h.attrs.items)

-- the tree of a value
abbrev pub value_view : Value → Val
value_view = fold-Value Val Front HopFront value_step attr_step hop_step

-- that of an attribute, in front of others
abbrev pub attr_view : Attr → Front
attr_view = fold-Attr Val Front HopFront value_step attr_step hop_step

-- that of a next hop, in front of others
abbrev pub hop_view : Hop → HopFront
hop_view = fold-Hop Val Front HopFront value_step attr_step hop_step

-- that of a list of attributes
abbrev pub attrs_view : List Attr → Items
attrs_view xs = items_of (map attr_view xs)

-- that of next hops
abbrev pub hops_view : List Hop → HopItems
hops_view xs = hops_of (map hop_view xs)
