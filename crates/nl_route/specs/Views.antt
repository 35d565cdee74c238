-- What the first attribute of a number says, and no other.
use Rattle.std.specs.Prelude.{ℕ, List, Option, Some, None}
use Rattle.nl_attr.specs.declared.order.Order.{Order}
use Rattle.nl_attr.specs.Tree.{Val, bytes, list, hops, Items, no_items, HopItems, no_hops}
use Rattle.nl_attr.specs.View.{attrs_view}
use Rattle.nl_attr.specs.Views.{Entry, first_of, bytes_in, number_in, text_in}
use Rattle.nl_route.specs.declared.object.Object.{Object}

-- the attributes of a body
abbrev pub attrs_in : {H : Type 0} → Object H → Items
attrs_in b = attrs_view b.attrs.items

-- what the value of an attribute says, where there is an attribute
abbrev pub said_by : {A : Type 0} → (Val → Option A) → Option Entry → Option A
said_by f None = None
said_by f (Some e) = f e.value

-- the number in its first w bytes, where it has as many
abbrev pub number_view : Order → ℕ → ℕ → Items → Option ℕ
number_view o w n is = said_by (number_in o w) (first_of is n)

-- its bytes before the first zero byte, or all
abbrev pub text_view : ℕ → Items → Option (List ℕ)
text_view n is = said_by text_in (first_of is n)

-- all its bytes
abbrev pub bytes_view : ℕ → Items → Option (List ℕ)
bytes_view n is = said_by bytes_in (first_of is n)

-- the attributes that a value holds, none where it holds no list
abbrev pub list_in : Val → Items
list_in (bytes bs) = no_items
list_in (list is) = is
list_in (hops hs) = no_items

-- the same of an attribute, where there is one
abbrev pub list_of_entry : Option Entry → Items
list_of_entry None = no_items
list_of_entry (Some e) = list_in e.value

-- the next hops that a value holds, none where it holds none
abbrev pub next_hops_in : Val → HopItems
next_hops_in (bytes bs) = no_hops
next_hops_in (list is) = no_hops
next_hops_in (hops hs) = hs

-- the same of an attribute, where there is one
abbrev pub next_hops_of_entry : Option Entry → HopItems
next_hops_of_entry None = no_hops
next_hops_of_entry (Some e) = next_hops_in e.value

-- its list, none where there is none
abbrev pub items_view : ℕ → Items → Items
items_view n is = list_of_entry (first_of is n)

-- its next hops, none where there are none
abbrev pub hop_items_view : ℕ → Items → HopItems
hop_items_view n is = next_hops_of_entry (first_of is n)
