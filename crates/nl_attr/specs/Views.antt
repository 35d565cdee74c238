-- The specification of views.rt: the first attribute of a type, and its payload as a number or a
-- text. View.antt is something else: the tree that a value of the program stands for.
use Rattle.std.specs.Prelude.{ℕ, ◌==◌, nat_lt, if◌then◌else◌, List, length, Option, Some, None}
use Rattle.std.specs.List.{before_first}
use Rattle.nl_attr.specs.declared.order.Order.{Order}
use Rattle.nl_attr.specs.declared.tree.AttrFlags.{AttrFlags}
use Rattle.nl_attr.specs.declared.tree.Attr.{Attr}
use Rattle.nl_attr.specs.Numbers.{number_of}
use Rattle.nl_attr.specs.Tree.{Val, bytes, list, hops, Items, no_items, item}
use Rattle.nl_attr.specs.View.{value_view}

-- an attribute, as clauses see it
pub record Entry : Type 0 where
  pub number : ℕ
  pub flags : AttrFlags
  pub value : Val

-- the attribute that a value of the program stands for
abbrev pub entry_of : Attr → Entry
entry_of a = record { number = a.number; flags = a.flags; value = value_view a.value }

-- the first attribute of this type in a list, if there is one
abbrev pub first_of : Items → ℕ → Option Entry
first_of no_items number = None
first_of (item n flags v more) number = if n == number then Some (record { number = n; flags = flags; value = v }) else first_of more number

-- the bytes of a value that holds bytes
abbrev pub bytes_in : Val → Option (List ℕ)
bytes_in (bytes bs) = Some bs
bytes_in (list is) = None
bytes_in (hops hs) = None

-- the number in the first w bytes, where there are as many
abbrev pub first_number : Order → ℕ → Option (List ℕ) → Option ℕ
first_number o w None = None
first_number o w (Some bs) = if nat_lt (length bs) w then None else Some (number_of o w bs)

-- the number in the first w bytes of a value, where it has as many
abbrev pub number_in : Order → ℕ → Val → Option ℕ
number_in o w v = first_number o w (bytes_in v)

-- the bytes before the first zero byte, or all
abbrev pub before_zero : Option (List ℕ) → Option (List ℕ)
before_zero None = None
before_zero (Some bs) = Some (before_first (λ b. b == 0) bs)

-- the text of a value that holds bytes
abbrev pub text_in : Val → Option (List ℕ)
text_in v = before_zero (bytes_in v)
