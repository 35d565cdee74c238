-- What keys take of attributes that may be absent.
use Rattle.std.specs.Prelude.{ℕ, Option, unwrap_or}
use Rattle.nl_attr.specs.declared.order.Order.{Order}
use Rattle.nl_attr.specs.Tree.{Items}
use Rattle.nl_route.specs.Views.{number_view}

-- the number of an attribute, 0 where the attribute is absent
abbrev pub or_zero : Option ℕ → ℕ
or_zero n = unwrap_or n 0

module _ (o : Order) where
  -- the table of a route or a rule: that of an attribute, or that of the head where it is absent
  abbrev pub table_id : ℕ → ℕ → Items → ℕ
  table_id n of_head is = unwrap_or (number_view o 4 n is) of_head

  -- the number in the four bytes of an attribute, 0 where there is none
  abbrev pub number_at : ℕ → Items → ℕ
  number_at n is = or_zero (number_view o 4 n is)
