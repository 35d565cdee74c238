-- The limits of reading.
use Rattle.std.specs.Prelude.{◌≡◌, ◌≤◌, ◌%◌, ◌^◌, ℕ}
use Rattle.nl_attr.specs.Fixed.{MOST_LEVELS, STANDARD_LEVELS, LONGEST_REGION}
use Rattle.nl_attr.specs.declared.order.Order.{Order}
use Rattle.nl_attr.specs.declared.order.Order.TheVariants.{Little}
use Rattle.nl_attr.specs.Shape.{Shape, shape_of}

-- the order of numbers and the levels that containers may open; the bytes of a datagram; the bytes of all datagrams of a session; the entries of a table
pub record Bounds : Type 0 where
  pub shape : Shape
  pub datagram : ℕ
  pub total : ℕ
  pub entries : ℕ

-- limits by their numbers
abbrev pub bounds_of : Order → ℕ → ℕ → ℕ → ℕ → Bounds
bounds_of order depth datagram total entries = record { shape = shape_of order depth; datagram = datagram; total = total; entries = entries }

-- the limits where nothing else is said
abbrev pub standard_bounds : Bounds
standard_bounds = bounds_of Little STANDARD_LEVELS 65536 1073741824 4096

-- each is in its range
abbrev pub AreLimits : Bounds → Type 0
AreLimits b = (b.shape.depth ≤ MOST_LEVELS) × (b.datagram % 4 ≡ 0) × (16 ≤ b.datagram) × (b.datagram ≤ LONGEST_REGION)
    × (b.total ≤ 2 ^ 40) × (b.entries ≤ 65536)
