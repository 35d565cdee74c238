-- Numbers as bytes in either order, alignment, and bytes at a place.
use Rattle.std.specs.Prelude.{ℕ, zero, suc, ◌+◌, ◌*◌, ◌/◌, ◌%◌, List, [], ◌∷◌, ◌<◌, length, slice_index, reverse, min, drop}
use Rattle.byteorder.specs.Endian.{little_number, big_number}
use Rattle.nl_attr.specs.declared.order.Order.{Order}
use Rattle.nl_attr.specs.declared.order.Order.TheVariants.{Little, Big}

-- the least multiple of 4 that is not below n
abbrev pub aligned : ℕ → ℕ
aligned n = (n + 3) / 4 * 4

-- the w bytes of n, the lowest first
abbrev pub le : ℕ → ℕ → List ℕ
le n zero = []
le n (suc w) = n % 256 ∷ le (n / 256) w

-- the w bytes of n in an order
abbrev pub num : ℕ → ℕ → Order → List ℕ
num n w Little = le n w
num n w Big = reverse (le n w)

-- each number of the list is below 256
abbrev pub AreBytes : List ℕ → Type 0
AreBytes bytes = (i : ℕ) → slice_index bytes i < 256

-- the number in the first w bytes
abbrev pub number_of : Order → ℕ → List ℕ → ℕ
number_of Little w bs = little_number w bs
number_of Big w bs = big_number w bs

module _ (o : Order) where
  -- the length field, of w bytes, of a head at the front
  abbrev pub len_of : ℕ → List ℕ → ℕ
  len_of w left = number_of o w left

  -- the type field of an attribute's head at the front
  abbrev pub kind_of : List ℕ → ℕ
  kind_of left = number_of o 2 (drop 2 left)

  -- an item with its padding, as far as present
  abbrev pub span_of : ℕ → List ℕ → ℕ
  span_of w left = min (aligned (len_of w left)) (length left)
