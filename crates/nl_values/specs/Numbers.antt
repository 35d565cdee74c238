-- Numbers of all sizes, signs and byte orders.
use Rattle.std.specs.Prelude.{ℕ, ℤ, pos, ◌+◌, ◌*◌, ◌==◌, nat_lt, if◌then◌else◌, List, length, take, drop, Option, Some, None}
use Rattle.std.specs.Int.{w8, w16, w32, w64, cast_signed}
use Rattle.nl_attr.specs.Numbers.{number_of}
use Rattle.nl_attr.specs.declared.order.Order.{Order}
use Rattle.nl_attr.specs.declared.order.Order.TheVariants.{Little, Big}
use Rattle.nl_values.specs.declared.format.Number.{Number}
use Rattle.nl_values.specs.declared.format.Number.TheVariants.{U8, U16, U32, U64, I8, I16, I32, I64, NetworkU16, NetworkU32, NetworkU64}
use Rattle.nl_values.specs.declared.numbers.Integer.{Integer}
use Rattle.nl_values.specs.declared.numbers.Integer.TheVariants.{Unsigned, Signed}

-- how many bytes a number has
abbrev pub size_of : Number → ℕ
size_of U8 = 1
size_of U16 = 2
size_of U32 = 4
size_of U64 = 8
size_of I8 = 1
size_of I16 = 2
size_of I32 = 4
size_of I64 = 8
size_of NetworkU16 = 2
size_of NetworkU32 = 4
size_of NetworkU64 = 8

-- the bits of the number in these bytes, as a number without a sign
abbrev pub raw_of : Number → Order → List ℕ → ℕ
raw_of U8 o bs = number_of Little 1 bs
raw_of U16 o bs = number_of o 2 bs
raw_of U32 o bs = number_of o 4 bs
raw_of U64 o bs = number_of o 8 bs
raw_of I8 o bs = number_of Little 1 bs
raw_of I16 o bs = number_of o 2 bs
raw_of I32 o bs = number_of o 4 bs
raw_of I64 o bs = number_of o 8 bs
raw_of NetworkU16 o bs = number_of Big 2 bs
raw_of NetworkU32 o bs = number_of Big 4 bs
raw_of NetworkU64 o bs = number_of Big 8 bs

-- the number in these bytes
abbrev pub integer_of : Number → Order → List ℕ → ℤ
integer_of I8 o bs = cast_signed w8 (raw_of I8 o bs)
integer_of I16 o bs = cast_signed w16 (raw_of I16 o bs)
integer_of I32 o bs = cast_signed w32 (raw_of I32 o bs)
integer_of I64 o bs = cast_signed w64 (raw_of I64 o bs)
integer_of n o bs = pos (raw_of n o bs)

-- the number that these bytes are, where they are as many as it has
abbrev pub integer_in : Number → Order → List ℕ → Option ℤ
integer_in n o bs = if length bs == size_of n then Some (integer_of n o bs) else None

-- the number of an index in numbers one behind the other
abbrev pub integer_at : Number → Order → List ℕ → ℕ → Option ℤ
integer_at n o bs index =
    if nat_lt (length bs) (index * size_of n + size_of n) then None
    else Some (integer_of n o (take (size_of n) (drop (index * size_of n) bs)))

-- the number that one of the program is
abbrev pub integer_view : Integer → ℤ
integer_view (Unsigned n) = pos n
integer_view (Signed z) = z
