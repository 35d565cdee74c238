-- The routing table of a request, whose number has a byte of the head, and an attribute where it doesn't fit that byte.
use Rattle.std.specs.Prelude.{ℕ, nat_lt, if◌then◌else◌, Some, None}
use Rattle.nl_attr.specs.declared.order.Order.{Order}
use Rattle.nl_attr.specs.Numbers.{num}
use Rattle.nl_attr.specs.Tree.{bytes}
use Rattle.nl_request.specs.Parts.{Part}

-- in the head: RT_TABLE_UNSPEC, 0, where it doesn't fit
abbrev pub head_table : ℕ → ℕ
head_table t = if nat_lt t 256 then t else 0

-- in an attribute
abbrev pub table_part : ℕ → Order → ℕ → Part
table_part n o t = if nat_lt t 256 then None else Some (n, bytes (num t 4 o))
