-- The names that C is answered.
use Rattle.std.specs.Prelude.{ℕ, List, Option, Some, None}
use Rattle.nl_attr.specs.declared.tree.Ctx.{Ctx}
use Rattle.rtnl.specs.Kernel.{attribute_name}

-- the name of an attribute in a context; none in none
abbrev pub attribute_name_in : Option Ctx → ℕ → Option (List ℕ)
attribute_name_in None number = None
attribute_name_in (Some c) number = attribute_name c number
