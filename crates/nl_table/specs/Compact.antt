-- The bytes that a key stands for. No public clause names what is here.
use Rattle.std.specs.Prelude.{ℕ, List}
use Rattle.nl_table.specs.declared.compact.Store.{Store}
use Rattle.nl_table.specs.declared.compact.Store.TheVariants.{Short, Long}

-- those of a short key, or those of a vector
abbrev pub stored : Store → List ℕ
stored (Short bytes) = bytes
stored (Long v) = v.items
