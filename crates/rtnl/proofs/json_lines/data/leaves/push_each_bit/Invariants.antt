use Rattle.rtnl.proofs.Common.{◌≡◌, drop, map, names_set}
use Rattle.nl_values.specs.Known.{bits_of}
use Rattle.rtnl.specs.Json.{◌⊕◌, string, values_tokens}
use Rattle.rtnl.proofs.json_lines.data.leaves.push_each_bit.Given as goal

-- what is written and what the other bits give are all names
abbrev pub invariant-loop-index : goal.invariant-loop-index
invariant-loop-index l =
    l.line ⊕ values_tokens (map string (names_set (drop l.index (bits_of l.names)) l.number))
    ≡ l.initial.line ⊕ values_tokens (map string (names_set (bits_of l.names) l.number))
