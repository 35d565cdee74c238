use Rattle.rtnl.proofs.Common.{◌≡◌, map, drop, true, bit_view, are_unescaped, names_set}
use Rattle.rtnl.specs.Json.{◌⊕◌, string, values_tokens}
use Rattle.rtnl.proofs.json_lines.flags.push_bits.Given as goal

-- what is written and what the rest of the table gives are all names, and the rest stands for itself
abbrev pub invariant-loop-row : goal.invariant-loop-row
invariant-loop-row l =
    (l.line ⊕ values_tokens (map string (names_set (map bit_view (drop l.row-index l.table)) l.number.0))
    ≡ l.initial.line ⊕ values_tokens (map string (names_set (map bit_view l.table) l.number.0)))
    × (are_unescaped (map bit_view (drop l.row-index l.table)) ≡ true)
