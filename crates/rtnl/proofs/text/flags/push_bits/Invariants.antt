use Rattle.rtnl.proofs.Common.{◌≡◌, ◌++◌, map, drop, bit_view, names_set, names_text, rest_text}
use Rattle.rtnl.proofs.text.flags.push_bits.Given as goal

-- what is written and what the rest of the table gives is the whole text
abbrev pub invariant-loop-row : goal.invariant-loop-row
invariant-loop-row l =
    l.out.items ++ rest_text l.any (names_set (map bit_view (drop l.row-index l.table)) l.number.0)
    ≡ l.initial.out.items ++ names_text (map bit_view l.table) l.number.0
