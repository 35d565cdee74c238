use Rattle.rtnl.proofs.Common.{◌≡◌, ◌++◌, drop, names_set, names_text, rest_text}
use Rattle.nl_values.specs.Known.{bits_of}
use Rattle.rtnl.proofs.text.flags.push_bits_of.Given as goal

-- what is written and what the rest of the bits gives is the whole text
abbrev pub invariant-loop-index : goal.invariant-loop-index
invariant-loop-index l =
    l.out.items ++ rest_text l.any (names_set (drop l.index (bits_of l.names)) l.number)
    ≡ l.initial.out.items ++ names_text (bits_of l.names) l.number
