use Rattle.rtnl.proofs.Common.{◌≡◌, ◌≤◌, ◌-◌, ◌*◌, length, map}
use Rattle.nl_values.specs.Numbers.{integer_of, size_of}
use Rattle.rtnl.specs.Data.{numbers_json, pieces}
use Rattle.rtnl.specs.Json.{◌⊕◌, signed, values_tokens}
use Rattle.rtnl.proofs.json_lines.data.leaves.push_numbers.Given as goal

-- what is written and what the other pieces give are all numbers, and there is room for them
abbrev pub invariant-loop-index : goal.invariant-loop-index
invariant-loop-index l =
    (l.line ⊕ values_tokens (map (λ piece. signed (integer_of l.number l.order piece)) (pieces l.size (l._index-end - l._index) l.left))
    ≡ l.initial.line ⊕ values_tokens (numbers_json l.order l.number l.bytes))
    × ((l._index-end - l._index) * l.size ≤ length l.left) × (l.size ≡ size_of l.number)
