use Rattle.rtnl.proofs.Common.{◌≡◌, ◌≤◌, ◌-◌, ◌*◌, length, map}
use Rattle.nl_values.specs.Numbers.{integer_of, size_of}
use Rattle.rtnl.specs.Data.{counters, numbers_json, pieces}
use Rattle.rtnl.specs.Json.{◌⊕◌, fields_tokens, signed}
use Rattle.rtnl.proofs.json_lines.data.leaves.push_places.Given as goal

-- what is written and what the other pieces give are all numbers, and there is room for them
abbrev pub invariant-loop-place : goal.invariant-loop-place
invariant-loop-place l =
    (l.line ⊕ fields_tokens (counters l.names l.place (map (λ piece. signed (integer_of l.number l.order piece)) (pieces l.size (l.place-end - l.place) l.left)))
    ≡ l.initial.line ⊕ fields_tokens (counters l.names 0 (numbers_json l.order l.number l.bytes)))
    × ((l.place-end - l.place) * l.size ≤ length l.left) × (l.size ≡ size_of l.number)
