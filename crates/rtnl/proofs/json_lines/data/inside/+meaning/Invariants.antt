use Rattle.rtnl.proofs.Common.{◌≡◌, ◌≤◌, ◌+◌, ◌-◌, ◌*◌, drop, length, map}
use Rattle.nl_values.specs.Known.{fields_of}
use Rattle.rtnl.specs.Data.{MOST_CHOSEN, data_json, parts_json, parts_of, pieces, struct_json}
use Rattle.rtnl.specs.Json.{◌⊕◌, fields_tokens, object, values_tokens}
use Rattle.rtnl.proofs.json_lines.data.inside.+meaning.Given as goal

-- each level has a measure for each function on the way to the next level
abbrev pub decreases-push_meaning : goal.decreases-push_meaning
decreases-push_meaning l = 8 * l.inner + 7

abbrev pub decreases-push_structs : goal.decreases-push_structs
decreases-push_structs l = 8 * l.levels + 6

abbrev pub decreases-push_headed : goal.decreases-push_headed
decreases-push_headed l = 8 * l.levels + 6

abbrev pub decreases-push_list : goal.decreases-push_list
decreases-push_list l = 8 * l.levels + 5

abbrev pub decreases-push_struct : goal.decreases-push_struct
decreases-push_struct l = 8 * l.levels + 5

abbrev pub decreases-push_fields : goal.decreases-push_fields
decreases-push_fields l = 8 * l.levels + 4

abbrev pub decreases-push_attr : goal.decreases-push_attr
decreases-push_attr l = 8 * l.levels + 4

abbrev pub decreases-push_field_at : goal.decreases-push_field_at
decreases-push_field_at l = 8 * l.levels + 3

abbrev pub decreases-push_held : goal.decreases-push_held
decreases-push_held l = 8 * l.levels + 3

abbrev pub decreases-push_field : goal.decreases-push_field
decreases-push_field l = 8 * l.levels + 2

-- what is written and what the other fields give are all fields
abbrev pub invariant-push_fields-loop-index : goal.invariant-push_fields-loop-index
invariant-push_fields-loop-index l =
    l.line ⊕ fields_tokens (struct_json (data_json l.scope.order l.scope.family.now l.levels) (drop l.index (fields_of l.of)) l.bytes)
    ≡ l.initial.line ⊕ fields_tokens (struct_json (data_json l.scope.order l.scope.family.now l.levels) (fields_of l.of) l.bytes)

-- what is written and what the other pieces give are all structs, and there is room for them
abbrev pub invariant-push_structs-loop-index : goal.invariant-push_structs-loop-index
invariant-push_structs-loop-index l =
    (l.line ⊕ values_tokens (map (λ piece. object (struct_json (data_json l.scope.order l.scope.family.now l.levels) (fields_of l.of) piece)) (pieces l.width (l._index-end - l._index) l.left))
    ≡ l.initial.line ⊕ values_tokens (map (λ piece. object (struct_json (data_json l.scope.order l.scope.family.now l.levels) (fields_of l.of) piece)) (pieces l.width l._index-end l.bytes)))
    × ((l._index-end - l._index) * l.width ≤ length l.left)

-- what is written and what the other attributes give are all attributes
abbrev pub invariant-push_list-loop-part : goal.invariant-push_list-loop-part
invariant-push_list-loop-part l =
    let order = l.fn.scope.order in
    let family = l.fn.scope.family.now in
    let all = parts_of order l.fn.region in
    (l.part-iterator.order ≡ order)
    × (l.line ⊕ values_tokens (parts_json (data_json order family l.fn.levels) family (parts_of order l.fn.outer) all l.fn.set l.left (parts_of order l.part-iterator.left))
    ≡ l.initial.line ⊕ values_tokens (parts_json (data_json order family l.fn.levels) family (parts_of order l.fn.outer) all l.fn.set MOST_CHOSEN all))
