use Rattle.rtnl.proofs.Common.{◌≡◌, ◌≤◌, ◌+◌, ◌-◌, ◌*◌, ◌++◌, drop, flat_map, length, marks_in}
use Rattle.nl_values.specs.Known.{fields_of}
use Rattle.rtnl.specs.Data.{MOST_CHOSEN, parts_of, pieces}
use Rattle.rtnl.specs.Inside.{inside_marks, items_marks, struct_marks}
use Rattle.rtnl.proofs.bytes.inside.+inside.Given as goal

-- each level has a measure for each function on the way to the next level
abbrev pub decreases-push_sense : goal.decreases-push_sense
decreases-push_sense l = 8 * l.levels + 6

abbrev pub decreases-push_structs : goal.decreases-push_structs
decreases-push_structs l = 8 * l.levels + 5

abbrev pub decreases-push_headed : goal.decreases-push_headed
decreases-push_headed l = 8 * l.levels + 5

abbrev pub decreases-push_region : goal.decreases-push_region
decreases-push_region l = 8 * l.levels + 4

abbrev pub decreases-push_struct : goal.decreases-push_struct
decreases-push_struct l = 8 * l.levels + 4

abbrev pub decreases-push_field_at : goal.decreases-push_field_at
decreases-push_field_at l = 8 * l.levels + 3

abbrev pub decreases-push_item : goal.decreases-push_item
decreases-push_item l = 8 * l.levels + 2

abbrev pub decreases-push_field : goal.decreases-push_field
decreases-push_field l = 8 * l.levels + 2

abbrev pub decreases-push_inside : goal.decreases-push_inside
decreases-push_inside l = 8 * l.levels + 1

-- what was seen and the other fields are all fields
abbrev pub invariant-push_struct-loop-index : goal.invariant-push_struct-loop-index
invariant-push_struct-loop-index l =
    marks_in l.pieces.items ++ struct_marks (inside_marks l.scope.order l.scope.family.now l.levels) l.depth l.at (drop l.index (fields_of l.of)) l.bytes
    ≡ marks_in l.initial.pieces.items ++ struct_marks (inside_marks l.scope.order l.scope.family.now l.levels) l.depth 0 (fields_of l.of) l.bytes

-- what was seen and the other pieces are all structs, and there is room for them
abbrev pub invariant-push_structs-loop-index : goal.invariant-push_structs-loop-index
invariant-push_structs-loop-index l =
    (marks_in l.pieces.items
    ++ flat_map (struct_marks (inside_marks l.scope.order l.scope.family.now l.levels) l.depth 0 (fields_of l.of)) (pieces l.width (l._index-end - l._index) l.left)
    ≡ marks_in l.initial.pieces.items
    ++ flat_map (struct_marks (inside_marks l.scope.order l.scope.family.now l.levels) l.depth 0 (fields_of l.of)) (pieces l.width l._index-end l.bytes))
    × (length l.left ≤ length l.bytes)

-- what was seen and the other attributes are all attributes
abbrev pub invariant-push_region-loop-part : goal.invariant-push_region-loop-part
invariant-push_region-loop-part l =
    let order = l.fn.scope.order in
    let family = l.fn.scope.family.now in
    let all = parts_of order l.fn.region in
    let divides = inside_marks order family l.fn.levels in
    (l.part-iterator.order ≡ order) × (l.front ≤ 3)
    × (marks_in l.pieces.items ++ items_marks divides family (parts_of order l.fn.outer) all l.fn.set l.fn.depth l.left l.front l.size (parts_of order l.part-iterator.left)
    ≡ marks_in l.initial.pieces.items ++ items_marks divides family (parts_of order l.fn.outer) all l.fn.set l.fn.depth MOST_CHOSEN 0 (length l.fn.region) all)
