use Rattle.rtnl.proofs.Common.{◌≡◌, ◌++◌, drop, map, fields, marks_in, field_view}
use Rattle.rtnl.proofs.bytes.parts.push_fields.Given as goal

-- what was said and what is left give the whole
abbrev pub invariant-loop-name : goal.invariant-loop-name
invariant-loop-name l =
    marks_in l.pieces.items ++ fields l.depth (map field_view (drop l.name-index l.fields))
    ≡ marks_in l.initial.pieces.items ++ fields l.depth (map field_view l.fields)
