use Rattle.std.proofs.Common.{◌≡◌, drop}
use Rattle.nl_values.specs.Rows.{label_of}
use Rattle.nl_values.proofs.rows.label_in.Given as goal

-- the number is sought in the rows that are left
abbrev pub invariant-loop-row : goal.invariant-loop-row
invariant-loop-row l = label_of (drop l.row-index l.rows) l.number ≡ label_of l.fn.rows l.number
