use Rattle.std.proofs.Common.{◌≡◌, drop}
use Rattle.nl_values.specs.Rows.{rest_of}
use Rattle.nl_values.proofs.rows.rest_in.Given as goal

-- the rows that are left take their bits away
abbrev pub invariant-loop-row : goal.invariant-loop-row
invariant-loop-row l = rest_of (drop l.row-index l.rows) l.left ≡ rest_of l.fn.rows l.number
