use Rattle.std.proofs.Common.{◌≡◌, drop}
use Rattle.nl_values.specs.Rows.{case_of, is_kind}
use Rattle.nl_values.proofs.rows.case_in.Given as goal

-- the kind is sought in the cases that are left
abbrev pub invariant-loop-row : goal.invariant-loop-row
invariant-loop-row l = case_of l.of.other (is_kind l.of.kind l.text l.order l.bytes) (drop l.row-index l.cases) ≡ case_of l.of.other (is_kind l.of.kind l.text l.order l.bytes) l.fn.cases
