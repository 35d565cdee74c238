use Rattle.std.proofs.Common.{◌≢◌, ◌<◌, ℕ, slice_index_or}
use Rattle.nl_route.specs.declared.family.Family.{Family}
use Rattle.nl_route.specs.Families.{name_of}
use Rattle.nl_route.proofs.family.FamilyFromStr.from_str.Given as goal

abbrev pub invariant-loop-family : goal.invariant-loop-family
invariant-loop-family l = (k : ℕ) (d : Family) → k < l.family-index → name_of (slice_index_or l.family-items k d) ≢ l.name
