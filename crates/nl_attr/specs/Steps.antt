-- What a step of a counted walk over attributes says, for its proof alone: no public clause cites
-- this file.
use Rattle.std.specs.Prelude.{Option, Some, None, Result, Ok, Err}
use Rattle.nl_attr.specs.declared.fault.Fault.{Fault}
use Rattle.nl_attr.specs.declared.walk.attrs.Part.{Part}
use Rattle.nl_attr.specs.declared.walk.counted.Step.{Step}
use Rattle.nl_attr.specs.declared.walk.counted.Step.TheVariants as step

-- what a walk gives that makes this step
abbrev pub given_by : Step → Option (Result Part Fault)
given_by step.Ends = None
given_by (step.Fails place reason) = Some (Err (record { place = place; reason = reason }))
given_by (step.Word p) = Some (Ok p)
given_by (step.Plain p) = Some (Ok p)
given_by (step.Flagged p) = Some (Ok p)
