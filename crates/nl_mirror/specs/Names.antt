-- The names of the reasons.
use Rattle.std.specs.Prelude.{ℕ, List, codes}
use Rattle.nl_mirror.specs.declared.stale.Stale.{Stale}
use Rattle.nl_mirror.specs.declared.stale.Stale.TheVariants.{NeverDumped, Lost, Refused, Memory, Waiting, Silent, Unnamed, Full}

abbrev pub stale_name : Stale → List ℕ
stale_name NeverDumped = codes "never dumped"
stale_name Lost = codes "lost"
stale_name Refused = codes "refused"
stale_name Memory = codes "memory"
stale_name Waiting = codes "waiting"
stale_name Silent = codes "silent"
stale_name Unnamed = codes "unnamed"
stale_name Full = codes "full"
