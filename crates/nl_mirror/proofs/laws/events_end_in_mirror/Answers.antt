use Rattle.nl_mirror.specs.Told.{key_by}
use Rattle.nl_mirror.proofs.Pasts.{events_end}
use Rattle.nl_mirror.proofs.laws.events_end_in_mirror.Goals as goal

pub returns : goal.returns
returns g c = events_end (key_by g.T.FromBody.item)
