use Rattle.nl_mirror.proofs.Common.{refl, key_by, mirror_key}
use Rattle.nl_mirror.proofs.Lifting.{moves_seen}
use Rattle.nl_mirror.proofs.laws.moves_are_seen.Goals as goal

pub returns : goal.returns
returns g c = λ o m e n s. moves_seen g.T.FromBody.item (key_by g.T.FromBody.item o) (mirror_key o) (λ x. refl) m e n s
