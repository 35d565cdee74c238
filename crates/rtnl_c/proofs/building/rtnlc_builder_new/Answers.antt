use Rattle.rtnl_c.proofs.Common.{refl, subst, Bounds, new_parts}
use Rattle.rtnl_c.specs.Building.{IsKept}
use Rattle.rtnl_c.proofs.building.rtnlc_builder_new.Goals as goal

pub returns-in-Ok : goal.returns-in-Ok
returns-in-Ok c = (
  λ _. (refl, λ room. subst (λ (b : Bounds). IsKept c.keep_new.new.kept room (new_parts b)) c.in-Ok.ensures.1 (c.keep_new.ensures room)),
  λ none. absurd (none c.in-Ok.ensures.0),
)
