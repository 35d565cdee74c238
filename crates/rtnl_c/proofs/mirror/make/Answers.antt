use Rattle.rtnl_c.specs.Mirrors.{makes, refused}
use Rattle.rtnl_c.proofs.mirror.make.Goals as goal

pub returns-in_default : goal.returns-in_default
returns-in_default c = rw (c.requires) refused

pub returns-in-Ok-new : goal.returns-in-Ok-new
returns-in-Ok-new c = rw (c.of.ensures, c.in-Ok-new.ensures.ok) (makes c.in-Ok.mirror c.in-Ok.ensures)

pub returns : goal.returns
returns c = rw (c.requires) refused
