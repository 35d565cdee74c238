use Rattle.rtnl.proofs.runs.mirror.run_mirror.Goals as goal

pub returns : goal.returns
returns g c = c.run.ensures
