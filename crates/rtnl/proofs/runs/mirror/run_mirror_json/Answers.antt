use Rattle.rtnl.proofs.runs.mirror.run_mirror_json.Goals as goal

pub returns : goal.returns
returns g c = c.run.ensures
