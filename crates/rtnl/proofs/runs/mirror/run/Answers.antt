use Rattle.rtnl.proofs.Common.{refl, inl, inr, ap, Err, ◌∙◌, err_from_is_err_and}
use Rattle.rtnl.proofs.runs.mirror.run.Goals as goal

pub returns-in_err-kept : goal.returns-in_err-kept
returns-in_err-kept g c =
    let error = err_from_is_err_and c.from_residual.result c.from_residual.ensures.1 in
    inl (record { memory = error.1 ∙ ap Err error.2; unread = refl; unwritten = refl; unheard = refl })

pub returns : goal.returns
returns g c = inr (record { begun = c.in_ok-kept.kept; last = c.keep.new.kept; start = c.in_ok-kept.ensures; keeps = c.keep.ensures })
