use Rattle.rtnl.proofs.Common.{refl, inl, inr, err_from_is_err_and}
use Rattle.rtnl.proofs.runs.mirror.keep.Goals as goal

pub returns-in_err-counts : goal.returns-in_err-counts
returns-in_err-counts g c =
    let told = rw c.in_err-counts.was at c.follow.ensures in
    let error = err_from_is_err_and c.from_residual.result c.from_residual.ensures.1 in
    rw (error.1, error.2) (inl (_, refl, told))

pub returns : goal.returns
returns g c =
    let told = rw c.in_ok-counts.was at c.follow.ensures in
    inr
    (record {
      late = c.follow.new.sink;
      counts = c.in_ok-counts.counts;
      told = told;
      ending = c.finish.ensures.writes;
      answer = c.finish.ensures.answer;
    })
