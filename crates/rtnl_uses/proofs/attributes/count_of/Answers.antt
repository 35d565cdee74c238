use Rattle.std.proofs.Common.{rules}
use Rattle.std.proofs.lemmas.Result.{err_from_is_err_and}
use Rattle.rtnl_uses.proofs.Walks.{counts_no_more, counts_one_more, ends_at_fault, stays_within}
use Rattle.rtnl_uses.proofs.attributes.count_of.Goals as goal

pub returns-in_err-part-clause-refused : goal.returns-in_err-part-clause-refused
returns-in_err-part-clause-refused c =
    let error = err_from_is_err_and c.from_residual.result c.from_residual.ensures.1 in
    let came = c.loop-part.invariant.2 in
    let fault = rw c.in_err-part.was at c.in-Some.ensures.steps in
    let drained = rw c.into_iter-part-iterator.ensures.into_iter_gives at (ends_at_fault _ _ _ _ c.in_err-part.field-0.0 c.loop-part.yielded_by fault) in
    rw (error.1, error.2) (came.0, rw came.1 at (c.of-part-items.ensures.walk _ drained))

pub loop-part-preserved-then-branch-number : goal.loop-part-preserved-then-branch-number
loop-part-preserved-then-branch-number c =
    (search rules, stays_within _ _ c.in_ok-part.field-0 _ (rw c.in_ok-part.was at c.in-Some.ensures.steps) c.loop-part.invariant.1, rw c.in_ok-part.was (counts_one_more _ _ _ _ c.if-branch-number.true c.loop-part.invariant.2))

pub loop-part-preserved : goal.loop-part-preserved
loop-part-preserved c =
    (search rules, stays_within _ _ c.in_ok-part.field-0 _ (rw c.in_ok-part.was at c.in-Some.ensures.steps) c.loop-part.invariant.1, rw c.in_ok-part.was (counts_no_more _ _ _ _ c.if-branch-number.false c.loop-part.invariant.2))
