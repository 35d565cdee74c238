use Rattle.rtnl.proofs.Common.{◌≡◌, ◌++◌, ◌∙◌, ap, err_from_is_err_and, end_text}
use Rattle.rtnl.proofs.FollowingDump.{wrote_all, wrote_none, wrote_part}
use Rattle.rtnl.proofs.runs.mirror.finish.Goals as goal

pub returns-in_err-push_end-clause-writes : goal.returns-in_err-push_end-clause-writes
returns-in_err-push_end-clause-writes g c =
    let s = c.args.settings.now in
    let end = end_text g.F.ReportFormat.report g.F.MirrorFormat.telling s.limits.shape.order s c.args.kept.now.mirror in
    let error = err_from_is_err_and c.from_residual.result c.from_residual.ensures.1 in
    rw (error.1, error.2) (wrote_none g.W.Sink.contents g.W.Sink.is_stalled g.W.Sink.stall_count g.W.Sink.failure_count end c.args.sink.now)

pub returns-in_err-push_end-clause-answer : goal.returns-in_err-push_end-clause-answer
returns-in_err-push_end-clause-answer g c =
    let error = err_from_is_err_and c.from_residual.result c.from_residual.ensures.1 in rw error.1 tt

pub returns-in_err-give_all-clause-writes : goal.returns-in_err-give_all-clause-writes
returns-in_err-give_all-clause-writes g c =
    let s = c.args.settings.now in
    let end = end_text g.F.ReportFormat.report g.F.MirrorFormat.telling s.limits.shape.order s c.args.kept.now.mirror in
    let last : c.as_slice.result.now ≡ end = c.as_slice.ensures.value ∙ c.in_ok-push_end.ensures ∙ ap (λ x. x ++ end) c.new-text.ensures.items in
    let part = c.in_err-give_all.ensures in
    let error = err_from_is_err_and c.from_residual-in_err-give_all.result c.from_residual-in_err-give_all.ensures.1 in
    rw (error.1, error.2)
    (wrote_part g.W.Sink.contents g.W.Sink.is_stalled g.W.Sink.stall_count g.W.Sink.failure_count end c.as_slice.result.now last c.args.sink.now c.give_all.new.sink _ part.error part.part part.once)

pub returns-in_err-give_all-clause-answer : goal.returns-in_err-give_all-clause-answer
returns-in_err-give_all-clause-answer g c =
    let error = err_from_is_err_and c.from_residual-in_err-give_all.result c.from_residual-in_err-give_all.ensures.1 in rw error.1 tt

pub returns-clause-writes : goal.returns-clause-writes
returns-clause-writes g c =
    let s = c.args.settings.now in
    let end = end_text g.F.ReportFormat.report g.F.MirrorFormat.telling s.limits.shape.order s c.args.kept.now.mirror in
    let last : c.as_slice.result.now ≡ end = c.as_slice.ensures.value ∙ c.in_ok-push_end.ensures ∙ ap (λ x. x ++ end) c.new-text.ensures.items in
    let all = c.in_ok-give_all.ensures in
    wrote_all g.W.Sink.contents g.W.Sink.is_stalled g.W.Sink.stall_count g.W.Sink.failure_count end c.as_slice.result.now last c.args.sink.now c.give_all.new.sink _ all.all all.sound all.steady

pub returns-clause-answer : goal.returns-clause-answer
returns-clause-answer g c =
    ap
    (λ current. record { counts = record c.args.counts { datagrams = c.args.kept.now.datagrams }; unbegun = c.args.kept.now.unbegun; current = current })
    c.is_current.ensures
