use Rattle.rtnl.proofs.Common.{◌≡◌, ◌++◌, ◌∙◌, refl, ap, inl, inr, err_from_is_err_and, ending_at}
use Rattle.rtnl.specs.declared.ending.Ending.{Ending}
use Rattle.rtnl.proofs.FollowingDump.{wrote_all, wrote_none, wrote_part}
use Rattle.rtnl.proofs.runs.follow_dump.follow_dump.Goals as goal

pub returns-in_err-counts : goal.returns-in_err-counts
returns-in_err-counts g c =
    let t = g.F.ReportFormat.report in
    let front : c.as_slice.result.now ≡ t.front c.args.dump = c.as_slice.ensures.value ∙ c.in_ok-push_front.ensures ∙ ap (λ x. x ++ t.front c.args.dump) c.new-text.ensures.items in
    let written = c.in_ok-give_all.ensures in
    let told = rw (c.in_err-counts.was, c.order.ensures) at c.follow.ensures in
    let error = err_from_is_err_and c.from_residual-in_err-counts.result c.from_residual-in_err-counts.ensures.1 in
    rw (error.1, error.2)
    (inr
    (inl (
      _,
      refl,
      record {
        mid = c.give_all.new.sink;
        begun = c.begun-kept.result;
        last = c.follow.new.kept;
        front = wrote_all g.W.Sink.contents g.W.Sink.is_stalled g.W.Sink.stall_count g.W.Sink.failure_count (t.front c.args.dump) c.as_slice.result.now front c.args.sink.now c.give_all.new.sink tt written.all written.sound written.steady;
        start = c.begun-kept.ensures;
        told = told;
      },
    )))

pub returns-in_err-push_ending : goal.returns-in_err-push_ending
returns-in_err-push_ending g c =
    let t = g.F.ReportFormat.report in
    let front : c.as_slice.result.now ≡ t.front c.args.dump = c.as_slice.ensures.value ∙ c.in_ok-push_front.ensures ∙ ap (λ x. x ++ t.front c.args.dump) c.new-text.ensures.items in
    let written = c.in_ok-give_all.ensures in
    let told = rw (c.in_ok-counts.was, c.order.ensures) at c.follow.ensures in
    let error = err_from_is_err_and c.from_residual-in_err-push_ending.result c.from_residual-in_err-push_ending.ensures.1 in
    rw (error.1, error.2)
    (inr
    (inr (
    record {
      mid = c.give_all.new.sink;
      late = c.follow.new.sink;
      begun = c.begun-kept.result;
      last = c.follow.new.kept;
      counts = c.in_ok-counts.counts;
      front = wrote_all g.W.Sink.contents g.W.Sink.is_stalled g.W.Sink.stall_count g.W.Sink.failure_count (t.front c.args.dump) c.as_slice.result.now front c.args.sink.now c.give_all.new.sink tt written.all written.sound written.steady;
      start = c.begun-kept.ensures;
      told = told;
      ending = wrote_none g.W.Sink.contents g.W.Sink.is_stalled g.W.Sink.stall_count g.W.Sink.failure_count (t.ending c.args.dump (ending_at c.follow.new.kept)) c.follow.new.sink;
      answer = tt;
    }
    )))

pub returns-in_err-give_all-2 : goal.returns-in_err-give_all-2
returns-in_err-give_all-2 g c =
    let t = g.F.ReportFormat.report in
    let d = c.args.dump in
    let front : c.as_slice.result.now ≡ t.front d = c.as_slice.ensures.value ∙ c.in_ok-push_front.ensures ∙ ap (λ x. x ++ t.front d) c.new-text.ensures.items in
    let last : c.as_slice-2.result.now ≡ t.ending d (ending_at c.follow.new.kept) =
    c.as_slice-2.ensures.value ∙ c.in_ok-push_ending.ensures ∙ ap (λ x. x ++ t.ending d c.ending_of-ending.result) c.clear.ensures.items ∙ ap (t.ending d) c.ending_of-ending.ensures in
    let written = c.in_ok-give_all.ensures in
    let part = c.in_err-give_all-2.ensures in
    let told = rw (c.in_ok-counts.was, c.order.ensures) at c.follow.ensures in
    let error = err_from_is_err_and c.from_residual-in_err-give_all-2.result c.from_residual-in_err-give_all-2.ensures.1 in
    rw (error.1, error.2)
    (inr
    (inr (
    record {
      mid = c.give_all.new.sink;
      late = c.follow.new.sink;
      begun = c.begun-kept.result;
      last = c.follow.new.kept;
      counts = c.in_ok-counts.counts;
      front = wrote_all g.W.Sink.contents g.W.Sink.is_stalled g.W.Sink.stall_count g.W.Sink.failure_count (t.front d) c.as_slice.result.now front c.args.sink.now c.give_all.new.sink tt written.all written.sound written.steady;
      start = c.begun-kept.ensures;
      told = told;
      ending = wrote_part g.W.Sink.contents g.W.Sink.is_stalled g.W.Sink.stall_count g.W.Sink.failure_count (t.ending d (ending_at c.follow.new.kept)) c.as_slice-2.result.now last c.follow.new.sink c.give_all-2.new.sink _ part.error part.part part.once;
      answer = tt;
    }
    )))

pub returns : goal.returns
returns g c =
    let t = g.F.ReportFormat.report in
    let d = c.args.dump in
    let front : c.as_slice.result.now ≡ t.front d = c.as_slice.ensures.value ∙ c.in_ok-push_front.ensures ∙ ap (λ x. x ++ t.front d) c.new-text.ensures.items in
    let last : c.as_slice-2.result.now ≡ t.ending d (ending_at c.follow.new.kept) =
    c.as_slice-2.ensures.value ∙ c.in_ok-push_ending.ensures ∙ ap (λ x. x ++ t.ending d c.ending_of-ending.result) c.clear.ensures.items ∙ ap (t.ending d) c.ending_of-ending.ensures in
    let written = c.in_ok-give_all.ensures in
    let all = c.in_ok-give_all-2.ensures in
    let told = rw (c.in_ok-counts.was, c.order.ensures) at c.follow.ensures in
    inr
    (inr (
    record {
      mid = c.give_all.new.sink;
      late = c.follow.new.sink;
      begun = c.begun-kept.result;
      last = c.follow.new.kept;
      counts = c.in_ok-counts.counts;
      front = wrote_all g.W.Sink.contents g.W.Sink.is_stalled g.W.Sink.stall_count g.W.Sink.failure_count (t.front d) c.as_slice.result.now front c.args.sink.now c.give_all.new.sink tt written.all written.sound written.steady;
      start = c.begun-kept.ensures;
      told = told;
      ending = wrote_all g.W.Sink.contents g.W.Sink.is_stalled g.W.Sink.stall_count g.W.Sink.failure_count (t.ending d (ending_at c.follow.new.kept)) c.as_slice-2.result.now last c.follow.new.sink c.give_all-2.new.sink _ all.all all.sound all.steady;
      answer = ap (λ (x : Ending). record { counts = c.in_ok-counts.counts; complete = x.complete }) c.ending_of-ending.ensures;
    }
    ))
