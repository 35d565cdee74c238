use Rattle.rtnl.proofs.Common.{◌++◌, ◌-◌, ◌∙◌, ap, arith, drop, length, sym, ending_of, verdict_of}
use Rattle.std.proofs.lemmas.List.{drop_all, length-drop}
use Rattle.rtnl.proofs.Feeding.{report_text}
use Rattle.rtnl.proofs.runs.table.Tabulate.report_of.Goals as goal

pub returns : goal.returns
returns g c =
    let t = g.F.ReportFormat.report in
    let ds = c.args.datagrams.now in
    let d = c.args.self.now.dump in
    let ensured = c.in_ok-fed.ensures in
    let count = c.in_ok-fed.fed in
    let unfed = drop count ds in
    let v = c.feed_all.new.session in
    record {
      fed = ensured.2.0;
      unfed = unfed;
      feeds = ensured.2.1;
      all = λ w. drop_all count ds (omega (arith, ensured.1 w));
      text_is = report_text t d ensured.2.0 unfed v c.order-order.result c.args.self.now.limits.shape.order (length ds - count) c.new-out.result.items c.push_front.new.out.items c.reserve_text.new.out.items c.push_ending.new.out.items c.new-out.ensures.items c.in_ok-push_front.ensures (c.in_ok-reserve_text.ensures ∙ ensured.2.2)
          (c.in_ok-push_ending.ensures ∙ λ i. c.in_ok-push_table.ensures i ++ t.ending d ((c.ending_of-ending.ensures ∙ λ j. ending_of d (c.len.ensures j - count) v) i)) c.order-order.ensures (sym (length-drop count ds));
      verdict_is = c.verdict.ensures ∙ ap verdict_of c.complete.ensures;
    }
