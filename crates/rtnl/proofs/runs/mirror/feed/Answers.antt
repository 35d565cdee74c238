use Rattle.rtnl.proofs.Common.{◌≡◌, ◌++◌, ◌∙◌, map, refl, sym, ap, message_view, heard, refused}
use Rattle.nl_dump.specs.Codes.{read_error}
use Rattle.rtnl.proofs.Showing.{answers_messages, refuses}
use Rattle.rtnl.proofs.runs.mirror.feed.Goals as goal

pub returns-in_ok-hear_all-in-Ok : goal.returns-in_ok-hear_all-in-Ok
returns-in_ok-hear_all-in-Ok g c =
    let all = c.in_ok-hear_all-in-Ok.ensures in
    let d = c.args.datagram.now in
    let b = c.args.settings.now.limits in (
      heard all.0,
      (map message_view c.in-Ok.messages.items, answers_messages b d c.read_datagram.result.result c.read_datagram.ensures.large c.in-Ok.messages (sym c.into_result.ensures ∙ c.in-Ok.is) c.read_datagram.ensures.fits, all.1),
      all.2,
      refl,
      refl,
    )

pub returns-in_ok-push_refusal-in-Err : goal.returns-in_ok-push_refusal-in-Err
returns-in_ok-push_refusal-in-Err g c =
    let d = c.args.datagram.now in
    let b = c.args.settings.now.limits in
    let e = c.in-Err.error in
    let told = c.in_ok-push_refusal-in-Err.ensures in
    let same : c.into.result ≡ read_error e = c.into.ensures in (
      refused e,
      (refuses b d c.read_datagram.result.result c.read_datagram.ensures.large e (sym c.into_result.ensures ∙ c.in-Err.is) (λ is. told.refusal (same ∙ ap read_error is)) c.read_datagram.ensures.first, c.refused.ensures),
      told.text ∙ ap (λ x. c.args.out.now.items ++ g.F.ReportFormat.report.refusal c.args.number x) same,
      refl,
      refl,
    )
