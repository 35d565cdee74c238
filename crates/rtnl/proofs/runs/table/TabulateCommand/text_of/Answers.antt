use Rattle.std.proofs.lemmas.Result.{IfOk-weaker}
use Rattle.rtnl.proofs.Feeding.{tables}
use Rattle.rtnl.proofs.runs.table.TabulateCommand.text_of.Goals as goal

pub returns : goal.returns
returns g c =
    let a = c.args in
    let s = c.in_ok-session in
    IfOk-weaker c.report_of.result _ _
    (λ p h. tables g.F.ReportFormat.report a.self.now.limits a.self.now.dump a.datagrams.now s._request s.ensures.0 s.session c.report_of.new.session p.0.items p.1 s.ensures.1 s.ensures.2 h)
    c.report_of.ensures
