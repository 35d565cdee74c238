use Rattle.rtnl.proofs.Common.{refl, step_of}
use Rattle.rtnl.proofs.Mirrors.{finds_step}
use Rattle.rtnl.proofs.runs.mirror.TellMirrorPerLine.tell.Goals as goal

pub returns : goal.returns
returns g c =
    let step = step_of c.read_step.new.bytes.items c.in-Some.step in
    let is = rw c.in-Some.is at c.in_ok-step.ensures in
    let e = rw c.as_slice.ensures.value at c.in_ok-taken.ensures in
    let kinds = rw c.table_states-was.ensures at c.in_ok-push_all_table_states.ensures in
    let found =
    finds_step g.F.ReportFormat.report g.F.MirrorFormat.telling c.args.self.now.settings c.args.kept.now c.take_step.new.kept step
    c.args.out.now.items c.take_step.new.out.items c.push_all_table_states.new.out.items c.in_ok-taken.taken e.0 e.1 e.2 e.3 e.4 kinds e.5 in
    (step, found.0, is, found.1, found.2, found.3, refl)
