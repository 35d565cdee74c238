use Rattle.nl_mirror.proofs.Common.{Some, false, subst, Following, IsHeardBy, in_items, asks}
use Rattle.nl_mirror.proofs.Hearings.{follows, begun}
use Rattle.nl_mirror.proofs.follower.Follower.begin.Goals as goal

pub returns-clause-heard : goal.returns-clause-heard
returns-clause-heard g c =
    let item = g.T.FromBody.item in
    let at = c.self.inside in
    let r = c.begin in
    subst (λ (f : Following g.row.T.Denot). IsHeardBy r.result (in_items item f) (asks f.listening c.args.dump) (follows item g.T.FromBody.family (Some c.args.dump) false c.args.dump.family r.new.self)) c.self.view_is
    (begun item g.T.FromBody.family at.dump at.interrupted at.asked at.replica r.new.self r.result c.args.dump c.renewal-loss.result c.self.invariant.0 c.renewal-loss.ensures r.ensures.ok r.ensures.err r.ensures.memory)
