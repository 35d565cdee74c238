use Rattle.nl_mirror.proofs.Common.{None, subst, Following, IsHeardBy, in_items, ending}
use Rattle.nl_mirror.proofs.Hearings.{follows, ended}
use Rattle.nl_mirror.proofs.follower.Follower.hear_end.Goals as goal

pub returns-clause-heard : goal.returns-clause-heard
returns-clause-heard g c =
    let item = g.T.FromBody.item in
    let at = c.self.inside in
    let r = c.end_in_doubt in
    subst (λ (f : Following g.row.T.Denot). IsHeardBy r.result (in_items item f) (ending c.args.end c.args.interrupted f.listening) (follows item g.T.FromBody.family None at.interrupted at.asked r.new.self)) c.self.view_is
    (ended item g.T.FromBody.family at.dump at.interrupted at.asked at.replica r.new.self r.result c.args.end c.args.interrupted
    c.ends_whole.result c.lost_by.result c.ends_whole.ensures c.lost_by.ensures r.ensures.ok r.ensures.err r.ensures.memory)
