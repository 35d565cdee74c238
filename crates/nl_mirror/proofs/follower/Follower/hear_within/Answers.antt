use Rattle.nl_mirror.proofs.Common.{◌≡◌, ◌||◌, subst, ap, ◌∙◌, message_view, end_in, item_in, Following, IsHeardBy, in_items, marks, within}
use Rattle.nl_mirror.proofs.Hearings.{follows, within_item}
use Rattle.nl_mirror.proofs.follower.Follower.hear_within.Goals as goal

pub returns-in-Item-clause-heard : goal.returns-in-Item-clause-heard
returns-in-Item-clause-heard g c =
    let item = g.T.FromBody.item in
    let at = c.self.inside in
    let v = message_view c.args.message in
    let e = end_in c.args.dump v in
    let i = item_in c.args.dump v in
    let r = c.item in
    let now : c.is_interrupted-now.result ≡ (at.interrupted || marks v) = c.is_interrupted-now.ensures ∙ ap (λ b. at.interrupted || b) c.is_marked.ensures in
    subst (λ (f : Following g.row.T.Denot). IsHeardBy r.result (in_items item f) (within e i (marks v) f.listening) (follows item g.T.FromBody.family at.dump c.is_interrupted-now.result at.asked r.new.self)) c.self.view_is
    (within_item item g.T.FromBody.family at.dump at.interrupted at.asked at.replica r.new.self r.result c.is_interrupted-now.result c.in-Item.entry e i (marks v) now
    c.in-Item.ensures.0 c.in-Item.ensures.1 r.ensures.ok r.ensures.err r.ensures.memory)
