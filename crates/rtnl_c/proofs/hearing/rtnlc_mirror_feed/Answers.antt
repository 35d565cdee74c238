use Rattle.rtnl_c.proofs.Common.{subst, Mirrored, FeedsOne}
use Rattle.rtnl_c.proofs.Telling.{unmade_by, fed_by}
use Rattle.rtnl_c.proofs.hearing.rtnlc_mirror_feed.Goals as goal

pub returns-in-None : goal.returns-in-None
returns-in-None c = unmade_by c.args.bytes.now c.args.changes.now c.args.before.now c.args.handle.now.mirror c.take.new.self.mirror c.unheard.result c.in-None.ensures.taken c.unheard.ensures c.in-None.ensures.after

pub returns-in-Some : goal.returns-in-Some
returns-in-Some c =
    let h = c.feed-answer in let old = c.args.changes.now in let out = c.args.before.now in
    fed_by c.args.bytes.now old out c.in-Some.taken.value h.new.mirror c.args.handle.now.mirror c.of.result.mirror h.new.changes h.new.before h.result c.in-Some.ensures.taken
    (subst (λ (m : Mirrored). FeedsOne m c.args.bytes.now old out h.new.changes h.new.before h.result h.new.mirror) c.deref_mut.ensures.value h.ensures) c.of.ensures
