use Rattle.nl_frame.proofs.Common.{◌++◌, ap, sym, BuilderTop, over}
use Rattle.nl_frame.specs.Building.{Built, put}
use Rattle.nl_frame.specs.Calls as calls
use Rattle.nl_frame.proofs.Kept.{put_over, puts_by, where_ok}
use Rattle.nl_frame.proofs.building.Builder.put_parts.Goals as goal

pub returns-clause-built : goal.returns-clause-built
returns-clause-built c =
    let v = c.as_top-top.ensures.value in
    let o = c.put-put.ensures in
    put_over c.args.self.now _ _ v _ _ _ (λ (b : Built). put b c.args.number c.args.flags (c.args.bytes.now ++ c.args.tail.now)) o.rest c.keep_put.ensures.kept (o.built c.args.self.now.heads (sym (ap (λ (x : BuilderTop). x.head) v)))

pub returns-clause-puts : goal.returns-clause-puts
returns-clause-puts c =
    where_ok _ _ _ c.keep_put.ensures.answer (λ none d L h. puts_by (over c.args.self.now c.args.out.now) _ d (calls.put c.args.number c.args.flags (c.args.bytes.now ++ c.args.tail.now)) tt (returns-clause-built c) none h)
