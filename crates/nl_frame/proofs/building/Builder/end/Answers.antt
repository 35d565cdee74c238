use Rattle.nl_frame.proofs.Common.{◌≡◌, ap, sym, BuilderTop, over}
use Rattle.nl_frame.specs.Building.{end, top}
use Rattle.nl_frame.specs.Calls as calls
use Rattle.nl_frame.proofs.Kept.{closed_over, puts_by, where_ok}
use Rattle.nl_frame.proofs.building.Builder.end.Goals as goal

pub returns-clause-built : goal.returns-clause-built
returns-clause-built c =
    let v = c.as_top.ensures.value in
    let hs = c.args.self.now.heads in
    let at : top hs ≡ c.as_top.result.head = sym (ap (λ (x : BuilderTop). x.head) v) in
    closed_over c.args.self.now _ c.as_top.result v _ _ c.end-refusal.result end c.keep_closed.ensures.kept (c.end-refusal.ensures.built hs at (sym c.count.ensures))

pub returns-clause-puts : goal.returns-clause-puts
returns-clause-puts c =
    where_ok _ _ _ c.keep_closed.ensures.answer (λ none d L h. puts_by (over c.args.self.now c.args.out.now) _ d calls.end tt (returns-clause-built c) none h)
