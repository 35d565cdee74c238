use Rattle.nl_frame.proofs.Common.{◌≡◌, ap, sym, ◌∙◌, BuilderTop, any_head, Parts, over}
use Rattle.nl_frame.specs.Building.{Built, begin, top}
use Rattle.nl_frame.specs.Calls as calls
use Rattle.nl_frame.proofs.Kept.{if_opened, opened_accepted, opened_inside, opened_limit, opened_over, opened_refused, puts_by, where_ok}
use Rattle.nl_frame.proofs.building.Builder.begin.Goals as goal
use Rattle.nl_frame.proofs.building.Builder.begin.Goals.{After-begin-opened}

-- the innermost head is that of the parts
same_top : (c : After-begin-opened) → top c.args.self.now.heads ≡ c.as_top-top.result.head
same_top c = sym (ap (λ (x : BuilderTop). x.head) c.as_top-top.ensures.value)

pub keep_opened-requires-clause-limit : goal.keep_opened-requires-clause-limit
keep_opened-requires-clause-limit c = let o = c.begin-opened.ensures in opened_limit c.args.self.now _ _ c.as_top-top.ensures.value _ _ c.begin-opened.result o.opens o.fits

pub keep_opened-requires-clause-inside : goal.keep_opened-requires-clause-inside
keep_opened-requires-clause-inside c =
    let p = (goal.at.keep_opened-requires-clause-inside c).After-begin-opened in
    opened_inside c.args.self.now _ c.begin-opened.new.self c.as_top-top.ensures.value c.begin-opened.result (c.begin-opened.ensures.inside c.args.self.now.heads (same_top p)) c.as_top-top.ensures.parts

pub keep_opened-requires-clause-accepted : goal.keep_opened-requires-clause-accepted
keep_opened-requires-clause-accepted c = opened_accepted c.args.self.now _ _ c.as_top-top.ensures.value _ _ c.begin-opened.result c.begin-opened.ensures.opens

pub keep_opened-requires-clause-refused : goal.keep_opened-requires-clause-refused
keep_opened-requires-clause-refused c = opened_refused c.args.self.now _ _ c.as_top-top.ensures.value _ _ c.begin-opened.result c.begin-opened.ensures.opens

pub returns-clause-built : goal.returns-clause-built
returns-clause-built c =
    let p = (goal.at.returns-clause-built c).After-begin-opened in
    let o = c.begin-opened.ensures in
    opened_over c.args.self.now _ _ c.as_top-top.ensures.value _ _ _ c.begin-opened.result (λ (b : Built). begin b c.args.kind c.args.flags c.args.seq c.args.port (any_head c.args.head.now)) o.opens c.keep_opened.ensures.kept (o.built c.args.self.now.heads (same_top p))

pub returns-clause-puts : goal.returns-clause-puts
returns-clause-puts c =
    let r = c.ranges in
    where_ok _ _ _ c.keep_opened.ensures.answer (λ none d L h. puts_by (over c.args.self.now c.args.out.now) _ d (calls.begin c.args.kind c.args.flags c.args.seq c.args.port (any_head c.args.head.now)) (r.kind.fits, r.flags.fits, r.seq.fits, r.port.fits, if_opened c.begin-opened.result _ (sym (ap (λ (x : Parts). x.refusal) c.keep_opened.ensures.kept) ∙ none) c.begin-opened.ensures.ranged) (returns-clause-built c) none h)
