use Rattle.std.proofs.Common.{◌≡◌, ℤ, ap, sym, ◌∙◌, w32}
use Rattle.nl_frame.proofs.Common.{to_z-of_z, BuilderTop, over, parts_with}
use Rattle.nl_frame.specs.Building.{Built, open_hop, top}
use Rattle.nl_frame.specs.Calls as calls
use Rattle.nl_frame.proofs.Kept.{opened_accepted, opened_inside, opened_limit, opened_over, opened_refused, puts_by, where_ok}
use Rattle.nl_frame.proofs.building.Builder.open_hop.Goals as goal
use Rattle.nl_frame.proofs.building.Builder.open_hop.Goals.{After-open_hop-opened}

-- the innermost head is that of the parts
same_top : (c : After-open_hop-opened) → top c.args.self.now.heads ≡ c.as_top-top.result.head
same_top c = sym (ap (λ (x : BuilderTop). x.head) c.as_top-top.ensures.value)

pub keep_opened-requires-clause-limit : goal.keep_opened-requires-clause-limit
keep_opened-requires-clause-limit c = let o = c.open_hop-opened.ensures in opened_limit c.args.self.now _ _ c.as_top-top.ensures.value _ _ c.open_hop-opened.result o.opens o.fits

pub keep_opened-requires-clause-inside : goal.keep_opened-requires-clause-inside
keep_opened-requires-clause-inside c =
    let p = (goal.at.keep_opened-requires-clause-inside c).After-open_hop-opened in
    opened_inside c.args.self.now _ c.open_hop-opened.new.self c.as_top-top.ensures.value c.open_hop-opened.result (c.open_hop-opened.ensures.inside c.args.self.now.heads (same_top p)) c.as_top-top.ensures.parts

pub keep_opened-requires-clause-accepted : goal.keep_opened-requires-clause-accepted
keep_opened-requires-clause-accepted c = opened_accepted c.args.self.now _ _ c.as_top-top.ensures.value _ _ c.open_hop-opened.result c.open_hop-opened.ensures.opens

pub keep_opened-requires-clause-refused : goal.keep_opened-requires-clause-refused
keep_opened-requires-clause-refused c = opened_refused c.args.self.now _ _ c.as_top-top.ensures.value _ _ c.open_hop-opened.result c.open_hop-opened.ensures.opens

pub returns-clause-built : goal.returns-clause-built
returns-clause-built c =
    let p = (goal.at.returns-clause-built c).After-open_hop-opened in
    let o = c.open_hop-opened.ensures in
    opened_over c.args.self.now _ _ c.as_top-top.ensures.value _ _ _ c.open_hop-opened.result (λ (b : Built). open_hop b c.args.flags c.args.hops c.args.ifindex) o.opens c.keep_opened.ensures.kept (o.built c.args.self.now.heads (same_top p)
    ∙ ap (λ (z : ℤ). open_hop (over (parts_with c.as_top-top.result c.args.self.now.heads) c.args.out.now) c.args.flags c.args.hops z) (to_z-of_z w32 c.args.ifindex c.ranges.ifindex))

pub returns-clause-puts : goal.returns-clause-puts
returns-clause-puts c =
    where_ok _ _ _ c.keep_opened.ensures.answer (λ none d L h. puts_by (over c.args.self.now c.args.out.now) _ d (calls.open_hop c.args.flags c.args.hops c.args.ifindex) c.ranges.ifindex (returns-clause-built c) none h)
