use Rattle.std.proofs.Common.{rules, List, ℤ, ◌≡◌, ◌≤◌, [], length, None, Option, w32, arith, ap, sym, ◌∙◌}
use Rattle.nl_frame.proofs.Common.{to_z-of_z, Order, Route, OpenHead, hop_begun, hop_refusal, lacks, levels_in, opened, or_next, order_of, over, parts_with}
use Rattle.nl_attr.specs.declared.tree.Content.TheVariants as content
use Rattle.nl_frame.proofs.Puts.{neither}
use Rattle.nl_frame.proofs.Tops.{goes_as, has_opened, hops_levels, one_more_open}
use Rattle.nl_frame.proofs.building.top.BuilderTop.open_hop.Goals as goal
use Rattle.nl_frame.proofs.building.top.BuilderTop.open_hop.Goals.{After-hop_head-head}

-- the call is not refused
goes : (c : After-hop_head-head) (hs : List OpenHead) → or_next c.args.self.now.refusal (hop_refusal (over (parts_with c.args.self.now hs) c.args.out.now) c.args.self.now.head) ≡ None
goes c hs = sym (c.hop_refusal.ensures.value hs) ∙ c.in_default.is

pub open_head-requires-clause-lacks : goal.open_head-requires-clause-lacks
open_head-requires-clause-lacks c =
    let eight : length c.hop_head-head.result ≡ 8 = search rules in
    ap (lacks (over (parts_with c.args.self.now []) c.args.out.now)) eight ∙ c.in_default.ensures.room

pub returns-clause-built : goal.returns-clause-built
returns-clause-built c = λ hs e.
    let p = (goal.at.returns-clause-built c).After-hop_head-head in
    let b = over (parts_with c.args.self.now hs) c.args.out.now in
    let head = c.hop_head-head.ensures ∙ ap (λ (z : ℤ). hop_begun c.order.result c.args.flags c.args.hops z) (to_z-of_z w32 c.args.ifindex c.ranges.ifindex) ∙ ap (λ (x : Order). hop_begun x c.args.flags c.args.hops c.args.ifindex) c.order.ensures in
    let none = ap (λ (x : Option OpenHead). or_next b.refusal (hop_refusal b x)) e ∙ goes p hs in
    goes_as b _ (opened b (content.List Route) (hop_begun (order_of b) c.args.flags c.args.hops c.args.ifindex)) _ none (c.open_head.ensures.built hs ∙ ap (opened b (content.List Route)) head)

pub returns-clause-inside : goal.returns-clause-inside
returns-clause-inside c = λ hs e o.
    let p = (goal.at.returns-clause-inside c).After-hop_head-head in
    let eight : length c.hop_head-head.result ≡ 8 = search rules in
    let start = ap (λ (x : OpenHead). x.start) c.open_head.ensures.value in
    let which = ap (λ (x : OpenHead). levels_in x.content) c.open_head.ensures.value in
    let grows = c.open_head.ensures.grows in
    let level : length hs ≤ c.args.self.now.limits.shape.depth = hops_levels (over (parts_with c.args.self.now hs) c.args.out.now) _ c.args.self.now.len c.args.self.now.head hs (neither c.args.self.now.refusal _ (goes p hs)).1 e o in
    one_more_open _ _ _ c.open_head.result hs (omega (arith, start, grows, eight)) (omega (arith, level, which)) (omega (arith, grows)) o

pub returns-clause-opens : goal.returns-clause-opens
returns-clause-opens c =
    let p = (goal.at.returns-clause-opens c).After-hop_head-head in
    let o = c.open_head.ensures in
    has_opened _ _ _ _ c.open_head.result (content.List Route) c.hop_head-head.result c.requires.fits o.fits (o.built []) o.rest (neither _ _ (goes p [])).0
