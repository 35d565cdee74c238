use Rattle.nl_frame.proofs.Common.{rules, ◌≡◌, [], length, ℕ, Option, arith, ap, sym, ◌∙◌, Order, OpenHead, attr_begun, held, levels_in, open_refusal_in, or_next, over, parts_with}
use Rattle.nl_frame.proofs.Tops.{attr_opened, attr_opened_as, has_opened, one_more_open}
use Rattle.nl_frame.proofs.building.top.BuilderTop.open_attr.Goals as goal

pub returns-in-Ok-clause-built : goal.returns-in-Ok-clause-built
returns-in-Ok-clause-built c = λ hs e n.
    let b = over (parts_with c.args.self.now hs) c.args.out.now in
    let is = c.held_behind-held.ensures ∙ ap (λ (x : Option OpenHead). held x c.args.number c.args.flags) (sym e) in
    let head = c.attr_head-head.ensures ∙ ap (λ (x : Order). attr_begun x c.args.number c.args.flags) c.order.ensures in
    let none = ap (λ (k : ℕ). or_next b.refusal (open_refusal_in b k c.held_behind-held.result)) n ∙ c.in-Ok.ensures.none hs in
    attr_opened b _ c.args.number c.args.flags c.held_behind-held.result c.in-Ok.content c.attr_head-head.result is c.in-Ok.ensures.held none head (c.open_head.ensures.built hs)

pub returns-in-Ok-clause-opened : goal.returns-in-Ok-clause-opened
returns-in-Ok-clause-opened c =
    let b = over (parts_with c.args.self.now []) c.args.out.now in
    let head = c.attr_head-head.ensures ∙ ap (λ (x : Order). attr_begun x c.args.number c.args.flags) c.order.ensures in
    attr_opened_as b _ c.args.number c.args.flags _ c.in-Ok.content c.attr_head-head.result (sym c.held_behind-held.ensures ∙ c.in-Ok.ensures.held) head (c.open_head.ensures.built [])

pub returns-in-Ok-clause-inside : goal.returns-in-Ok-clause-inside
returns-in-Ok-clause-inside c = λ hs e n o.
    let four : length c.attr_head-head.result ≡ 4 = search rules in
    let start = ap (λ (x : OpenHead). x.start) c.open_head.ensures.value in
    let which = ap (λ (x : OpenHead). levels_in x.content) c.open_head.ensures.value in
    let grows = c.open_head.ensures.grows in
    one_more_open _ _ _ c.open_head.result hs (omega (arith, start, grows, four)) (omega (arith, c.in-Ok.ensures.level, n, which)) (omega (arith, grows)) o

pub returns-in-Ok-clause-opens : goal.returns-in-Ok-clause-opens
returns-in-Ok-clause-opens c =
    let o = c.open_head.ensures in
    has_opened _ _ _ _ c.open_head.result c.in-Ok.content c.attr_head-head.result c.requires.fits o.fits (o.built []) o.rest c.in-Ok.ensures.first
