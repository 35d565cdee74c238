use Rattle.nl_frame.proofs.Common.{◌≡◌, ◌∷◌, length, arith, ap, ◌∙◌, length-take, OpenHead, Built, grown, over, parts_with}
use Rattle.nl_frame.proofs.building.top.BuilderTop.open_head.Goals as goal

pub returns-clause-built : goal.returns-clause-built
returns-clause-built c = λ hs.
    let t = c.args.self.now in
    let b = over (parts_with t hs) c.args.out.now in
    let h : OpenHead = record { start = t.len; content = c.args.content } in
    let at : t.len ≡ length b.front = omega (arith, length-take t.len c.args.out.now, c.requires.fits.0) in
    ap (λ (x : Built). record x { heads = h ∷ hs }) (c.accept.ensures.built hs)
    ∙ ap (λ k. record (grown b c.args.head.now) { heads = record { start = k; content = c.args.content } ∷ hs }) at
