use Rattle.nl_frame.proofs.Common.{◌≡◌, ◌≤◌, ◌+◌, ◌∷◌, ℕ, List, length, take, drop, Option, arith, ap, sym, subst, refl, ◌∙◌, IfSome, splice, OpenHead, Built, head_ended, over, parts_with}
use Rattle.nl_frame.proofs.Opens.{front_over, back_over}
use Rattle.nl_frame.proofs.Tops.{top_is}
use Rattle.nl_frame.proofs.building.top.BuilderTop.end_head.Goals as goal

pub returns-in-Some-clause-built : goal.returns-in-Some-clause-built
returns-in-Some-clause-built c = λ hs e.
    let s = c.args.self.now in
    let out = c.args.out.now in
    let new = c.put_at.new.out in
    let h = c.in-Some.head in
    let field = c.args.field.now in
    let t = h.start + length field in
    let all : hs ≡ h ∷ drop 1 hs = top_is hs h (e ∙ c.in-Some.is) in
    let at : h.start + 4 ≤ s.len = subst (λ (x : Option OpenHead). IfSome x (λ k. k.start + 4 ≤ s.len)) c.in-Some.is c.requires.inside in
    let inside : t ≤ s.len = omega (arith, at, c.requires.given) in
    let has : s.len ≤ length out = c.requires.fits in
    let fore : take s.len new ≡ splice (take s.len out) h.start t field = ap (take s.len) c.put_at.ensures ∙ front_over s.len h.start t out field refl inside has in
    let back : drop s.len new ≡ drop s.len out = ap (drop s.len) c.put_at.ensures ∙ back_over s.len h.start t out field refl inside has in
    let made : List ℕ → List ℕ → Built = λ f g. record { bounds = s.limits; front = f; free = g; heads = drop 1 hs; refusal = s.refusal } in
    ap (λ (f : List ℕ). made f (drop s.len new)) fore ∙ ap (made (splice (take s.len out) h.start t field)) back
    ∙ ap (λ (xs : List OpenHead). head_ended (over (parts_with s hs) out) xs field) (sym all)
