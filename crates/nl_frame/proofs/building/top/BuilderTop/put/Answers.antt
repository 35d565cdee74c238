use Rattle.nl_frame.proofs.Common.{◌≡◌, ◌+◌, ◌++◌, ℕ, [], None, Option, length, ap, sym, ◌∙◌, length-append, attr_item, with_padding, OpenHead, BuildError, bytes_refusal, grown, held, or_next, order_of, settled, top, over, parts_with}
use Rattle.nl_frame.proofs.Tops.{same_refusal}
use Rattle.nl_frame.proofs.building.top.BuilderTop.put.Goals as goal

pub returns-clause-built : goal.returns-clause-built
returns-clause-built c = λ hs e.
    let b = over (parts_with c.args.self.now hs) c.args.out.now in
    let n = c.args.number in
    let f = c.args.flags in
    let bs = c.args.bytes.now ++ c.args.tail.now in
    let k = length c.args.bytes.now + length c.args.tail.now in
    let h = held c.args.self.now.head n f in
    let none : or_next b.refusal (bytes_refusal b (held (top hs) n f) (length bs)) ≡ None =
    ap (λ (x : Option OpenHead). or_next b.refusal (bytes_refusal b (held x n f) (length bs))) e
    ∙ ap (λ (m : ℕ). or_next b.refusal (bytes_refusal b h m)) (length-append c.args.bytes.now c.args.tail.now)
    ∙ ap (or_next b.refusal) (same_refusal b [] h k) ∙ sym c.bytes_refusal.ensures ∙ c.in_default.is in
    c.accept_attr.ensures.built hs ∙ sym (ap (λ (r : Option BuildError). settled b r (grown b (with_padding (attr_item (order_of b) n f bs)))) none)
