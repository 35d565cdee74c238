use Rattle.nl_frame.proofs.Common.{◌≡◌, ◌≤◌, ◌+◌, ◌-◌, ◌∷◌, ◌++◌, ℕ, [], List, length, take, replicate, arith, ap, refl, sym, ◌∙◌, length-append, Order, aligned, with_padding, length-written, header_fields, Built, grown, over, parts_with}
use Rattle.nl_route.specs.Fields as fields
use Rattle.nl_frame.proofs.Opens.{grown_twice, few_zeros}
use Rattle.nl_frame.proofs.building.top.BuilderTop.accept_message.Goals as goal

pub returns-clause-built : goal.returns-clause-built
returns-clause-built c = λ hs.
    let b = over (parts_with c.args.self.now hs) c.args.out.now in
    let n = c.args.header.len in
    let front = c.bytes-front.result in
    let body = c.args.body.now in
    let it = front ++ body in
    let sixteen : length front ≡ 16 = ap (length {A = ℕ}) c.bytes-front.ensures ∙ length-written c.order.result (header_fields c.args.header) in
    let len : n ≡ length it = c.requires.len ∙ sym (length-append front body ∙ ap (λ k. k + length body) sixteen) in
    let pad = take (c.align4.result - n) (0 ∷ 0 ∷ 0 ∷ []) in
    let few : c.align4.result - n ≤ 3 = omega (arith, c.align4.ensures) in
    let zeros = few_zeros (c.align4.result - n) (0 ∷ 0 ∷ 0 ∷ []) few refl ∙ ap (λ k. replicate (k - n) 0) c.align4.ensures ∙ ap (λ k. replicate (aligned k - k) 0) len in
    let is = c.bytes-front.ensures ∙ ap (λ (x : Order). fields.written x (header_fields c.args.header)) c.order.ensures in
    let two = c.accept-2.ensures.built hs ∙ ap (λ (x : Built). grown x body) (c.accept.ensures.built hs) ∙ grown_twice b front body in
    c.pad.ensures.built hs ∙ ap (λ (x : Built). grown x pad) two ∙ grown_twice b it pad
    ∙ ap (λ (xs : List ℕ). grown b (it ++ xs)) zeros
    ∙ ap (λ (xs : List ℕ). grown b (with_padding (xs ++ body))) is
