use Rattle.nl_frame.proofs.Common.{rules, ◌≡◌, ◌≤◌, ◌+◌, ◌-◌, ◌∷◌, ◌++◌, [], length, take, replicate, arith, ap, refl, sym, ◌∙◌, append_assoc, length-append, Order, aligned, num, kind_number, Built, grown, order_of, over, parts_with}
use Rattle.nl_frame.proofs.Tops.{lacks_behind}
use Rattle.nl_frame.proofs.Opens.{attr_parts, grown_twice, few_zeros}
use Rattle.nl_frame.proofs.building.top.BuilderTop.accept_attr.Goals as goal

pub returns-clause-built : goal.returns-clause-built
returns-clause-built c = λ hs.
    let b = over (parts_with c.args.self.now hs) c.args.out.now in
    let head = c.attr_head-head.result in
    let bytes = c.args.bytes.now in
    let tail = c.args.tail.now in
    let bs = bytes ++ tail in
    let n = 4 + (length bytes + length tail) in
    let len : n ≡ 4 + length bs = ap (λ k. 4 + k) (sym (length-append bytes tail)) in
    let pad = take (c.align4.result - n) (0 ∷ 0 ∷ 0 ∷ []) in
    let few : c.align4.result - n ≤ 3 = omega (arith, c.align4.ensures) in
    let zeros = few_zeros (c.align4.result - n) (0 ∷ 0 ∷ 0 ∷ []) few refl ∙ ap (λ k. replicate (k - n) 0) c.align4.ensures ∙ ap (λ k. replicate (aligned k - k) 0) len in
    let begun = c.attr_head-head.ensures ∙ ap (λ (x : Order). num n 2 x ++ num (kind_number c.args.number c.args.flags) 2 x) c.order.ensures ∙ ap (λ k. num k 2 (order_of b) ++ num (kind_number c.args.number c.args.flags) 2 (order_of b)) len in
    let two = c.accept-2.ensures.built hs ∙ ap (λ (x : Built). grown x bytes) (c.accept.ensures.built hs) ∙ grown_twice b head bytes in
    let three = c.accept-3.ensures.built hs ∙ ap (λ (x : Built). grown x tail) two ∙ grown_twice b (head ++ bytes) tail ∙ ap (grown b) (append_assoc head bytes tail) in
    c.pad.ensures.built hs ∙ ap (λ (x : Built). grown x pad) three ∙ grown_twice b (head ++ bs) pad ∙ ap (grown b) (attr_parts (order_of b) c.args.number c.args.flags bs head pad begun zeros)

pub accept-requires-2-clause-lacks : goal.accept-requires-2-clause-lacks
accept-requires-2-clause-lacks c =
    let b = over (parts_with c.args.self.now []) c.args.out.now in
    let head = c.attr_head-head.result in
    let n = 4 + (length c.args.bytes.now + length c.args.tail.now) in
    let four : length head ≡ 4 = search rules in
    lacks_behind b (over (parts_with c.accept.new.self []) c.accept.new.out) head (aligned n) (length c.args.bytes.now) c.requires.lacks (c.accept.ensures.built []) (omega (arith, four))

pub accept-requires-3-clause-lacks : goal.accept-requires-3-clause-lacks
accept-requires-3-clause-lacks c =
    let b = over (parts_with c.args.self.now []) c.args.out.now in
    let head = c.attr_head-head.result in
    let bytes = c.args.bytes.now in
    let n = 4 + (length bytes + length c.args.tail.now) in
    let four : length head ≡ 4 = search rules in
    let two = c.accept-2.ensures.built [] ∙ ap (λ (x : Built). grown x bytes) (c.accept.ensures.built []) ∙ grown_twice b head bytes in
    lacks_behind b (over (parts_with c.accept-2.new.self []) c.accept-2.new.out) (head ++ bytes) (aligned n) (length c.args.tail.now) c.requires.lacks two (omega (arith, four, length-append head bytes))

pub pad-requires-clause-lacks : goal.pad-requires-clause-lacks
pad-requires-clause-lacks c =
    let b = over (parts_with c.args.self.now []) c.args.out.now in
    let head = c.attr_head-head.result in
    let bytes = c.args.bytes.now in
    let tail = c.args.tail.now in
    let n = 4 + (length bytes + length tail) in
    let four : length head ≡ 4 = search rules in
    let two = c.accept-2.ensures.built [] ∙ ap (λ (x : Built). grown x bytes) (c.accept.ensures.built []) ∙ grown_twice b head bytes in
    let three = c.accept-3.ensures.built [] ∙ ap (λ (x : Built). grown x tail) two ∙ grown_twice b (head ++ bytes) tail in
    lacks_behind b (over (parts_with c.accept-3.new.self []) c.accept-3.new.out) ((head ++ bytes) ++ tail) (aligned n) (c.align4.result - n) c.requires.lacks three (omega (arith, four, length-append head bytes, length-append (head ++ bytes) tail, c.align4.ensures))
