use Rattle.nl_frame.proofs.Common.{rules, ◌≡◌, ◌≤◌, ◌+◌, ◌++◌, ◌∷◌, ℕ, ℤ, List, [], append-nil, None, Option, ap, sym, ◌∙◌, length, arith, w32, cast_unsigned, to_z-of_z, LONGEST_CONTAINER, aligned, num, attr_item, with_padding, Order, OpenHead, BuilderTop, Built, grown, lacks, no_flags, order_of, over, parts_with}
use Rattle.std.specs.Option.{option_map}
use Rattle.nl_frame.proofs.Hops.{hop_put}
use Rattle.nl_frame.proofs.Tops.{lacks_behind}
use Rattle.nl_frame.proofs.building.top.BuilderTop.put_hop.Goals as goal

pub accept_attr-requires-clause-lacks : goal.accept_attr-requires-clause-lacks
accept_attr-requires-clause-lacks c =
    let b = over (parts_with c.args.self.now []) c.args.out.now in
    let head = c.hop_head-head.result in
    let eight : length head ≡ 8 = search rules in
    let n = 4 + (length c.args.bytes.now + 0) in
    let same : aligned n ≡ aligned (4 + length c.args.bytes.now) = ap (λ k. aligned (4 + k)) (omega arith) in
    lacks_behind b (over (parts_with c.accept.new.self []) c.accept.new.out) head c.in-Some.size (aligned n) c.in-Some.ensures.room (c.accept.ensures.built []) (omega (arith, eight, same, c.in-Some.ensures.value))

pub returns-clause-built : goal.returns-clause-built
returns-clause-built c = λ hs e.
    let b = over (parts_with c.args.self.now hs) c.args.out.now in
    let bs = c.args.bytes.now in
    let n = c.args.number in
    let head = c.hop_head-head.result in
    let size = 8 + aligned (4 + length bs) in
    let v : c.in-Some.size ≡ size = c.in-Some.ensures.value in
    let rest = c.args.flags ∷ c.args.hops ∷ num (cast_unsigned w32 c.args.ifindex) 4 (order_of b) in
    let begun : head ≡ num size 2 (order_of b) ++ rest =
    c.hop_head-head.ensures
    ∙ ap (λ (j : ℤ). num c.in-Some.size 2 c.order.result ++ (c.args.flags ∷ c.args.hops ∷ num (cast_unsigned w32 j) 4 c.order.result)) (to_z-of_z w32 c.args.ifindex c.ranges.ifindex)
    ∙ ap (λ (x : Order). num c.in-Some.size 2 x ++ (c.args.flags ∷ c.args.hops ∷ num (cast_unsigned w32 c.args.ifindex) 4 x)) c.order.ensures ∙ ap (λ k. num k 2 (order_of b) ++ rest) v in
    let place = ap (λ (h : Option OpenHead). option_map (λ (k : OpenHead). k.content) h) e ∙ c.in-Some.ensures.place in
    let room : lacks b size ≡ None = ap (λ k. lacks b k) (sym v) ∙ c.in-Some.ensures.room in
    let short : size ≤ LONGEST_CONTAINER = omega (arith, v, c.in-Some.ensures.size) in
    let attr = λ (x : Order) (ys : List ℕ). with_padding (attr_item x n no_flags ys) in
    c.accept_attr.ensures.built hs
    ∙ ap (λ (x : Built). grown x (attr c.accept.new.self.limits.shape.order (bs ++ []))) (c.accept.ensures.built hs)
    ∙ ap (λ (t : BuilderTop). grown (grown b head) (attr t.limits.shape.order (bs ++ []))) c.accept.ensures.rest
    ∙ ap (λ (ys : List ℕ). grown (grown b head) (attr (order_of b) ys)) (append-nil bs)
    ∙ hop_put b c.args.flags c.args.hops c.args.ifindex n bs place c.in-Some.ensures.none c.in-Some.ensures.held short room head begun
