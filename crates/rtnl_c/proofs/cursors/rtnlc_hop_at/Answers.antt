use Rattle.std.proofs.Common.{◌≡◌, ◌≤◌, ◌<◌, ◌^◌, ◌∙◌, ℕ, List, length, drop, take, Option, Some, Result, Ok, ap, subst, arith, length-drop, length-take}
use Rattle.rtnl_c.proofs.Common.{Order, len_of, Fault, IsHopPart, StandsAt, LONGEST_REGION}
use Rattle.nl_attr.specs.declared.walk.hops.HopPart.{HopPart}
use Rattle.rtnl_c.proofs.cursors.rtnlc_hop_at.Goals as goal

-- the attributes of a next hop lie in the region
rest_small : (o : Order) (bytes : List ℕ) (place : ℕ) (found : Option (Result HopPart Fault)) (x : Result HopPart Fault) (p : HopPart) → StandsAt 8 IsHopPart o bytes place found → found ≡ Some x → x ≡ Ok p
    → length bytes ≤ LONGEST_REGION → length p.rest.now < 2 ^ 32
rest_small o bytes place found x p stands is part small =
    let s = subst (StandsAt 8 IsHopPart o bytes place) (is ∙ ap Some part) stands in
    let left = drop place bytes in
    let n = len_of o 2 left in
    omega (arith, small, ap (length {A = ℕ}) s.2.rest, length-drop 8 (take n left), length-take n left, length-drop place bytes)

pub overflow_cast-result : goal.overflow_cast-result
overflow_cast-result c =
    let small = rest_small c.order.result c.args.bytes.now c.args.place c.hop_at.result c.in-Some-Ok.field-0 c.in-Some-Ok.part c.hop_at.ensures c.in-Some-Ok.is c.in-Some-Ok.field-0-is (omega (arith, c.if-bytes-gt-LONGEST_REGION.false)) in
    omega (arith, small)
