use Rattle.rtnl_c.proofs.Common.{arith, ap, ℤ, w32, ◌∙◌, open_hop, Bounds, over, parts_with}
use Rattle.std.proofs.lemmas.Int.{to_z-of_z}
use Rattle.rtnl_c.specs.Building.{on_none}
use Rattle.rtnl_c.proofs.Keeping.{few_after, opens, same_limits}
use Rattle.rtnl_c.proofs.building.rtnlc_builder_open_hop.Goals as goal

pub returns-in_default : goal.returns-in_default
returns-in_default c = on_none c.in_default.ensures

pub open_hop-opened-requires : goal.open_hop-opened-requires
open_hop-opened-requires c =
    let k = c.in-Some.ensures in
    record { fits = (k.1.fits, k.1.parts.1) }

pub keep_opened-requires : goal.keep_opened-requires
keep_opened-requires c =
    let k = c.in-Some.ensures in let t = c.open_hop-opened in
    record {
      size = omega (arith, t.ensures.fits.1, ap (λ (x : Bounds). x.datagram) (same_limits c.in-Some.top t.new.self _ _ t.result t.ensures.opens), k.1.parts.0.3);
      few = few_after _ _ k.0 c.args.kept.now.count t.result k.1.count k.1.parts.0.0 (t.ensures.inside k.0 k.2 k.1.parts.2);
    }

pub returns : goal.returns
returns c =
    let k = c.in-Some.ensures in let t = c.open_hop-opened in
    let built = t.ensures.built k.0 k.2 ∙ ap (λ (z : ℤ). open_hop (over (parts_with c.in-Some.top k.0) c.args.out.now) c.args.flags c.args.hops z) (to_z-of_z w32 c.args.ifindex c.ranges.ifindex) in
    rw (c.keep_opened.ensures.code) (opens _ _ _ _ _ c.in-Some.top t.new.self t.result k t.ensures.opens t.ensures.fits (t.ensures.inside k.0 k.2 k.1.parts.2) c.keep_opened.ensures.places c.keep_opened.ensures.kept built)
