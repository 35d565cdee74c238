use Rattle.rtnl_c.proofs.Common.{◌≡◌, arith, ap, sym, open_attr, Bounds, over, heads_after, parts_with}
use Rattle.rtnl_c.specs.Building.{flags_in, number_in, on_none}
use Rattle.rtnl_c.proofs.Keeping.{few_after, opens, same_limits}
use Rattle.rtnl_c.proofs.building.rtnlc_builder_open.Goals as goal

pub returns-in_default : goal.returns-in_default
returns-in_default c = on_none c.in_default.ensures

pub open_attr-opened-requires : goal.open_attr-opened-requires
open_attr-opened-requires c =
    let k = c.in-Some.ensures in
    record { fits = (k.1.fits, k.1.parts.1) }

pub keep_opened-requires : goal.keep_opened-requires
keep_opened-requires c =
    let k = c.in-Some.ensures in let t = c.open_attr-opened in
    record {
      size = omega (arith, t.ensures.fits.1, ap (λ (x : Bounds). x.datagram) (same_limits c.in-Some.top t.new.self _ _ t.result t.ensures.opens), k.1.parts.0.3);
      few = few_after _ _ k.0 c.args.kept.now.count t.result k.1.count k.1.parts.0.0 (t.ensures.inside k.0 k.2 (sym k.1.count) k.1.parts.2);
    }

pub returns : goal.returns
returns c =
    let k = c.in-Some.ensures in let t = c.open_attr-opened in
    let built : over (parts_with t.new.self (heads_after t.result k.0)) t.new.out ≡ open_attr (over (parts_with c.in-Some.top k.0) c.args.out.now) (number_in c.args.kind) (flags_in c.args.kind)
    = rw (c.number_of_type.ensures, c.flags_of.ensures) at (t.ensures.built k.0 k.2 (sym k.1.count)) in
    rw (c.keep_opened.ensures.code) (opens _ _ _ _ _ c.in-Some.top t.new.self t.result k t.ensures.opens t.ensures.fits (t.ensures.inside k.0 k.2 (sym k.1.count) k.1.parts.2) c.keep_opened.ensures.places c.keep_opened.ensures.kept built)
