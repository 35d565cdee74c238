use Rattle.rtnl_c.proofs.Common.{◌≡◌, ◌++◌, ◌∷◌, [], arith, ap, BuilderTop, put, over, parts_with}
use Rattle.rtnl_c.specs.Building.{flags_in, number_in, on_none}
use Rattle.rtnl_c.proofs.Keeping.{stays}
use Rattle.rtnl_c.proofs.building.rtnlc_builder_put_text.Goals as goal

pub returns-in_default : goal.returns-in_default
returns-in_default c = on_none c.in_default.ensures

pub put-requires : goal.put-requires
put-requires c =
    let k = c.in-Some.ensures in
    record { fits = (k.1.fits, k.1.parts.1); given = omega arith }

pub keep_top-requires : goal.keep_top-requires
keep_top-requires c = omega (arith, c.put.ensures.fits.1, ap (λ (x : BuilderTop). x.limits.datagram) c.put.ensures.rest, c.in-Some.ensures.1.parts.0.3)

pub returns : goal.returns
returns c =
    let k = c.in-Some.ensures in let t = c.put in
    let built : over (parts_with t.new.self k.0) t.new.out ≡ put (over (parts_with c.in-Some.top k.0) c.args.out.now) (number_in c.args.kind) (flags_in c.args.kind) (c.args.text.now ++ 0 ∷ [])
    = rw (c.number_of_type.ensures, c.flags_of.ensures) at (t.ensures.built k.0 k.2) in
    rw (c.keep_top.ensures.code) (stays _ _ _ _ _ c.in-Some.top t.new.self k (ap (λ (x : BuilderTop). x.limits) t.ensures.rest) t.ensures.grows t.ensures.fits c.keep_top.ensures.kept built)
