use Rattle.rtnl_c.proofs.Common.{arith, ap, BuilderTop}
use Rattle.rtnl_c.specs.Building.{on_none}
use Rattle.rtnl_c.proofs.Keeping.{stays}
use Rattle.rtnl_c.proofs.building.rtnlc_builder_message.Goals as goal

pub returns-in_default : goal.returns-in_default
returns-in_default c = on_none c.in_default.ensures

pub message-requires : goal.message-requires
message-requires c =
    let k = c.in-Some.ensures in
    record { fits = (k.1.fits, k.1.parts.1) }

pub keep_top-requires : goal.keep_top-requires
keep_top-requires c = omega (arith, c.message.ensures.fits.1, ap (λ (x : BuilderTop). x.limits.datagram) c.message.ensures.rest, c.in-Some.ensures.1.parts.0.3)

pub returns : goal.returns
returns c =
    let k = c.in-Some.ensures in let t = c.message in
    let built = t.ensures.built k.0 k.2 in
    rw (c.keep_top.ensures.code) (stays _ _ _ _ _ c.in-Some.top t.new.self k (ap (λ (x : BuilderTop). x.limits) t.ensures.rest) t.ensures.grows t.ensures.fits c.keep_top.ensures.kept built)
