use Rattle.rtnl_c.proofs.Common.{sym}
use Rattle.rtnl_c.specs.Building.{on_none}
use Rattle.rtnl_c.proofs.Keeping.{closes, top_inside}
use Rattle.rtnl_c.proofs.building.rtnlc_builder_close.Goals as goal

pub returns-in_default : goal.returns-in_default
returns-in_default c = on_none c.in_default.ensures

pub close-refusal-requires : goal.close-refusal-requires
close-refusal-requires c =
    let k = c.in-Some.ensures in
    record { fits = (k.1.fits, k.1.parts.1); inside = top_inside _ _ k.0 _ k.1.parts.2 k.2 }

pub returns : goal.returns
returns c =
    let k = c.in-Some.ensures in let t = c.close-refusal in
    rw (c.keep_fewer.ensures.code) (closes _ _ _ _ _ c.in-Some.top t.result k t.ensures.fits c.keep_fewer.ensures.kept (t.ensures.built k.0 k.2 (sym k.1.count)))
