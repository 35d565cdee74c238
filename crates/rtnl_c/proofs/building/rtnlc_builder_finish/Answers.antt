use Rattle.rtnl_c.proofs.Common.{ℕ, sym, subst, parts_with, put_of}
use Rattle.rtnl_c.specs.Building.{Finishes, finishes, on_none, refused}
use Rattle.rtnl_c.proofs.Keeping.{done, not_done}
use Rattle.rtnl_c.proofs.building.rtnlc_builder_finish.Goals as goal

pub returns-in_default : goal.returns-in_default
returns-in_default c = rw (c.none.ensures) (on_none c.in_default.ensures)

pub returns-in-Ok : goal.returns-in-Ok
returns-in-Ok c =
    let k = c.in-Some.ensures in
    let top = c.in-Some.top in
    let p = parts_with top k.0 in
    let d = done c.finish.result c.in-Ok.len p.len _ c.in-Ok.is (c.finish.ensures k.0 k.2) in
    subst (λ (n : ℕ). Finishes c.args.kept.now c.args.out.now (put_of n 0)) (sym d.1) (finishes p k.1 d.0)

pub returns-in-Err : goal.returns-in-Err
returns-in-Err c =
    let k = c.in-Some.ensures in
    let top = c.in-Some.top in
    let p = parts_with top k.0 in
    rw (c.none-in-Err.ensures, c.code.ensures) (refused p k.1 c.in-Err.refusal (not_done c.finish.result c.in-Err.refusal p.len _ c.in-Err.is (c.finish.ensures k.0 k.2)))
