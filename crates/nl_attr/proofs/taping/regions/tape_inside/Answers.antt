use Rattle.std.proofs.Common.{arith}
use Rattle.nl_attr.proofs.Lemmas.Taping.{empty, may_scan, scanned_small, skipped, skipped_all, skipped_then}
use Rattle.nl_attr.proofs.taping.regions.tape_inside.Goals as goal

pub tape_deep-more-requires-clause-fits : goal.tape_deep-more-requires-clause-fits
tape_deep-more-requires-clause-fits g c = let q = c.requires in may_scan (skipped q.fits (rw c.of-shape.ensures at c.pass_top-rest.ensures.skips)) q.fits

pub join-requires : goal.join-requires
join-requires g c =
    let q = c.requires in
    omega (arith, scanned_small (skipped q.fits (rw c.of-shape.ensures at c.pass_top-rest.ensures.skips)) c.tape_deep-more.ensures (omega (arith, c.get-limit.ensures.limit, c.get-limit.ensures.value)) q.fits.size)

pub returns-then-not-is_empty : goal.returns-then-not-is_empty
returns-then-not-is_empty g c = rw c.join.ensures (skipped_then (rw c.of-shape.ensures at c.pass_top-rest.ensures.skips) c.tape_deep-more.ensures)

pub returns-else-not-is_empty : goal.returns-else-not-is_empty
returns-else-not-is_empty g c =
    let q = c.requires in
    skipped_all _ q.none q.fits (rw c.of-shape.ensures at c.pass_top-rest.ensures.skips) (empty c.pass_top-rest.result.left.now c.if-not-is_empty.ensures)
