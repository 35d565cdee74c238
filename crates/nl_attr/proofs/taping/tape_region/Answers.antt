use Rattle.std.proofs.Common.{arith}
use Rattle.nl_attr.proofs.Lemmas.Taping.{empty, may_scan, scanned_small, skipped, skipped_all, skipped_then}
use Rattle.nl_attr.proofs.taping.tape_region.Goals as goal

pub returns-then-is_empty : goal.returns-then-is_empty
returns-then-is_empty c = let q = c.requires in skipped_all _ q.none q.fits (rw c.of-shape.ensures at c.pass_front-top.ensures.skips) (empty c.pass_front-top.result.left.now c.if-is_empty.ensures)

pub tape_regions-requires-clause-fits : goal.tape_regions-requires-clause-fits
tape_regions-requires-clause-fits c = let q = c.requires in may_scan (skipped q.fits (rw c.of-shape.ensures at c.pass_front-top.ensures.skips)) q.fits

pub join-requires : goal.join-requires
join-requires c =
    let q = c.requires in
    omega (arith, scanned_small (skipped q.fits (rw c.of-shape.ensures at c.pass_front-top.ensures.skips)) c.tape_regions.ensures (omega (arith, c.get-limit.ensures.limit, c.get-limit.ensures.value)) q.fits.size)

pub returns : goal.returns
returns c = rw c.join.ensures (skipped_then (rw c.of-shape.ensures at c.pass_front-top.ensures.skips) c.tape_regions.ensures)
