use Rattle.nl_attr.proofs.Common.{◌≡◌, ◌<◌, [], length, None, refl, arith, head_of, shape_of}
use Rattle.nl_attr.proofs.Lemmas.Taping.{IsTaping, begins, level_here, may_scan, none_in, scanned_small, small, step_ends, step_fails, step_goes, step_goes_less, step_inside, step_less, step_scan_fails, step_scanned, step_size}
use Rattle.nl_attr.proofs.taping.regions.tape_hops.Given.{Over}
use Rattle.nl_attr.proofs.taping.regions.tape_hops.Goals as goal
use Rattle.nl_attr.proofs.taping.regions.tape_hops.Goals.{in-Goes, in-Opens+else-is_some}

-- where a step leads, and that less is left there
led : (g : Over) (c : goal.After-hops-1 g)
    → (c.match-stepped.broken ≡ None)
    × IsTaping (shape_of c.args.order c.args.depth) (head_of c.args.start) c.args.count c.args.out.now [] (head_of c.step-stepped.result.rest) c.match-stepped.counts c.match-stepped.out
    × (length c.step-stepped.result.rest.left.now < length c.hops.hops.left.now)
led g c =
    let now = c.hops.invariant.1 in
    let u = c.step-stepped.new.counts in
    let new = c.step-stepped.new.out in
    let a = c.step-stepped.result in
    let step = rw c.of-shape.ensures at c.step-stepped.ensures in
    elim c.match-stepped.branch [
      | in-Goes w ↦ rw (w.broken-is, w.counts-is, w.out-is) (c.hops.invariant.0, step_goes now u new a step w.in-Goes.is, step_goes_less now u new a step w.in-Goes.is)
      | in-Opens+else-is_some w ↦ rw (w.broken-is, w.counts-is, w.out-is, w.join.ensures) (
          let none = none_in w.tape_inside-more.new.broken w.if-is_some.ensures in
          (none, step_scanned now u new a step w.in-Opens.inner w.in-Opens.is w.tape_inside-more.ensures none, omega (arith, step_less now u new a step w.in-Opens.inner w.in-Opens.is))
          )
    ]

pub hops-init : goal.hops-init
hops-init g c = let q = c.requires in (q.none, begins _ (head_of c.args.start) c.args.count c.args.out.now [] refl q.fits)

pub step-stepped-requires-clause-size : goal.step-stepped-requires-clause-size
step-stepped-requires-clause-size g c = c.hops.invariant.1.stands.size

pub step-stepped-requires-clause-place : goal.step-stepped-requires-clause-place
step-stepped-requires-clause-place g c = c.hops.invariant.1.stands.place

pub step-stepped-requires-clause-level : goal.step-stepped-requires-clause-level
step-stepped-requires-clause-level g c = level_here c.hops.invariant.1 (omega (arith, c.get-limit.ensures.limit, c.get-limit.ensures.value))

pub step-stepped-requires-clause-count : goal.step-stepped-requires-clause-count
step-stepped-requires-clause-count g c = omega (arith, (small c.hops.invariant.1 (omega (arith, c.get-limit.ensures.limit, c.get-limit.ensures.value)) c.requires.fits.size).1, c.requires.fits.count)

pub step-stepped-requires-clause-visits : goal.step-stepped-requires-clause-visits
step-stepped-requires-clause-visits g c = omega (arith, (small c.hops.invariant.1 (omega (arith, c.get-limit.ensures.limit, c.get-limit.ensures.value)) c.requires.fits.size).0)

pub returns-in-Ends : goal.returns-in-Ends
returns-in-Ends g c = step_ends c.hops.invariant.1 c.step-stepped.new.counts c.step-stepped.new.out c.step-stepped.result (rw c.of-shape.ensures at c.step-stepped.ensures) c.hops.broken c.in-Ends.is refl c.hops.invariant.0

pub keep_broken-requires : goal.keep_broken-requires
keep_broken-requires g c = step_size c.hops.invariant.1 c.step-stepped.new.counts c.step-stepped.new.out c.step-stepped.result (rw c.of-shape.ensures at c.step-stepped.ensures) c.in-Fails.reason c.in-Fails.is

pub returns-in-Fails : goal.returns-in-Fails
returns-in-Fails g c = step_fails c.hops.invariant.1 c.step-stepped.new.counts c.step-stepped.new.out c.step-stepped.result (rw c.of-shape.ensures at c.step-stepped.ensures) c.in-Fails.reason c.keep_broken.new.broken c.in-Fails.is (rw c.of-shape.ensures at c.keep_broken.ensures)

pub tape_inside-more-requires-clause-fits : goal.tape_inside-more-requires-clause-fits
tape_inside-more-requires-clause-fits g c = may_scan (step_inside c.hops.invariant.1 c.step-stepped.new.counts c.step-stepped.new.out c.step-stepped.result (rw c.of-shape.ensures at c.step-stepped.ensures) c.in-Opens.inner c.in-Opens.is) c.requires.fits

pub join-requires : goal.join-requires
join-requires g c = omega (arith, scanned_small (step_inside c.hops.invariant.1 c.step-stepped.new.counts c.step-stepped.new.out c.step-stepped.result (rw c.of-shape.ensures at c.step-stepped.ensures) c.in-Opens.inner c.in-Opens.is) c.tape_inside-more.ensures (omega (arith, c.get-limit.ensures.limit, c.get-limit.ensures.value)) c.requires.fits.size)

pub returns-then-is_some : goal.returns-then-is_some
returns-then-is_some g c = rw c.join.ensures (step_scan_fails c.hops.invariant.1 c.step-stepped.new.counts c.step-stepped.new.out c.step-stepped.result (rw c.of-shape.ensures at c.step-stepped.ensures) c.in-Opens.inner c.in-Opens.is c.tape_inside-more.ensures (c.if-is_some.ensures))

pub hops-smaller : goal.hops-smaller
hops-smaller g c = (led g c).2

pub hops-preserved : goal.hops-preserved
hops-preserved g c = let l = led g c in (l.0, l.1)
