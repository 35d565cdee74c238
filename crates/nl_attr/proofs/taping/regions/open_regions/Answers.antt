use Rattle.nl_attr.proofs.Common.{◌≡◌, ◌<◌, [], length, None, refl, sym, subst, arith, Head, head_of, shape_of}
use Rattle.nl_attr.proofs.Lemmas.Fronts.{attrs_head}
use Rattle.nl_attr.proofs.Lemmas.Taping.{IsTaping, begins, begun, level_here, may_scan, none_in, room_here, scanned_small, skips, small, step_ends, step_fails, step_goes, step_goes_less, step_inside, step_less, step_scan_fails, step_scanned, step_size}
use Rattle.nl_attr.proofs.taping.regions.open_regions.Given.{Over}
use Rattle.nl_attr.proofs.taping.regions.open_regions.Goals as goal
use Rattle.nl_attr.proofs.taping.regions.open_regions.Goals.{in-Goes, in-Opens+else-is_some}

-- where a step leads, and that less is left there
led : (g : Over) (c : goal.After-counts-in-heads-1 g)
    → (c.match-stepped.broken ≡ None)
    × IsTaping (shape_of c.args.order c.args.depth) (head_of c.args.start) c.args.count c.args.out.now [] (head_of c.step-stepped.result.rest) c.match-stepped.counts c.match-stepped.out
    × (length c.step-stepped.result.rest.left.now < length c.heads.top.left.now)
led g c =
    let now = c.heads.invariant.1 in
    let u = c.step-stepped.new.counts in
    let new = c.step-stepped.new.out in
    let a = c.step-stepped.result in
    let step = rw c.of-shape.ensures at c.step-stepped.ensures in
    elim c.match-stepped.branch [
      | in-Goes w ↦ rw (w.broken-is, w.counts-is, w.out-is) (c.heads.invariant.0, step_goes now u new a step w.in-Goes.is, step_goes_less now u new a step w.in-Goes.is)
      | in-Opens+else-is_some w ↦ rw (w.broken-is, w.counts-is, w.out-is, w.join.ensures) (
          let none = none_in w.tape_inner-more.new.broken w.if-is_some.ensures in
          (none, step_scanned now u new a step w.in-Opens.inner w.in-Opens.is w.tape_inner-more.ensures none, omega (arith, step_less now u new a step w.in-Opens.inner w.in-Opens.is))
          )
    ]

pub heads-init : goal.heads-init
heads-init g c = let q = c.requires in (q.none, subst (λ (h : Head). IsTaping (shape_of c.args.order c.args.depth) (head_of c.args.start) c.args.count c.args.out.now [] h (begun c.args.count) c.args.out.now) (sym (attrs_head c.args.start c.args.ctx q.parts)) (begins _ (head_of c.args.start) c.args.count c.args.out.now [] refl q.fits))

pub step-stepped-requires-clause-size : goal.step-stepped-requires-clause-size
step-stepped-requires-clause-size g c = c.heads.invariant.1.stands.size

pub step-stepped-requires-clause-place : goal.step-stepped-requires-clause-place
step-stepped-requires-clause-place g c = c.heads.invariant.1.stands.place

pub step-stepped-requires-clause-level : goal.step-stepped-requires-clause-level
step-stepped-requires-clause-level g c = level_here c.heads.invariant.1 (omega (arith, c.get-limit.ensures.limit, c.get-limit.ensures.value))

pub step-stepped-requires-clause-count : goal.step-stepped-requires-clause-count
step-stepped-requires-clause-count g c = omega (arith, (small c.heads.invariant.1 (omega (arith, c.get-limit.ensures.limit, c.get-limit.ensures.value)) c.requires.fits.size).1, c.requires.fits.count)

pub step-stepped-requires-clause-visits : goal.step-stepped-requires-clause-visits
step-stepped-requires-clause-visits g c = omega (arith, (small c.heads.invariant.1 (omega (arith, c.get-limit.ensures.limit, c.get-limit.ensures.value)) c.requires.fits.size).0)

pub returns-in-Ends : goal.returns-in-Ends
returns-in-Ends g c = step_ends c.heads.invariant.1 c.step-stepped.new.counts c.step-stepped.new.out c.step-stepped.result (rw c.of-shape.ensures at c.step-stepped.ensures) c.heads.broken c.in-Ends.is refl c.heads.invariant.0

pub keep_broken-requires : goal.keep_broken-requires
keep_broken-requires g c = step_size c.heads.invariant.1 c.step-stepped.new.counts c.step-stepped.new.out c.step-stepped.result (rw c.of-shape.ensures at c.step-stepped.ensures) c.in-Fails.reason c.in-Fails.is

pub returns-in-Fails : goal.returns-in-Fails
returns-in-Fails g c = step_fails c.heads.invariant.1 c.step-stepped.new.counts c.step-stepped.new.out c.step-stepped.result (rw c.of-shape.ensures at c.step-stepped.ensures) c.in-Fails.reason c.keep_broken.new.broken c.in-Fails.is (rw c.of-shape.ensures at c.keep_broken.ensures)

pub tape_inner-more-requires-clause-fits : goal.tape_inner-more-requires-clause-fits
tape_inner-more-requires-clause-fits g c = may_scan (step_inside c.heads.invariant.1 c.step-stepped.new.counts c.step-stepped.new.out c.step-stepped.result (rw c.of-shape.ensures at c.step-stepped.ensures) c.in-Opens.inner c.in-Opens.is) c.requires.fits

pub join-requires : goal.join-requires
join-requires g c = omega (arith, scanned_small (step_inside c.heads.invariant.1 c.step-stepped.new.counts c.step-stepped.new.out c.step-stepped.result (rw c.of-shape.ensures at c.step-stepped.ensures) c.in-Opens.inner c.in-Opens.is) c.tape_inner-more.ensures (omega (arith, c.get-limit.ensures.limit, c.get-limit.ensures.value)) c.requires.fits.size)

pub returns-then-is_some : goal.returns-then-is_some
returns-then-is_some g c = rw c.join.ensures (step_scan_fails c.heads.invariant.1 c.step-stepped.new.counts c.step-stepped.new.out c.step-stepped.result (rw c.of-shape.ensures at c.step-stepped.ensures) c.in-Opens.inner c.in-Opens.is c.tape_inner-more.ensures (c.if-is_some.ensures))

pub pass_top-top-requires-clause-size : goal.pass_top-top-requires-clause-size
pass_top-top-requires-clause-size g c = (led g c).1.stands.size

pub pass_top-top-requires-clause-place : goal.pass_top-top-requires-clause-place
pass_top-top-requires-clause-place g c = (led g c).1.stands.place

pub pass_top-top-requires-clause-level : goal.pass_top-top-requires-clause-level
pass_top-top-requires-clause-level g c = level_here (led g c).1 (omega (arith, c.get-limit.ensures.limit, c.get-limit.ensures.value))

pub pass_top-top-requires-clause-count : goal.pass_top-top-requires-clause-count
pass_top-top-requires-clause-count g c = omega (arith, (small (led g c).1 (omega (arith, c.get-limit.ensures.limit, c.get-limit.ensures.value)) c.requires.fits.size).1, c.requires.fits.count)

pub pass_top-top-requires-clause-visits : goal.pass_top-top-requires-clause-visits
pass_top-top-requires-clause-visits g c = (small (led g c).1 (omega (arith, c.get-limit.ensures.limit, c.get-limit.ensures.value)) c.requires.fits.size).0

pub pass_top-top-requires-clause-room : goal.pass_top-top-requires-clause-room
pass_top-top-requires-clause-room g c = room_here (led g c).1 c.args.room c.requires.fits.room

pub heads-preserved : goal.heads-preserved
heads-preserved g c = let l = led g c.before.before in (l.0, skips l.1 (rw c.of-shape.ensures at c.pass_top-top.ensures.skips))

pub heads-smaller : goal.heads-smaller
heads-smaller g c = omega (arith, (led g c.before.before).2, c.pass_top-top.ensures.size)
