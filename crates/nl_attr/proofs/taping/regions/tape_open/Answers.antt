use Rattle.nl_attr.proofs.Common.{◌≡◌, ◌<◌, ◌+◌, ◌++◌, [], ◌∷◌, length, map, ap, subst, arith, ◌∙◌, option_to_list, map_push, head_of}
use Rattle.nl_attr.proofs.Lemmas.Taping.{IsTaping, begins, level_here, room_here, skips, small, step_ends, step_pops, step_size, step_fails, step_goes, step_goes_less, step_opens, step_less, none_left, work, work_push}
use Rattle.nl_attr.proofs.taping.regions.tape_open.Goals as goal
use Rattle.nl_attr.proofs.taping.regions.tape_open.Goals.{in-Ends+in-Some, in-Goes, in-Opens}

-- where a step leads, and that less is left there
led : (c : goal.After-counts-in-heads-1)
    → IsTaping c.args.shape (head_of c.args.start) c.args.count c.args.out.now (map head_of c.match-stepped.stack.items) (head_of c.match-stepped.top) c.step-stepped.new.counts c.step-stepped.new.out
    × (work (map head_of c.match-stepped.stack.items) + length c.match-stepped.top.left.now < work (map head_of c.heads.stack.items) + length c.heads.top.left.now)
led c =
    let now = c.heads.invariant.1 in
    let u = c.step-stepped.new.counts in
    let new = c.step-stepped.new.out in
    let a = c.step-stepped.result in
    let step = c.step-stepped.ensures in
    elim c.match-stepped.branch [
      | in-Ends+in-Some w ↦ rw (w.stack-is, w.top-is) (
          let popped : c.heads.stack.items ≡ w.pop.new.self.items ++ w.in-Some.below ∷ [] = subst (λ x. c.heads.stack.items ≡ w.pop.new.self.items ++ option_to_list x) w.in-Some.is w.pop.ensures.items in
          let heads = ap (map head_of) popped ∙ map_push head_of w.pop.new.self.items w.in-Some.below in
          (step_pops now u new a step (map head_of w.pop.new.self.items) (head_of w.in-Some.below) w.in-Ends.is heads, omega (arith, ap work heads, work_push (map head_of w.pop.new.self.items) (head_of w.in-Some.below)))
          )
      | in-Goes w ↦ rw (w.stack-is, w.top-is) (step_goes now u new a step w.in-Goes.is, omega (arith, step_goes_less now u new a step w.in-Goes.is))
      | in-Opens w ↦ rw (w.stack-is, w.top-is) (
          let heads = ap (map head_of) w.push.ensures.items ∙ map_push head_of c.heads.stack.items a.rest in
          (step_opens now u new a step w.in-Opens.inner (map head_of w.push.new.self.items) w.in-Opens.is heads, omega (arith, ap work heads, work_push (map head_of c.heads.stack.items) (head_of a.rest), step_less now u new a step w.in-Opens.inner w.in-Opens.is))
          )
    ]

pub heads-init : goal.heads-init
heads-init c =
    let q = c.requires in
    (q.none, begins c.args.shape (head_of c.args.start) c.args.count c.args.out.now (map head_of c.new-stack.result.items) (ap (map head_of) c.new-stack.ensures) q.fits)

pub step-stepped-requires-clause-count : goal.step-stepped-requires-clause-count
step-stepped-requires-clause-count c = let q = c.requires in omega (arith, (small c.heads.invariant.1 q.limit q.fits.size).1, q.fits.count)

pub step-stepped-requires-clause-visits : goal.step-stepped-requires-clause-visits
step-stepped-requires-clause-visits c = let q = c.requires in omega (arith, (small c.heads.invariant.1 q.limit q.fits.size).0)

pub returns-in-None : goal.returns-in-None
returns-in-None c =
    let none = none_left c.heads.stack.items (λ h. absurd (let e = c.in-None.ensures.variant.1 h in cc)) in
    step_ends c.heads.invariant.1 c.step-stepped.new.counts c.step-stepped.new.out c.step-stepped.result c.step-stepped.ensures c.heads.broken c.in-Ends.is (ap (map head_of) none) c.heads.invariant.0

pub keep_broken-requires : goal.keep_broken-requires
keep_broken-requires c = step_size c.heads.invariant.1 c.step-stepped.new.counts c.step-stepped.new.out c.step-stepped.result c.step-stepped.ensures c.in-Fails.reason c.in-Fails.is

pub returns-in-Fails : goal.returns-in-Fails
returns-in-Fails c = step_fails c.heads.invariant.1 c.step-stepped.new.counts c.step-stepped.new.out c.step-stepped.result c.step-stepped.ensures c.in-Fails.reason c.keep_broken.new.broken c.in-Fails.is c.keep_broken.ensures

pub pass_top-top-requires-clause-size : goal.pass_top-top-requires-clause-size
pass_top-top-requires-clause-size c = (led c).0.stands.size

pub pass_top-top-requires-clause-place : goal.pass_top-top-requires-clause-place
pass_top-top-requires-clause-place c = (led c).0.stands.place

pub pass_top-top-requires-clause-level : goal.pass_top-top-requires-clause-level
pass_top-top-requires-clause-level c = level_here (led c).0 c.requires.limit

pub pass_top-top-requires-clause-count : goal.pass_top-top-requires-clause-count
pass_top-top-requires-clause-count c = let q = c.requires in omega (arith, (small (led c).0 q.limit q.fits.size).1, q.fits.count)

pub pass_top-top-requires-clause-visits : goal.pass_top-top-requires-clause-visits
pass_top-top-requires-clause-visits c = let q = c.requires in (small (led c).0 q.limit q.fits.size).0

pub pass_top-top-requires-clause-room : goal.pass_top-top-requires-clause-room
pass_top-top-requires-clause-room c = room_here (led c).0 c.args.room c.requires.fits.room

pub heads-preserved : goal.heads-preserved
heads-preserved c = (c.heads.invariant.0, skips (led c.before.before).0 c.pass_top-top.ensures.skips)

pub heads-smaller : goal.heads-smaller
heads-smaller c = omega (arith, (led c.before.before).1, c.pass_top-top.ensures.size)
