use Rattle.std.proofs.Common.{◌≡◌, ◌+◌, map, arith, rules, Some, Err, subst, refl, w32, to_z, of_z}
use Rattle.nl_attr.proofs.Common.{to_z-of_z, Order, HopPart, GivesHop, broken_length, span_given, hop_view, before}
use Rattle.nl_attr.proofs.Lemmas.Loop.{hop_turns, counted, hops_done, hops_are_cut}
use Rattle.nl_attr.proofs.Lemmas.Going.{hop_visits}
use Rattle.nl_attr.proofs.Lemmas.Opens.{hop_opens, hop_moves}
use Rattle.nl_attr.proofs.stack.next_hops.next_hop.Goals as goal

pub returns-in-None-clause-goes : goal.returns-in-None-clause-goes
returns-in-None-clause-goes c =
    let r = c.args.region.now in
    let n : c.step.new.visits ≡ c.args.visits.now = omega (arith, c.in-None.ensures.counts) in
    rw n (hops_done c.args.shape r.level (r.base + r.walk.place) r.walk.left (map hop_view r.list.items) c.args.visits.now c.in-None.ensures.steps.0)

pub returns-in-Some-Err-clause-goes : goal.returns-in-Some-Err-clause-goes
returns-in-Some-Err-clause-goes c =
    let r = c.args.region.now in
    let w = r.walk in
    let g : GivesHop w (Some (Err c.in-Some-Err.fault)) c.step.new.self = subst (λ x. GivesHop w (Some x) c.step.new.self) c.in-Some-Err.field-0-is c.in-Some-Err.ensures.steps in
    let n : c.step.new.visits ≡ c.args.visits.now = omega (arith, subst (λ x. c.step.new.visits ≡ c.args.visits.now + span_given (λ (p : HopPart). p.span) (Some x)) c.in-Some-Err.field-0-is c.in-Some-Err.ensures.counts) in
    rw (c.layout.ensures, g.2, n) (hops_are_cut c.args.shape r.level (r.base + w.place) w.left (before (map hop_view r.list.items)) c.in-Some-Err.fault.reason c.args.visits.now g.0 (subst (λ (o : Order). broken_length o 8 2 w.left ≡ Some c.in-Some-Err.fault.reason) c.requires.limits.order g.1))

pub list_of-requires : goal.list_of-requires
list_of-requires c =
    let w = c.args.region.now.walk in
    let g = hop_turns w c.step.new.self c.in-Some-Ok.part (subst (λ x. GivesHop w (Some x) c.step.new.self) c.in-Some-Ok.field-0-is c.in-Some-Ok.ensures.steps) in
    omega (arith, g.0.inside, g.0.span, c.requires.limits.size)

pub returns-in-Ok-clause-goes : goal.returns-in-Ok-clause-goes
returns-in-Ok-clause-goes c =
    let r = c.args.region.now in
    let p = c.in-Some-Ok.part in
    let g = hop_turns r.walk c.step.new.self p (subst (λ x. GivesHop r.walk (Some x) c.step.new.self) c.in-Some-Ok.field-0-is c.in-Some-Ok.ensures.steps) in
    let n = counted (λ (p : HopPart). p.span) c.args.visits.now c.step.new.visits _ p c.in-Some-Ok.ensures.counts c.in-Some-Ok.field-0-is in
    rw n (hop_opens c.args.shape r (record r { walk = c.step.new.self }) p (record { flags = p.flags; hops = p.hops; ifindex = to_z w32 (of_z w32 p.ifindex) }) c.in-Ok.inner c.args.visits.now c.requires.limits g.0 g.1 refl refl refl refl refl (to_z-of_z w32 p.ifindex (search rules)) c.in-Ok.ensures.rest)

pub returns-in-Ok-clause-moves : goal.returns-in-Ok-clause-moves
returns-in-Ok-clause-moves c =
    let r = c.args.region.now in
    let p = c.in-Some-Ok.part in
    let g = hop_turns r.walk c.step.new.self p (subst (λ x. GivesHop r.walk (Some x) c.step.new.self) c.in-Some-Ok.field-0-is c.in-Some-Ok.ensures.steps) in
    hop_moves c.args.shape r (record r { walk = c.step.new.self }) p (record { flags = p.flags; hops = p.hops; ifindex = p.ifindex }) c.in-Ok.inner c.requires.limits g.0 g.1 refl refl c.in-Ok.ensures.spot

pub returns-in-Err-clause-goes : goal.returns-in-Err-clause-goes
returns-in-Err-clause-goes c =
    let r = c.args.region.now in
    let p = c.in-Some-Ok.part in
    let g = hop_turns r.walk c.step.new.self p (subst (λ x. GivesHop r.walk (Some x) c.step.new.self) c.in-Some-Ok.field-0-is c.in-Some-Ok.ensures.steps) in
    let n = counted (λ (p : HopPart). p.span) c.args.visits.now c.step.new.visits _ p c.in-Some-Ok.ensures.counts c.in-Some-Ok.field-0-is in
    omega (arith, n, g.1.span, hop_visits c.args.shape r.level r.base p r.walk (before (map hop_view r.list.items)) c.requires.limits.order g.0.sound g.1)
