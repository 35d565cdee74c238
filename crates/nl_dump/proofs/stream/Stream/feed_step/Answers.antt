use Rattle.nl_dump.proofs.Common.{◌≤◌, IfOk, Err, length, sym, ◌∙◌, subst, Standing, ReadsEvents, IsPossible, StreamFed, refused_by}
use Rattle.nl_dump.specs.declared.events.PickedEvents.{PickedEvents}
use Rattle.nl_dump.proofs.Streaming.{admits, fed_err, possible_refused, possible_taken}
use Rattle.nl_dump.proofs.stream.Stream.feed_step.Goals.{After-take, After-refuse}
use Rattle.nl_dump.proofs.stream.Stream.feed_step.Goals as goal

-- it stays possible
taken : (c : After-take) → IsPossible c.take.new.self
taken c =
    let s = c.exceeds_total.new.self in
    let d = c.args.bytes.now in
    let t = c.read_events-result in
    let low : c.in-Ok.field-0.taken.progress.ignored ≤ length d = subst (λ r. IfOk r (λ (x : PickedEvents). x.taken.progress.ignored ≤ length d)) c.in-Ok.is t.ensures.ignored in
    let h = subst (λ r. ReadsEvents s.limits c.in-Waiting.dump d c.args.out.now r t.result.visits t.new.out) c.in-Ok.is t.ensures.reads in
    let open_ = admits c.in-Waiting.dump d c.self.inside.standing s c.if-exceeds_total.ensures.1 c.in-Waiting.is c.if-exceeds_total.ensures.0 c.self.invariant in
    rw c.take.ensures (possible_taken s d c.in-Waiting.dump open_.waiting open_.total open_.possible t.result.visits t.ensures.bound c.in-Ok.field-0.taken h.1.0 low h.1.3)

refused : (c : After-refuse) → IsPossible c.refuse.new.self
refused c =
    let s = c.exceeds_total.new.self in
    let d = c.args.bytes.now in
    let t = c.read_events-result in
    let open_ = admits c.in-Waiting.dump d c.self.inside.standing s c.if-exceeds_total.ensures.1 c.in-Waiting.is c.if-exceeds_total.ensures.0 c.self.invariant in
    rw c.refuse.ensures (possible_refused s d c.in-Waiting.dump open_.waiting open_.total open_.possible t.result.visits t.ensures.bound)

pub invariant_of-self-in-Ok : goal.invariant_of-self-in-Ok
invariant_of-self-in-Ok c = taken (goal.at.invariant_of-self-in-Ok c).After-take

pub invariant_of-self-in-Err : goal.invariant_of-self-in-Err
invariant_of-self-in-Err c = refused (goal.at.invariant_of-self-in-Err c).After-refuse

pub returns-in-Ok-clause-possible : goal.returns-in-Ok-clause-possible
returns-in-Ok-clause-possible c = taken (goal.at.returns-in-Ok-clause-possible c).After-take

pub returns-else-lacks_room-clause-possible : goal.returns-else-lacks_room-clause-possible
returns-else-lacks_room-clause-possible c = refused (goal.at.returns-else-lacks_room-clause-possible c).After-refuse

pub returns-else-lacks_room-clause-step : goal.returns-else-lacks_room-clause-step
returns-else-lacks_room-clause-step c =
    let s = c.exceeds_total.new.self in
    let d = c.args.bytes.now in
    let t = c.read_events-result in
    let h = subst (λ r. ReadsEvents s.limits c.in-Waiting.dump d c.args.out.now r t.result.visits t.new.out) c.in-Err.is t.ensures.reads in
    let open_ = admits c.in-Waiting.dump d c.self.inside.standing s c.if-exceeds_total.ensures.1 c.in-Waiting.is c.if-exceeds_total.ensures.0 c.self.invariant in
    rw c.refuse.ensures
    (subst (λ (v : Standing). StreamFed v d c.args.out.now (Err c.in-Err.error) (refused_by s (length d) t.result.visits) t.new.out) (c.if-exceeds_total.ensures.1 ∙ c.self.view_is)
    (fed_err s d c.in-Waiting.dump open_.waiting open_.total c.args.out.now c.in-Err.error t.result.visits t.new.out (sym c.lacks_room.ensures ∙ c.if-lacks_room.false) h))
