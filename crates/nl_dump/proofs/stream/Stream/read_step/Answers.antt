use Rattle.nl_dump.proofs.Common.{◌≤◌, IfOk, Err, length, ◌∙◌, subst, Standing, Picks, StreamRead, IsPossible, refused_by}
use Rattle.nl_dump.specs.declared.items.PickedItems.{PickedItems}
use Rattle.nl_dump.proofs.Handing.{read_err}
use Rattle.nl_dump.proofs.Streaming.{admits, possible_refused, possible_taken}
use Rattle.nl_dump.proofs.stream.Stream.read_step.Goals.{After-take, After-refuse}
use Rattle.nl_dump.proofs.stream.Stream.read_step.Goals as goal

-- it stays possible
taken : (c : After-take) → IsPossible c.take.new.self
taken c =
    let s = c.exceeds_total.new.self in
    let d = c.args.bytes.now in
    let t = c.read_items-result in
    let low : c.in-Ok.field-0.taken.progress.ignored ≤ length d = subst (λ r. IfOk r (λ (x : PickedItems). x.taken.progress.ignored ≤ length d)) c.in-Ok.is t.ensures.ignored in
    let h = subst (λ r. Picks s.limits c.in-Waiting.dump d r t.result.visits) c.in-Ok.is t.ensures.picks in
    let open_ = admits c.in-Waiting.dump d c.self.inside.standing s c.if-exceeds_total.ensures.1 c.in-Waiting.is c.if-exceeds_total.ensures.0 c.self.invariant in
    rw c.take.ensures (possible_taken s d c.in-Waiting.dump open_.waiting open_.total open_.possible t.result.visits t.ensures.bound c.in-Ok.field-0.taken h.1.0 low h.1.3)

refused : (c : After-refuse) → IsPossible c.refuse.new.self
refused c =
    let s = c.exceeds_total.new.self in
    let d = c.args.bytes.now in
    let t = c.read_items-result in
    let open_ = admits c.in-Waiting.dump d c.self.inside.standing s c.if-exceeds_total.ensures.1 c.in-Waiting.is c.if-exceeds_total.ensures.0 c.self.invariant in
    rw c.refuse.ensures (possible_refused s d c.in-Waiting.dump open_.waiting open_.total open_.possible t.result.visits t.ensures.bound)

pub invariant_of-self-in-Ok : goal.invariant_of-self-in-Ok
invariant_of-self-in-Ok c = taken (goal.at.invariant_of-self-in-Ok c).After-take

pub invariant_of-self-in-Err : goal.invariant_of-self-in-Err
invariant_of-self-in-Err c = refused (goal.at.invariant_of-self-in-Err c).After-refuse

pub returns-in-Ok-clause-possible : goal.returns-in-Ok-clause-possible
returns-in-Ok-clause-possible c = taken (goal.at.returns-in-Ok-clause-possible c).After-take

pub returns-in-Err-clause-possible : goal.returns-in-Err-clause-possible
returns-in-Err-clause-possible c = refused (goal.at.returns-in-Err-clause-possible c).After-refuse

pub returns-in-Err-clause-step : goal.returns-in-Err-clause-step
returns-in-Err-clause-step c =
    let s = c.exceeds_total.new.self in
    let d = c.args.bytes.now in
    let t = c.read_items-result in
    let h = subst (λ r. Picks s.limits c.in-Waiting.dump d r t.result.visits) c.in-Err.is t.ensures.picks in
    let open_ = admits c.in-Waiting.dump d c.self.inside.standing s c.if-exceeds_total.ensures.1 c.in-Waiting.is c.if-exceeds_total.ensures.0 c.self.invariant in
    rw c.refuse.ensures
    (subst (λ (v : Standing). StreamRead v d (Err c.in-Err.error) (refused_by s (length d) t.result.visits)) (c.if-exceeds_total.ensures.1 ∙ c.self.view_is)
    (read_err s d c.in-Waiting.dump open_.waiting open_.total c.in-Err.error t.result.visits t.ensures.bound h))
