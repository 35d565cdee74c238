use Rattle.std.proofs.Common.{◌≡◌, ◌+◌, ◌/◌, length, take, ap, rules, ◌∙◌}
use Rattle.rtnl.proofs.Taping.{events_kept, given_back, taped, head_of}
use Rattle.rtnl.proofs.bytes.tape.tape_of.Goals as goal

pub returns-clause-refusal : goal.returns-clause-refusal
returns-clause-refusal c =
    let a = c.args in
    let t = c.tape_datagram-count in
    taped a.limits.now a.bytes.now t.result.scan t.ensures.scans c.into_result.result c.refusal-refusal.result c.into_result.ensures c.refusal-refusal.ensures

pub returns-clause-head : goal.returns-clause-head
returns-clause-head c =
    let a = c.args in
    let t = c.tape_datagram-count in
    head_of a.limits.now a.bytes.now t.result.scan t.ensures.scans c.into_result.result c.refusal-refusal.result c.into_result.ensures c.refusal-refusal.ensures

pub returns-clause-events : goal.returns-clause-events
returns-clause-events c =
    let a = c.args in
    let t = c.tape_datagram-count in
    let places : length c.as_mut_slice.result.now ≡ length a.bytes.now / 4 + 1 = search rules in
    let size : c.in_ok-events.events.len ≡ length t.new.out = search rules in
    events_kept a.limits.now a.bytes.now t.result.count c.as_mut_slice.result.now t.new.out c.truncate.new.self.items places t.ensures.quarter
    (c.truncate.ensures.items ∙ ap (take t.result.count) (given_back c.in_ok-events.events.len t.new.out _ size))
    t.ensures.untouched t.ensures.events t.ensures.count
