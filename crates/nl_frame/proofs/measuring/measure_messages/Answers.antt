use Rattle.nl_frame.proofs.Common.{List, drop, map, ap, subst, refl, inl, ◌+◌, MessageVal, message_view}
use Rattle.nl_attr.proofs.Lemmas.Extents.{from_place, past_end}
use Rattle.nl_frame.proofs.Extents.{IsMeasuring, begun, measured_on, whole_deep, whole_len}
use Rattle.nl_frame.proofs.measuring.measure_messages.Goals as goal

pub loop-message-init : goal.loop-message-init
loop-message-init c = begun c.args.depth (map message_view c.args.messages.now)

pub loop-message-preserved : goal.loop-message-preserved
loop-message-preserved c =
    let xs = c.args.messages.now in
    let rest = map message_view (drop (c.loop-message.message-index + 1) xs) in
    let whole = map message_view xs in
    let d = ap (map message_view) (from_place xs c.loop-message.message-index c.message-item.result c.loop-message-test.true c.message-item.is) in
    let i = subst (λ (ms : List MessageVal). IsMeasuring c.args.depth whole ms c.loop-message.all) d c.loop-message.invariant in
    let e = c.in_ok-measure_message.ensures in
    measured_on c.args.depth (message_view c.message-item.result) whole rest c.loop-message.all c.in_ok-measure_message.field-0 c.and-all.result c.and-all.ensures (λ h. absurd (let n = e.mismatch.1 h in cc)) e.deep e.len i

pub returns-in_err-measure_message-clause-mismatch : goal.returns-in_err-measure_message-clause-mismatch
returns-in_err-measure_message-clause-mismatch c =
    let xs = c.args.messages.now in
    let whole = map message_view xs in
    let d = ap (map message_view) (from_place xs c.loop-message.message-index c.message-item.result c.loop-message-test.true c.message-item.is) in
    let i = subst (λ (ms : List MessageVal). IsMeasuring c.args.depth whole ms c.loop-message.all) d c.loop-message.invariant in
    (λ h. i.mismatched (inl (c.in_err-measure_message.ensures.mismatch.0 refl)), λ h. c.from_residual.ensures)

pub returns : goal.returns
returns c =
    let whole = map message_view c.args.messages.now in
    let d = ap (map message_view) (past_end c.args.messages.now c.loop-message.message-index c.loop-message-test.false) in
    let i = subst (λ (ms : List MessageVal). IsMeasuring c.args.depth whole ms c.loop-message.all) d c.loop-message.invariant in
    record { mismatch = (λ h. absurd (cc), λ h. absurd (i.mismatch h)); deep = whole_deep c.args.depth whole c.loop-message.all i; len = whole_len c.args.depth whole c.loop-message.all i }
