use Rattle.nl_dump.proofs.Common.{◌≤◌, IfErr, IfOk, length, map, ap, subst, arith, length-map, LONGEST_REGION, IsFirstFault, whole, IfFault, VisitsUpTo, message_view, within, MessageVal}
use Rattle.std.specs.Global.{Vec}
use Rattle.nl_frame.specs.declared.body.Message.{Message}
use Rattle.nl_frame.specs.declared.reading.ReadError.{ReadError}
use Rattle.nl_frame.specs.Kept.{kept}
use Rattle.nl_dump.proofs.Feeding.{length-kept}
use Rattle.nl_dump.proofs.Handing.{fewer_items, picks_err}
use Rattle.nl_dump.proofs.Streaming.{few_found}
use Rattle.nl_dump.proofs.items.read_items.Goals.{In-Ok}
use Rattle.nl_dump.proofs.items.read_items.Goals as goal

-- no more messages than bytes, and no more bytes than a datagram may have
few : (c : In-Ok) → length (map message_view c.in-Ok.messages.items) ≤ length c.args.bytes.now
few c =
    let d = c.args.bytes.now in
    let ms = map message_view c.in-Ok.messages.items in
    let low : kept ms ≤ length d = subst (λ r. IfOk r (λ (v : Vec Message). kept (map message_view v.items) ≤ length d)) c.in-Ok.is c.read_datagram-result.ensures.kept in
    omega (arith, low, length-kept ms)

low : (c : In-Ok) → length c.args.bytes.now ≤ LONGEST_REGION
low c =
    let d = c.args.bytes.now in
    omega (arith, within c.read_datagram-result.result.result c.args.limits.now.datagram (length d) c.read_datagram-result.ensures.large (λ e. let ok = c.in-Ok.is in cc), c.datagram-limit.ensures.limits)

pub pick-requires : goal.pick-requires
pick-requires c =
    let here = (goal.at.pick-requires c).In-Ok in
    omega (arith, few here, low here, length-map c.in-Ok.messages.items message_view)

pub taken-taken-requires-clause-items : goal.taken-taken-requires-clause-items
taken-taken-requires-clause-items c =
    let here = (goal.at.taken-taken-requires-clause-items c).In-Ok in
    omega (arith, (few_found c.args.dump.now (map message_view c.in-Ok.messages.items) c.pick.result c.pick.ensures.counts).0, few here, low here)

pub taken-taken-requires-clause-ignored : goal.taken-taken-requires-clause-ignored
taken-taken-requires-clause-ignored c =
    let here = (goal.at.taken-taken-requires-clause-ignored c).In-Ok in
    omega (arith, (few_found c.args.dump.now (map message_view c.in-Ok.messages.items) c.pick.result c.pick.ensures.counts).1, few here, low here)

pub returns-in-Ok-clause-ignored : goal.returns-in-Ok-clause-ignored
returns-in-Ok-clause-ignored c =
    let here = (goal.at.returns-in-Ok-clause-ignored c).In-Ok in
    rw c.taken-taken.ensures (omega (arith, (few_found c.args.dump.now (map message_view c.in-Ok.messages.items) c.pick.result c.pick.ensures.counts).1, few here))

pub returns-in-Ok-clause-few : goal.returns-in-Ok-clause-few
returns-in-Ok-clause-few c =
    let here = (goal.at.returns-in-Ok-clause-few c).In-Ok in
    let ms = map message_view c.in-Ok.messages.items in
    let items = ap (length {A = MessageVal}) c.pick.ensures.items in
    omega (arith, items, length-map c.pick.new.messages.items message_view, fewer_items c.args.dump.now ms, few here)

pub returns-in-Err-clause-picks : goal.returns-in-Err-clause-picks
returns-in-Err-clause-picks c =
    let d = c.args.bytes.now in
    let S = c.args.limits.now.shape in
    let r = c.read_datagram-result.result.result in
    let first = subst (λ r. IfErr r (λ (e : ReadError). IfFault e (λ f. IsFirstFault S (whole d) f.place f.reason))) c.in-Err.is c.read_datagram-result.ensures.first in
    let visits = subst (λ r. VisitsUpTo S d r c.read_datagram-result.result.visits) c.in-Err.is c.read_datagram-result.ensures.visits in
    rw c.from.ensures (picks_err c.args.limits.now c.args.dump.now d r c.in-Err.error c.read_datagram-result.result.visits c.in-Err.is c.read_datagram-result.ensures.large first visits)
