use Rattle.nl_frame.proofs.Common.{◌≡◌, ◌+◌, ◌∷◌, ◌++◌, List, ℕ, drop, map, ap, ◌∙◌, arith, append_assoc, with_padding, message_view, message_item, written}
use Rattle.nl_attr.proofs.Lemmas.Extents.{from_place}
use Rattle.nl_frame.proofs.appending.append_messages.Goals as goal
use Rattle.nl_frame.proofs.appending.append_messages.Goals.{After-message-item}

-- the messages that are left
left : (c : After-message-item) → drop c.loop-message.message-index c.args.messages.now ≡ c.message-item.result ∷ drop (c.loop-message.message-index + 1) c.args.messages.now
left c = from_place c.args.messages.now c.loop-message.message-index c.message-item.result c.loop-message-test.true c.message-item.is

pub append_message-requires-clause-sized : goal.append_message-requires-clause-sized
append_message-requires-clause-sized c = (rw (left (goal.at.append_message-requires-clause-sized c).After-message-item) at c.loop-message.invariant.sized).0

pub append_message-requires-clause-short : goal.append_message-requires-clause-short
append_message-requires-clause-short c = omega (arith, rw (left (goal.at.append_message-requires-clause-short c).After-message-item) at c.loop-message.invariant.short)

pub append_message-requires-clause-space : goal.append_message-requires-clause-space
append_message-requires-clause-space c = omega (arith, rw (left (goal.at.append_message-requires-clause-space c).After-message-item) at c.loop-message.invariant.space)

pub loop-message-preserved : goal.loop-message-preserved
loop-message-preserved c =
    let i = rw (left (goal.at.loop-message-preserved c).After-message-item) at c.loop-message.invariant in
    let one = with_padding (message_item c.args.order (message_view c.message-item.result)) in
    let rest = written c.args.order (map message_view (drop (c.loop-message.message-index + 1) c.args.messages.now)) in
    let r = c.append_message.ensures.ranged in
    record {
      sized = i.sized.1;
      short = omega (arith, i.short);
      space = omega (arith, i.space, c.append_message.ensures.len, c.append_message.ensures.room);
      whole = ap (λ (ys : List ℕ). ys ++ rest) c.append_message.ensures.items ∙ append_assoc c.loop-message.out.items one rest ∙ i.whole;
      ranged = λ q. i.ranged (r.0, r.1, r.2, r.3, r.4, q);
    }
