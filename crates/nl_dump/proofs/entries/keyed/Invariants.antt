use Rattle.nl_dump.proofs.Common.{◌≡◌, ◌≤◌, ◌++◌, length, map, message_view, AreKeyed}
use Rattle.nl_dump.proofs.entries.keyed.Given as goal

abbrev pub invariant-loop-message : goal.invariant-loop-message
invariant-loop-message g l = record {
  keyed : AreKeyed g.T.FromBody.item (g.T.Entry.key_of l.order) g.T.FromBody.family (map message_view l.yielded) l.entries.items;
  few : length l.entries.items ≤ length l.yielded;
  split : l.yielded ++ l.message-iterator.rest.items ≡ l.fn.messages.items;
}
