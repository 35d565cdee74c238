use Rattle.nl_frame.proofs.Common.{◌≡◌, ◌≤◌, ◌+◌, ◌++◌, drop, map, vec_len, vec_capacity, LONGEST_REGION, message_view, written, written_len, IsRanged, IsSized}
use Rattle.nl_frame.proofs.appending.append_messages.Given as goal

abbrev pub invariant-loop-message : goal.invariant-loop-message
invariant-loop-message l = record {
  sized : IsSized (map message_view (drop l.message-index l.messages));
  short : written_len (map message_view (drop l.message-index l.messages)) ≤ LONGEST_REGION;
  space : vec_len l.out + written_len (map message_view (drop l.message-index l.messages)) ≤ vec_capacity l.out;
  whole : l.out.items ++ written l.order (map message_view (drop l.message-index l.messages)) ≡ l.fn.out.items ++ written l.order (map message_view l.fn.messages);
  ranged : IsRanged (map message_view (drop l.message-index l.messages)) → IsRanged (map message_view l.fn.messages);
}
