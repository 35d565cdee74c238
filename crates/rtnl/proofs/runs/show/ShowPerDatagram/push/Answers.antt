use Rattle.std.proofs.Common.{map, length, Ok, Err, refl, sym, ◌∙◌, rules}
use Rattle.rtnl.proofs.Common.{message_view, messages_text}
use Rattle.rtnl.specs.Datagrams.{datagram_line}
use Rattle.rtnl.proofs.Showing.{answers_messages, one_more, refuses}
use Rattle.rtnl.proofs.runs.show.ShowPerDatagram.push.Goals as goal

pub returns-in_ok-push_messages-in-Ok : goal.returns-in_ok-push_messages-in-Ok
returns-in_ok-push_messages-in-Ok c = (
  Ok (map message_view c.in-Ok.messages.items),
  answers_messages c.args.self.now.limits c.args.bytes.now c.read_datagram.result.result c.read_datagram.ensures.large c.in-Ok.messages (sym c.into_result.ensures ∙ c.in-Ok.is) c.read_datagram.ensures.fits,
  one_more (c.args.out.now.items) (c.push_datagram_line.new.out.items) (c.push_messages.new.out.items) (datagram_line c.args.number (length c.args.bytes.now)) (messages_text c.args.self.now.limits.shape.order (map message_view c.in-Ok.messages.items)) c.in_ok-push_datagram_line.ensures (search (rules, c.in_ok-push_messages-in-Ok.ensures, c.order.ensures, c.as_slice.ensures.value)),
  refl,
)

pub returns-in_ok-push_refusal-in-Err : goal.returns-in_ok-push_refusal-in-Err
returns-in_ok-push_refusal-in-Err c = (
  Err c.in-Err.error,
  refuses c.args.self.now.limits c.args.bytes.now c.read_datagram.result.result c.read_datagram.ensures.large c.in-Err.error (sym c.into_result.ensures ∙ c.in-Err.is) c.in_ok-push_refusal-in-Err.ensures.refusal c.read_datagram.ensures.first,
  one_more _ _ _ _ _ c.in_ok-push_datagram_line.ensures c.in_ok-push_refusal-in-Err.ensures.text,
  refl,
)
