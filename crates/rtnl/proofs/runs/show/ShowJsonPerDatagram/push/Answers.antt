use Rattle.rtnl.proofs.Common.{map, Ok, Err, arith, refl, sym, ◌∙◌, message_view}
use Rattle.rtnl.proofs.Json.{more_fields}
use Rattle.rtnl.proofs.Showing.{answers_messages, refuses}
use Rattle.rtnl.proofs.runs.show.ShowJsonPerDatagram.push.Goals as goal

pub returns-in_ok-end-in-Ok : goal.returns-in_ok-end-in-Ok
returns-in_ok-end-in-Ok c = (
  Ok (map message_view c.in-Ok.messages.items),
  answers_messages c.args.self.now.limits c.args.bytes.now c.read_datagram.result.result c.read_datagram.ensures.large c.in-Ok.messages (sym c.into_result.ensures ∙ c.in-Ok.is) c.read_datagram.ensures.fits,
  grind (arith, more_fields),
  refl,
)

pub returns-in_ok-end-in-Err : goal.returns-in_ok-end-in-Err
returns-in_ok-end-in-Err c = (
  Err c.in-Err.error,
  refuses c.args.self.now.limits c.args.bytes.now c.read_datagram.result.result c.read_datagram.ensures.large c.in-Err.error (sym c.into_result.ensures ∙ c.in-Err.is) c.in_ok-push_refusal-in-Err.ensures.refusal c.read_datagram.ensures.first,
  grind (arith, more_fields),
  refl,
)
