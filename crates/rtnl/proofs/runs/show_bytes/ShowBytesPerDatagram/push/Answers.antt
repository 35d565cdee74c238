use Rattle.rtnl.proofs.Common.{subst, Order, row_printed, AddsAllRows}
use Rattle.rtnl.proofs.ByteRows.{shows}
use Rattle.rtnl.proofs.runs.show_bytes.ShowBytesPerDatagram.push.Goals as goal

pub returns : goal.returns
returns c =
    let a = c.args in
    let s = a.self.now in
    let one = c.push_opening.new.out.items in
    let two = c.push_rows.new.out.items in
    let es = c.in_ok-tape.tape.events.items in
    let refusal = c.in_ok-tape.tape.refusal in
    let rows = subst (λ (o : Order). AddsAllRows (row_printed s.format o a.number) o a.bytes.now es refusal one two) c.order.ensures c.in_ok-push_rows.ensures in
    shows s.format s.limits a.number a.bytes.now a.out.now.items one two c.push_ending.new.out.items es refusal c.is_none.result c.in_ok-push_opening.ensures rows c.in_ok-push_ending.ensures c.is_none.ensures
    c.in_ok-tape.ensures.events c.in_ok-tape.ensures.head c.in_ok-tape.ensures.refusal
