use Rattle.rtnl.proofs.Common.{◌≡◌, List, None, subst, on_ok_weaker, Mark, marks_of, row_printed, AddsRows, marks_in}
use Rattle.rtnl.proofs.bytes.push_accepted.Goals as goal

pub returns : goal.returns
returns c =
    let a = c.args in
    let print = row_printed a.how.format a.how.order a.how.number in
    let seen : marks_in c.deref.result.now ≡ marks_of a.how.order a.bytes.now a.events.now = cc (c.deref.ensures.value, c.in_ok-pieces.ensures.pieces) in
    on_ok_weaker c.push_parts.result (λ adds. subst (λ (ms : List Mark). AddsRows print 0 a.bytes.now None ms a.out.now.items c.push_parts.new.out.items) seen adds) c.push_parts.ensures
