use Rattle.rtnl_c.proofs.Common.{sym, datagram_json}
use Rattle.rtnl_c.proofs.Shows.{shows_so}
use Rattle.rtnl_c.proofs.show.rtnlc_show_json.Goals as goal

pub returns-in-Ok-clause-shown : goal.returns-in-Ok-clause-shown
returns-in-Ok-clause-shown c =
    let p = c.push_datagram_json-made in
    λ are. rw (sym c.in-Ok.ensures.1) (shows_so datagram_json c.in-Ok.limits c.args.number c.args.bytes.now c.args.out.now p.result c.new-text.result.items p.new.out.items c.as_slice.result.now c.show.new.out c.show.result c.new-text.ensures.items c.as_slice.ensures.value p.ensures.text c.show.ensures)
