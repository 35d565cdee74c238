use Rattle.std.proofs.Common.{rules, ◌≡◌, ◌<◌, ◌≤◌, length, arith}
use Rattle.rtnl_c.specs.Mirrors.{place_room, unasked}
use Rattle.rtnl_c.proofs.Telling.{hears_as_many, tells_so}
use Rattle.rtnl_c.proofs.hearing.hear_each.Goals as goal

pub returns-then-is_empty : goal.returns-then-is_empty
returns-then-is_empty c =
    let none : length c.args.changes.now ≡ 0 = search rules in
    let h = c.hear_silently.ensures in
    (h.0, h.1, rw (c.unheard.ensures) (unasked none))

pub returns : goal.returns
returns c =
    let p = c.hear_and_put-before in let out = c.args.before.now in let h = p.ensures in
    let some : 0 < length c.args.changes.now = search rules in
    let room : c.min-room.result ≡ place_room out = search rules in
    let all : length c.args.messages.items ≤ length c.args.changes.now = c.requires some in
    let count : length h.0 ≡ length c.args.messages.items = hears_as_many c.args.mirror.now p.new.mirror c.args.messages.items h.0 h.1 in
    (h.0, h.1, tells_so p.new.mirror h.0 c.args.visits c.args.changes.now out p.new.changes p.new.before c.len-count.result p.result c.min-room.result some (omega (arith, count, all)) room (search rules) h.2)
