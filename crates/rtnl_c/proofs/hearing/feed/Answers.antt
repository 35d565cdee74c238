use Rattle.rtnl_c.proofs.Common.{◌/◌, ◌∙◌, Err, Ok, length, map, arith, subst, refl, IsRead, message_view}
use Rattle.rtnl_c.specs.Mirrors.{unheard, short_of, feeds}
use Rattle.rtnl_c.proofs.Telling.{large_in_err, large_in_ok, read_count, is_short, is_enough}
use Rattle.rtnl_c.proofs.hearing.feed.Goals as goal

pub returns-then-changes-needed : goal.returns-then-changes-needed
returns-then-changes-needed c =
    let n = length c.args.changes.now in let q = length c.args.bytes.now / 16 in let x = c.needed.result in
    rw (c.unheard.ensures) (short_of (is_short n q x c.needed.ensures.none c.needed.ensures.some c.if-changes-needed.true))

pub hear_each-requires : goal.hear_each-requires
hear_each-requires c =
    let n = length c.args.changes.now in let q = length c.args.bytes.now / 16 in let x = c.needed.result in let b = c.args.mirror.now.settings.limits in
    let few = read_count b c.args.bytes.now c.in-Ok.messages (subst (IsRead b c.args.bytes.now) c.in-Ok.is c.read-result.ensures.read) in
    λ some. omega (arith, few, is_enough n q x c.needed.ensures.some c.if-changes-needed.false some)

pub returns-in-Ok : goal.returns-in-Ok
returns-in-Ok c =
    let n = length c.args.changes.now in let q = length c.args.bytes.now / 16 in let x = c.needed.result in let d = c.read-result in let t = c.hear_each in let b = c.args.mirror.now.settings.limits in
    let h = t.ensures in
    feeds (λ s. omega (arith, is_enough n q x c.needed.ensures.some c.if-changes-needed.false s.0, s.1)) (Ok h.0) d.result.visits t.new.mirror
    (map message_view c.in-Ok.messages.items, subst (IsRead b c.args.bytes.now) c.in-Ok.is d.ensures.read, h.1) (large_in_ok h.0 c.in-Ok.messages d.result.result _ c.in-Ok.is d.ensures.large) d.ensures.bound
    t.new.changes t.new.before t.result h.2

pub returns-in-Err : goal.returns-in-Err
returns-in-Err c =
    let n = length c.args.changes.now in let q = length c.args.bytes.now / 16 in let x = c.needed.result in let d = c.read-result in let old = c.args.changes.now in let out = c.args.before.now in
    let a = c.unheard-in-Err in let b = c.args.mirror.now.settings.limits in
    feeds (λ s. omega (arith, is_enough n q x c.needed.ensures.some c.if-changes-needed.false s.0, s.1)) (Err c.in-Err.error) d.result.visits c.refused.new.self
    (c.refused.ensures, subst (IsRead b c.args.bytes.now) c.in-Err.is d.ensures.read) (large_in_err c.in-Err.error d.result.result _ c.in-Err.is d.ensures.large) d.ensures.bound
    old out a.result
    (a.ensures ∙ (λ i. unheard d.result.visits (c.offset_in_error.ensures i) (c.code.ensures i)), refl, refl)
