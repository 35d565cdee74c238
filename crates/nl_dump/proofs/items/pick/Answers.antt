use Rattle.nl_dump.proofs.Common.{◌≡◌, ap, ◌∙◌, arith, message_view, Found, is_marked, role_for, judge}
use Rattle.nl_dump.proofs.Handing.{picks_here, picks_item, picks_other}
use Rattle.nl_dump.proofs.items.pick.Goals.{then-counts+then-place-at, else-counts, else-counts-via-then-counts+else-place-at, else-counts-via-else-counts}
use Rattle.nl_dump.proofs.items.pick.Goals as goal

pub loop-at-preserved : goal.loop-at-preserved
loop-at-preserved c =
    let d = c.args.dump.now in
    let old = c.args.messages.now.items in
    let s = c.loop-at.counts in
    let x = c.index.result.now in
    let judged : c.judge-counts.result ≡ judge s.end (role_for d (message_view x)) (is_marked x.flags) s = c.judge-counts.ensures ∙ ap (λ (f : Found). judge s.end f.role f.marked s) c.find.ensures in
    elim c.if-counts.branch [
      | then-counts+then-place-at w ↦
          rw w.messages-is (picks_item message_view d old c.loop-at.messages.items c.loop-at.at s x c.loop-at.invariant (omega arith) c.index.ensures _ judged _ w.if-counts.true w.swap.ensures.by_index)
      | else-counts w ↦ rw w.messages-is (elim w.else-counts.branch [
        | else-counts-via-then-counts+else-place-at v ↦ picks_here message_view d old c.loop-at.messages.items c.loop-at.at s x c.loop-at.invariant (omega arith) c.index.ensures _ judged v.if-counts.true v.if-place-at.false
        | else-counts-via-else-counts v ↦ picks_other message_view d old c.loop-at.messages.items c.loop-at.at s x c.loop-at.invariant (omega arith) c.index.ensures _ judged v.if-counts.false
      ])
    ]
