use Rattle.nl_dump.proofs.Common.{◌+◌, get_or, arith, refl, sym, ap, ◌∙◌, found_at}
use Rattle.nl_dump.proofs.Sieve.{inner_at, item_at, item_found, no_event}
use Rattle.nl_dump.proofs.events.front.Goals as goal
use Rattle.nl_dump.proofs.events.front.Goals.{then-event-eq-SORT_MESSAGE+in-Some+else-event-new+else-not-belongs, else-event-eq-SORT_MESSAGE}

pub loop-at-preserved : goal.loop-at-preserved
loop-at-preserved c =
    let a = c.args in
    let find = found_at a.order a.dump.now a.bytes.now in
    elim c.if-event-eq-SORT_MESSAGE.branch [
      | then-event-eq-SORT_MESSAGE+in-Some+else-event-new+else-not-belongs w ↦ (
        refl,
        item_at find a.out.now c.loop-at.at c.loop-at.front c.if-event-eq-SORT_MESSAGE.front no_event w.has_mark.result c.loop-at.invariant (omega arith) w.if-event-eq-SORT_MESSAGE.true
            (item_found a.order a.dump.now a.bytes.now w.in-Some.left.now (get_or a.out.now c.loop-at.at no_event) w.has_mark.result (sym w.in-Some.ensures.left) (w.if-event-new.false ∙ c.type_of-new.ensures.number)
            (sym w.belongs.ensures ∙ w.if-not-belongs.false) w.has_mark.ensures)
            (w.front-is ∙ ap (λ b. record c.loop-at.front { items = c.loop-at.front.items + 1; interrupted = b }) w.is_interrupted.ensures),
      )
      | else-event-eq-SORT_MESSAGE w ↦ (refl, inner_at find a.out.now c.loop-at.at c.loop-at.front c.if-event-eq-SORT_MESSAGE.front no_event c.loop-at.invariant (omega arith) w.if-event-eq-SORT_MESSAGE.false w.front-is)
    ]
