use Rattle.std.proofs.Common.{◌+◌, nat_eq, Some, arith, refl, sym, ap, ◌∙◌, length-take-le}
use Rattle.std.specs.Option.{option_eq}
use Rattle.std.proofs.lemmas.List.Sums.{count_by_more_yes, count_by_more_no}
use Rattle.nl_dump.specs.declared.standing.Standing.{Standing}
use Rattle.rtnl_uses.proofs.Handed.{within, stand, counted_all}
use Rattle.rtnl_uses.proofs.streams.count_through.Goals.{then-eq, else-eq}
use Rattle.rtnl_uses.proofs.streams.count_through.Goals as goal

pub slice_bounds-event-items-end : goal.slice_bounds-event-items-end
slice_bounds-event-items-end c =
    let step = c.in_ok-streamed.ensures.step in
    within c.args.stream.now step.1.0 c.args.datagram.now step.1.1 c.args.events.now c.feed.new.out c.in_ok-streamed.streamed.events step.1.3.layout step.1.5

pub slice_bounds-event-items-end-2 : goal.slice_bounds-event-items-end-2
slice_bounds-event-items-end-2 c =
    let step = c.in_ok-streamed.ensures.step in
    sym (length-take-le _ c.feed.new.out (within c.args.stream.now step.1.0 c.args.datagram.now step.1.1 c.args.events.now c.feed.new.out c.in_ok-streamed.streamed.events step.1.3.layout step.1.5))

pub loop-event-init : goal.loop-event-init
loop-event-init c = (omega arith, refl)

pub overflow_add-count : goal.overflow_add-count
overflow_add-count c = grind (arith, c.loop-event.invariant.0, c.loop-event-test.true, c.loop-event.auto, c.feed.auto)

pub loop-event-preserved : goal.loop-event-preserved
loop-event-preserved c =
    let found = ap (λ o. option_eq nat_eq o (Some c.args.interface)) (sym c.interface_in.ensures) ∙ sym c.eq.ensures in
    elim c.if-eq.branch [
      | then-eq w ↦ (
        omega (arith, w.count-is, c.loop-event.invariant.0),
        w.count-is ∙ ap (λ n. n + 1) c.loop-event.invariant.1
            ∙ sym (count_by_more_yes _ _ _ _ c.loop-event-test.true (found ∙ w.if-eq.true)),
      )
      | else-eq w ↦ (
        omega (arith, w.count-is, c.loop-event.invariant.0),
        w.count-is ∙ c.loop-event.invariant.1
            ∙ sym (count_by_more_no _ _ _ _ c.loop-event-test.true (found ∙ w.if-eq.false)),
      )
    ]

pub returns-clause-counted : goal.returns-clause-counted
returns-clause-counted c =
    let step = c.in_ok-streamed.ensures.step in
    let front = stand c.args.stream.now step.1.0 c.args.datagram.now step.1.1 c.args.events.now c.feed.new.out c.in_ok-streamed.streamed.events step.1.3.layout step.1.5 in
    let order = c.order-order.ensures ∙ ap (λ (s : Standing). s.limits.shape.order) (c.standing.ensures.standing ∙ step.1.3.rest) in (
      step.1.0,
      step.1.3.waiting,
      step.1.1,
      step.1.3.layout,
      counted_all c.args.datagram.now c.args.interface _ _ c.loop-event.event-index _ _ _ c.loop-event.invariant.1 (omega (arith, c.loop-event-test.false)) front order,
    )
