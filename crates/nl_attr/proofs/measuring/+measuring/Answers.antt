use Rattle.nl_attr.proofs.Common.{◌+◌, drop, List, sym, ap, ◌∙◌, arith, Some, Attr, Hop, attrs_view, hops_view, extent_of, extent_of_hops, join}
use Rattle.nl_attr.proofs.Lemmas.Extents.{list_within, hops_within, join_empty, join_last, joined_on, joined_within, from_place, past_end}
use Rattle.nl_attr.proofs.measuring.+measuring.Goals as goal

pub measure_list-loop-attr-init : goal.measure_list-loop-attr-init
measure_list-loop-attr-init t c = (join_empty (extent_of (attrs_view c.args.attrs.now) c.args.ctx c.args.room) (list_within (attrs_view c.args.attrs.now) c.args.ctx c.args.room), omega arith)

pub measure_list-loop-attr-preserved : goal.measure_list-loop-attr-preserved
measure_list-loop-attr-preserved t c =
    let rest = drop (c.loop-attr.attr-index + 1) c.args.attrs.now in
    let d = from_place c.args.attrs.now c.loop-attr.attr-index c.attr-item.result c.loop-attr-test.true c.attr-item.is in
    let part = ap (λ (ys : List Attr). extent_of (attrs_view ys) c.args.ctx c.args.room) d ∙ c.in_ok-measure_attr.ensures (attrs_view rest) in
    let i = c.loop-attr.invariant in
    (joined_on c.loop-attr.all c.in_ok-measure_attr.field-0 c.and-all.result (extent_of (attrs_view rest) c.args.ctx c.args.room) _ _ part c.and-all.ensures i.0, joined_within c.loop-attr.all c.in_ok-measure_attr.field-0 c.and-all.result c.and-all.ensures)

pub measure_list-returns-in_err-measure_attr : goal.measure_list-returns-in_err-measure_attr
measure_list-returns-in_err-measure_attr t c =
    let rest = drop (c.loop-attr.attr-index + 1) c.args.attrs.now in
    let d = from_place c.args.attrs.now c.loop-attr.attr-index c.attr-item.result c.loop-attr-test.true c.attr-item.is in
    let part = ap (λ (ys : List Attr). extent_of (attrs_view ys) c.args.ctx c.args.room) d ∙ c.in_err-measure_attr.ensures (attrs_view rest) in
    c.from_residual.ensures ∙ sym (ap (join (Some c.loop-attr.all)) part) ∙ c.loop-attr.invariant.0

pub measure_list-returns : goal.measure_list-returns
measure_list-returns t c =
    let e = past_end c.args.attrs.now c.loop-attr.attr-index c.loop-attr-test.false in
    let i = c.loop-attr.invariant in
    sym (join_last c.loop-attr.all i.1) ∙ sym (ap (λ (ys : List Attr). join (Some c.loop-attr.all) (extent_of (attrs_view ys) c.args.ctx c.args.room)) e) ∙ i.0

pub measure_hops-loop-hop-init : goal.measure_hops-loop-hop-init
measure_hops-loop-hop-init t c = (join_empty (extent_of_hops (hops_view c.args.hops.now) c.args.room) (hops_within (hops_view c.args.hops.now) c.args.room), omega arith)

pub measure_hops-loop-hop-preserved : goal.measure_hops-loop-hop-preserved
measure_hops-loop-hop-preserved t c =
    let rest = drop (c.loop-hop.hop-index + 1) c.args.hops.now in
    let d = from_place c.args.hops.now c.loop-hop.hop-index c.hop-item.result c.loop-hop-test.true c.hop-item.is in
    let part = ap (λ (ys : List Hop). extent_of_hops (hops_view ys) c.args.room) d ∙ c.in_ok-measure_hop.ensures (hops_view rest) in
    let i = c.loop-hop.invariant in
    (joined_on c.loop-hop.all c.in_ok-measure_hop.field-0 c.and-all.result (extent_of_hops (hops_view rest) c.args.room) _ _ part c.and-all.ensures i.0, joined_within c.loop-hop.all c.in_ok-measure_hop.field-0 c.and-all.result c.and-all.ensures)

pub measure_hops-returns-in_err-measure_hop : goal.measure_hops-returns-in_err-measure_hop
measure_hops-returns-in_err-measure_hop t c =
    let rest = drop (c.loop-hop.hop-index + 1) c.args.hops.now in
    let d = from_place c.args.hops.now c.loop-hop.hop-index c.hop-item.result c.loop-hop-test.true c.hop-item.is in
    let part = ap (λ (ys : List Hop). extent_of_hops (hops_view ys) c.args.room) d ∙ c.in_err-measure_hop.ensures (hops_view rest) in
    c.from_residual.ensures ∙ sym (ap (join (Some c.loop-hop.all)) part) ∙ c.loop-hop.invariant.0

pub measure_hops-returns : goal.measure_hops-returns
measure_hops-returns t c =
    let e = past_end c.args.hops.now c.loop-hop.hop-index c.loop-hop-test.false in
    let i = c.loop-hop.invariant in
    sym (join_last c.loop-hop.all i.1) ∙ sym (ap (λ (ys : List Hop). join (Some c.loop-hop.all) (extent_of_hops (hops_view ys) c.args.room)) e) ∙ i.0
