use Rattle.std.proofs.Common.{◌≡◌, ◌++◌, ◌∙◌, ap, of_z, rules, to_z, w32}
use Rattle.rtnl.proofs.Common.{Route, out-Hop, attrs_view, hops_view}
use Rattle.rtnl.specs.Trees.{deeper, hop_line, hops_text, indented, items_text}
use Rattle.rtnl.proofs.Trees.{held_hops, held_list, hop_written}
use Rattle.rtnl.proofs.text.tree.+printing.Goals as goal

pub push_held-returns-in_ok-push_attrs-in-List-clause-text : goal.push_held-returns-in_ok-push_attrs-in-List-clause-text
push_held-returns-in_ok-push_attrs-in-List-clause-text _ c =
    let a = c.args in
    let old = a.out.now.items in
    let inside = held_list a.order a.indent.now.items c.push.new.out.items a.ctx c.in-List.attrs c.in_ok-push-in-List.ensures in
    rw c.in-List.is (
    c.in_ok-push_attrs-in-List.ensures.text
    ∙ ap (λ l. old ++ items_text a.order (indented c.push.new.out.items) a.ctx (attrs_view l)) c.deref.ensures.value
    ∙ ap (λ t. old ++ t) inside)

pub push_held-returns-in_ok-push_hops-in-Hops-clause-text : goal.push_held-returns-in_ok-push_hops-in-Hops-clause-text
push_held-returns-in_ok-push_hops-in-Hops-clause-text _ c =
    let a = c.args in
    let old = a.out.now.items in
    let inside = held_hops a.order a.indent.now.items c.push-in-Hops.new.out.items a.ctx c.in-Hops.hops c.in_ok-push-in-Hops.ensures in
    rw c.in-Hops.is (
    c.in_ok-push_hops-in-Hops.ensures.text
    ∙ ap (λ l. old ++ hops_text a.order (indented c.push-in-Hops.new.out.items) (hops_view l)) c.deref-in-Hops.ensures.value
    ∙ ap (λ t. old ++ t) inside)

pub push_hop-returns-clause-text : goal.push_hop-returns-clause-text
unfolding deeper
push_hop-returns-clause-text _ c more =
    let a = c.args in
    let hop = a.hop.now in
    let indent = indented a.indent.now.items in
    let index : to_z w32 (of_z w32 (out-Hop hop).ifindex) ≡ (out-Hop hop).ifindex = search rules in
    let line = c.in_ok-push_hop_line.ensures ∙ λ i. a.out.now.items ++ hop_line (indented (c.as_slice.ensures.value i)) (out-Hop hop).flags (out-Hop hop).hops (index i) in
    let inside = c.in_ok-push_attrs.ensures.text ∙ λ i. c.push_hop_line.new.out.items ++ items_text a.order (indented (c.in_ok-push.ensures i)) Route (attrs_view (c.deref.ensures.value i)) in
    hop_written a.order indent hop more a.out.now.items c.push_hop_line.new.out.items c.push_attrs.new.out.items line inside
