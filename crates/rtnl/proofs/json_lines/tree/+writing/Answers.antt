use Rattle.std.proofs.Common.{◌≡◌, ◌∷◌, ◌∙◌, [], Option, ap, codes, of_z, rules, sym, to_z, w32}
use Rattle.rtnl.proofs.Common.{IfOk-weaker, Route, out-Hop, attrs_view, hops_view, hops_json}
use Rattle.nl_values.specs.Known.{attribute_view}
use Rattle.nl_values.specs.declared.set.Set.{Set}
use Rattle.rtnl.specs.Data.{parts_in}
use Rattle.rtnl.specs.Json.{Field, ◌⊕◌, array, fields_tokens, string, values_tokens}
use Rattle.rtnl.specs.MessagesJson.{attr_front, hop_front, items_fields, list_json, set_inside}
use Rattle.rtnl.proofs.Json.{an_item}
use Rattle.rtnl.proofs.Objects.{array_field, attr_written, three_parts}
use Rattle.rtnl.proofs.Trees.{hop_item}
use Rattle.rtnl.proofs.json_lines.tree.+writing.Goals as goal

pub push_each_attr-loop-attr-preserved : goal.push_each_attr-loop-attr-preserved
push_each_attr-loop-attr-preserved t c =
    let a = c.args in
    let l = c.loop-attr in
    attr_written a.scope.order a.scope.family.now a.set l.left c.left_behind-left.result (parts_in (attrs_view a.attrs.now)) a.ctx a.attrs.now l.attr-index c.attr-item.result (attribute_view c.known-known.result) c.kind_in_list-kind.result.now l.line c.push_attr.new.line _
    c.loop-attr-test.true (search rules) c.known-known.ensures.says c.kind_in_list-kind.ensures c.left_behind-left.ensures c.in_ok-push_attr.ensures l.invariant

pub push_list-returns : goal.push_list-returns
unfolding items_fields
push_list-returns t c =
    let a = c.args in
    let o = a.scope.order in
    let family = a.scope.family.now in
    let form : Field = (codes "form", string (codes "list")) in
    let items : Option Set → Field = λ set. (codes "items", array (list_json o family set a.ctx (attrs_view a.attrs.now))) in
    let held : c.push_attrs.new.line ≡ c.text.new.self ⊕ fields_tokens (items (set_inside o a.kind.now a.known.format) ∷ []) =
    c.in_ok-push_attrs.ensures ∙ ap (λ set. c.text.new.self ⊕ fields_tokens (items set ∷ [])) c.set_inside-set.ensures in
    IfOk-weaker c.end_object.result _ _
    (λ _ ended. three_parts a.line.now c.push_attr_front.new.line c.text.new.self c.push_attrs.new.line c.end_object.new.self
    (attr_front a.known.name.now a.number a.flags) (form ∷ []) (items (set_inside o a.kind.now a.known.format) ∷ [])
    c.in_ok-push_attr_front.ensures c.in_ok-text.ensures held ended) c.end_object.ensures

pub push_hops-returns : goal.push_hops-returns
unfolding items_fields
push_hops-returns t c =
    let a = c.args in
    let o = a.scope.order in
    let family = a.scope.family.now in
    let set = set_inside o a.kind.now a.known.format in
    let form : Field = (codes "form", string (codes "hops")) in
    let values = hops_json o family set (hops_view a.hops.now) in
    let each : c.push_each_hop.new.line ≡ c.begin_array.new.self ⊕ values_tokens values =
    c.in_ok-push_each_hop.ensures ∙ ap (λ set. c.begin_array.new.self ⊕ values_tokens (hops_json o family set (hops_view a.hops.now))) c.set_inside-set.ensures in
    let held = array_field c.text.new.self c.key.new.self c.begin_array.new.self c.push_each_hop.new.line c.end_array.new.self (codes "items") values
    c.in_ok-key.ensures c.in_ok-begin_array.ensures each c.in_ok-end_array.ensures in
    IfOk-weaker c.end_object.result _ _
    (λ _ ended. three_parts a.line.now c.push_attr_front.new.line c.text.new.self c.end_array.new.self c.end_object.new.self
    (attr_front a.known.name.now a.number a.flags) (form ∷ []) ((codes "items", array values) ∷ [])
    c.in_ok-push_attr_front.ensures c.in_ok-text.ensures held ended) c.end_object.ensures

pub push_hop-returns : goal.push_hop-returns
push_hop-returns t c =
    let one = out-Hop c.args.hop.now in
    let o = c.args.scope.order in
    let family = c.args.scope.family.now in
    let set = c.args.set in
    let held = (codes "attrs", array (list_json o family set Route (attrs_view one.attrs.items))) ∷ [] in
    let is_held : c.push_attrs.new.line ≡ c.push_hop_front.new.line ⊕ fields_tokens held =
    c.in_ok-push_attrs.ensures ∙ λ i. c.push_hop_front.new.line ⊕ fields_tokens ((codes "attrs", array (list_json o family set Route (attrs_view (c.deref.ensures.value i)))) ∷ []) in
    let index : to_z w32 (of_z w32 one.ifindex) ≡ one.ifindex = search rules in
    let front : c.push_hop_front.new.line ≡ c.begin_object.new.self ⊕ fields_tokens (hop_front one.flags one.hops one.ifindex) =
    c.in_ok-push_hop_front.ensures ∙ ap (λ z. c.begin_object.new.self ⊕ fields_tokens (hop_front one.flags one.hops z)) index in
    IfOk-weaker c.end_object.result _ _
    (λ _ ended more. an_item c.args.line.now c.begin_object.new.self c.push_hop_front.new.line c.push_attrs.new.line c.end_object.new.self (hop_front one.flags one.hops one.ifindex) held (hops_json o family set more)
    c.in_ok-begin_object.ensures front is_held ended
    ∙ sym (ap (λ items. c.args.line.now ⊕ values_tokens (hops_json o family set items)) (hop_item c.args.hop.now more))) c.end_object.ensures
