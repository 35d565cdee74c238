use Rattle.rtnl.proofs.Common.{◌≡◌, ◌∷◌, ◌++◌, ◌∙◌, [], List, Some, ap, codes, sym, IfOk-weaker, attrs_view, context_of, family_of}
use Rattle.rtnl.specs.Json.{Field, ◌⊕◌, array, fields_tokens}
use Rattle.rtnl.specs.MessagesJson.{address_family, family_field, head_fields, list_json, set_of}
use Rattle.rtnl.proofs.Json.{an_object, then_fields}
use Rattle.rtnl.proofs.json_lines.heads.ObjectItemField.push_value.Goals as goal

pub returns : goal.returns
unfolding family_field
returns g c =
    let h = g.H.FamilyHead.as_any c.args.self.now.head in
    let w = c.args.line.now in
    let o = c.args.order in
    let ctx : c.context.result ≡ context_of (family_of h) = c.context.ensures ∙ g.met.H.FamilyHead.same c.args.self.now.head in
    let set : c.set_of.result ≡ set_of (family_of h) = c.set_of.ensures ∙ ap set_of (c.family.ensures ∙ sym (g.met.H.FamilyHead.named c.args.self.now.head)) in
    let byte : c.address_family.result ≡ address_family h = c.address_family.ensures in
    let attrs : List Field = (codes "attrs", array (list_json o (address_family h ∷ []) (Some (set_of (family_of h))) (context_of (family_of h)) (attrs_view c.args.self.now.attrs.items))) ∷ [] in
    let held : c.push_attrs.new.line ≡ c.push_fields.new.line ⊕ fields_tokens attrs =
    c.in_ok-push_attrs.ensures ∙ λ i. c.push_fields.new.line ⊕ fields_tokens ((codes "attrs", array (list_json o (byte i ∷ []) (Some (set i)) (ctx i) (attrs_view (c.deref.ensures.value i)))) ∷ []) in
    let fields = then_fields c.begin_object.new.self c.push_fields.new.line c.push_attrs.new.line (head_fields h) attrs c.in_ok-push_fields.ensures held in
    IfOk-weaker c.end_object.result _ _
    (λ _ ended. an_object w c.begin_object.new.self c.push_attrs.new.line c.end_object.new.self (head_fields h ++ attrs) c.in_ok-begin_object.ensures fields ended) c.end_object.ensures
