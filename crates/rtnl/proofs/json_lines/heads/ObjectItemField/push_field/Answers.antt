use Rattle.rtnl.proofs.Common.{◌≡◌, ◌∷◌, ◌∙◌, [], ap, sym, IfOk-weaker, key, attrs_view, family_of, name_of}
use Rattle.rtnl.specs.Json.{◌⊕◌}
use Rattle.rtnl.specs.MessagesJson.{family_field}
use Rattle.rtnl.proofs.Json.{named_value}
use Rattle.rtnl.proofs.Unescaped.{unescaped_family}
use Rattle.rtnl.proofs.json_lines.heads.ObjectItemField.push_field.Goals as goal

pub key-requires : goal.key-requires
key-requires g c = rw c.row.ensures.name (unescaped_family c.family.result)

pub returns : goal.returns
unfolding family_field
returns g c =
    let h = g.H.FamilyHead.as_any c.args.self.now.head in
    let w = c.args.line.now in
    let name : c.row.result.name.now ≡ name_of (family_of h) = c.row.ensures.name ∙ ap name_of (c.family.ensures ∙ sym (g.met.H.FamilyHead.named c.args.self.now.head)) in
    let named = c.in_ok-key.ensures ∙ ap (λ n. w ⊕ (key n ∷ [])) name in
    IfOk-weaker c.push_value.result _ _
    (λ _ written. named_value w c.key.new.self c.push_value.new.line (name_of (family_of h)) (family_field c.args.order h (attrs_view c.args.self.now.attrs.items)).1 named written) c.push_value.ensures
