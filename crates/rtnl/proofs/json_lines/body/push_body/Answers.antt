use Rattle.std.proofs.Common.{◌≡◌, ◌∷◌, ◌∙◌, [], ap, codes, sym}
use Rattle.nl_frame.specs.View.{body_view}
use Rattle.rtnl.proofs.Common.{IfOk-weaker}
use Rattle.rtnl.specs.Json.{Field, ◌⊕◌, digits, fields_tokens}
use Rattle.rtnl.specs.MessagesJson.{body_fields, bytes_field, meant_fields}
use Rattle.rtnl.proofs.Json.{then_fields}
use Rattle.rtnl.proofs.json_lines.body.push_body.Goals as goal

pub returns-in_ok-digits-in-Other : goal.returns-in_ok-digits-in-Other
unfolding body_fields bytes_field
returns-in_ok-digits-in-Other c =
    let a = c.args in
    let w = a.line.now in
    let payload = c.in-Other.payload.items in
    let bytes : Field = (codes "bytes", digits payload) in
    let first : c.digits.new.self ≡ w ⊕ fields_tokens (bytes ∷ []) =
    c.in_ok-digits-in-Other.ensures ∙ ap (λ bs. w ⊕ fields_tokens ((codes "bytes", digits bs) ∷ [])) c.deref.ensures.value in
    IfOk-weaker c.push_meant.result _ _
    (λ _ e. then_fields w c.digits.new.self c.push_meant.new.line (bytes ∷ []) (meant_fields a.order a.kind payload) first
    (e ∙ ap (λ bs. c.digits.new.self ⊕ fields_tokens (meant_fields a.order a.kind bs)) c.deref-in-Other.ensures.value)
    ∙ sym (ap (λ body. w ⊕ fields_tokens (body_fields a.order a.kind a.flags (body_view body))) c.in-Other.is)) c.push_meant.ensures
