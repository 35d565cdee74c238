use Rattle.std.proofs.Common.{◌≡◌, ◌∷◌, ◌∙◌, [], ap, codes, of_z, rules, to_z, w32}
use Rattle.rtnl.proofs.Common.{IfOk-weaker}
use Rattle.rtnl.specs.Json.{Field, ◌⊕◌, digits, fields_tokens, object, signed}
use Rattle.rtnl.specs.MessagesJson.{done_field, extack_fields}
use Rattle.rtnl.proofs.Json.{an_object, named_value, then_fields}
use Rattle.rtnl.proofs.json_lines.body.push_done.Goals as goal

pub returns : goal.returns
unfolding done_field
returns c =
    let a = c.args in
    let begun = c.begin_object.new.self in
    let is : to_z w32 (of_z w32 a.status) ≡ a.status = search rules in
    let status : Field = (codes "status", signed a.status) in
    let tail : Field = (codes "tail", digits a.tail.now) in
    let first : c.signed.new.self ≡ begun ⊕ fields_tokens (status ∷ []) = c.in_ok-signed.ensures ∙ ap (λ z. begun ⊕ fields_tokens ((codes "status", signed z) ∷ [])) is in
    let second = then_fields begun c.signed.new.self c.digits.new.self (status ∷ []) (tail ∷ []) first c.in_ok-digits.ensures in
    let fields = status ∷ tail ∷ extack_fields a.order a.flags a.tail.now in
    let all = then_fields begun c.digits.new.self c.push_extack.new.line (status ∷ tail ∷ []) (extack_fields a.order a.flags a.tail.now) second c.in_ok-push_extack.ensures in
    IfOk-weaker c.end_object.result _ _
    (λ _ ended. named_value a.line.now c.key.new.self c.end_object.new.self (codes "done") (object fields) c.in_ok-key.ensures
    (an_object c.key.new.self begun c.push_extack.new.line c.end_object.new.self fields c.in_ok-begin_object.ensures all ended)) c.end_object.ensures
