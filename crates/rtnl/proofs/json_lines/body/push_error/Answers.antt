use Rattle.std.proofs.Common.{◌≡◌, ◌∷◌, ◌∙◌, [], List, ℕ, ap, codes, drop, of_z, rules, take, to_z, w32}
use Rattle.nl_attr.specs.Numbers.{aligned}
use Rattle.rtnl.proofs.Common.{IfOk-weaker}
use Rattle.rtnl.specs.Json.{Field, ◌⊕◌, digits, fields_tokens, object, signed}
use Rattle.rtnl.specs.MessagesJson.{answered_json, echoed, error_field, extack_fields}
use Rattle.rtnl.proofs.Json.{an_object, named_value, then_fields}
use Rattle.rtnl.proofs.json_lines.body.push_error.Goals as goal

pub returns : goal.returns
unfolding error_field
returns c =
    let a = c.args in
    let o = a.order in
    let h = a.answered.now in
    let count = echoed a.flags a.code h in
    let begun = c.begin_object.new.self in
    let is : to_z w32 (of_z w32 a.code) ≡ a.code = search rules in
    let code : Field = (codes "code", signed a.code) in
    let answers : List ℕ → Field = λ payload. (codes "answers", answered_json o h payload) in
    let tail : Field = (codes "tail", digits a.tail.now) in
    let count_is : c.echo_of-echoed.result ≡ count = search (rules, c.echo_of-echoed.ensures.value) in
    let payload : c.bytes_up_to.result.now ≡ take count a.tail.now = c.bytes_up_to.ensures ∙ ap (λ n. take n a.tail.now) count_is in
    let attrs : c.bytes_from.result.now ≡ drop (aligned count) a.tail.now = c.bytes_from.ensures ∙ ap (λ n. drop n a.tail.now) (c.align4.ensures ∙ ap aligned count_is) in
    let first : c.signed.new.self ≡ begun ⊕ fields_tokens (code ∷ []) = c.in_ok-signed.ensures ∙ ap (λ z. begun ⊕ fields_tokens ((codes "code", signed z) ∷ [])) is in
    let second = then_fields begun c.signed.new.self c.push_answered.new.line (code ∷ []) (answers (take count a.tail.now) ∷ []) first
    (c.in_ok-push_answered.ensures ∙ ap (λ payload. c.signed.new.self ⊕ fields_tokens (answers payload ∷ [])) payload) in
    let third = then_fields begun c.push_answered.new.line c.digits.new.self (code ∷ answers (take count a.tail.now) ∷ []) (tail ∷ []) second c.in_ok-digits.ensures in
    let extack = extack_fields o a.flags (drop (aligned count) a.tail.now) in
    let all = then_fields begun c.digits.new.self c.push_extack.new.line (code ∷ answers (take count a.tail.now) ∷ tail ∷ []) extack third
    (c.in_ok-push_extack.ensures ∙ ap (λ attrs. c.digits.new.self ⊕ fields_tokens (extack_fields o a.flags attrs)) attrs) in
    let fields = code ∷ answers (take count a.tail.now) ∷ tail ∷ extack in
    IfOk-weaker c.end_object.result _ _
    (λ _ ended. named_value a.line.now c.key.new.self c.end_object.new.self (codes "error") (object fields) c.in_ok-key.ensures
    (an_object c.key.new.self begun c.push_extack.new.line c.end_object.new.self fields c.in_ok-begin_object.ensures all ended)) c.end_object.ensures
