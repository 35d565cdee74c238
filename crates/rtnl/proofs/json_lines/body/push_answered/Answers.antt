use Rattle.std.proofs.Common.{◌≡◌, ◌∷◌, [], codes, rules}
use Rattle.rtnl.proofs.Common.{IfOk-weaker}
use Rattle.rtnl.specs.Json.{Field, ◌⊕◌, fields_tokens, number}
use Rattle.rtnl.specs.MessagesJson.{answered_json, meant_fields}
use Rattle.rtnl.proofs.Json.{an_object, named_value, then_fields}
use Rattle.rtnl.proofs.json_lines.body.push_answered.Goals as goal

pub returns : goal.returns
returns c =
    let h = c.args.answered.now in
    let o = c.args.order in
    let payload = c.args.payload.now in
    let begun = c.begin_object.new.self in
    let len : Field = (codes "len", number h.len) in
    let sort : Field = (codes "type", number h.kind) in
    let flags : Field = (codes "flags", number h.flags) in
    let seq : Field = (codes "seq", number h.seq) in
    let port : Field = (codes "port", number h.port) in
    let first : c.number.new.self ≡ begun ⊕ fields_tokens (len ∷ []) = search (rules, c.in_ok-number.ensures) in
    let second = then_fields begun c.number.new.self c.number-2.new.self (len ∷ []) (sort ∷ []) first (search (rules, c.in_ok-number-2.ensures)) in
    let third = then_fields begun c.number-2.new.self c.number-3.new.self (len ∷ sort ∷ []) (flags ∷ []) second (search (rules, c.in_ok-number-3.ensures)) in
    let fourth = then_fields begun c.number-3.new.self c.number-4.new.self (len ∷ sort ∷ flags ∷ []) (seq ∷ []) third (search (rules, c.in_ok-number-4.ensures)) in
    let fifth = then_fields begun c.number-4.new.self c.number-5.new.self (len ∷ sort ∷ flags ∷ seq ∷ []) (port ∷ []) fourth (search (rules, c.in_ok-number-5.ensures)) in
    let all = then_fields begun c.number-5.new.self c.push_meant.new.line (len ∷ sort ∷ flags ∷ seq ∷ port ∷ []) (meant_fields o h.kind payload) fifth c.in_ok-push_meant.ensures in
    IfOk-weaker c.end_object.result _ _
    (λ _ ended. named_value c.args.line.now c.key.new.self c.end_object.new.self (codes "answers") (answered_json o h payload) c.in_ok-key.ensures
    (an_object c.key.new.self begun c.push_meant.new.line c.end_object.new.self (len ∷ sort ∷ flags ∷ seq ∷ port ∷ meant_fields o h.kind payload) c.in_ok-begin_object.ensures all ended)) c.end_object.ensures
