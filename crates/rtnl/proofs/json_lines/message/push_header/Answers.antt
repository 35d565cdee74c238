use Rattle.std.proofs.Common.{◌≡◌, ◌∷◌, ◌∙◌, [], ap, codes, rules}
use Rattle.rtnl.proofs.Common.{IfOk-weaker, names_json, flag_names}
use Rattle.rtnl.specs.Json.{Field, ◌⊕◌, fields_tokens, number, string}
use Rattle.rtnl.specs.MessagesJson.{header_fields}
use Rattle.rtnl.specs.Types.{type_flags, type_name}
use Rattle.rtnl.proofs.Json.{then_fields}
use Rattle.rtnl.proofs.json_lines.message.push_header.Goals as goal

pub returns : goal.returns
unfolding header_fields
returns c =
    let m = c.args.message.now in
    let w = c.args.line.now in
    let kind : Field = (codes "message", number m.kind) in
    let sort : Field = (codes "type", string (type_name m.kind)) in
    let flags : Field = (codes "flags", number m.flags) in
    let names : Field = (codes "flag_names", names_json (flag_names (type_flags m.kind)) m.flags) in
    let first : c.number.new.self ≡ w ⊕ fields_tokens (kind ∷ []) = search (rules, c.in_ok-number.ensures) in
    let second = then_fields w c.number.new.self c.push_type.new.line _ (sort ∷ []) first c.in_ok-push_type.ensures in
    let third = then_fields w c.push_type.new.line c.number-2.new.self _ (flags ∷ []) second (search (rules, c.in_ok-number-2.ensures)) in
    let fourth = then_fields w c.number-2.new.self c.push_names.new.line _ (names ∷ []) third
    (c.in_ok-push_names.ensures ∙ ap (λ n. c.number-2.new.self ⊕ fields_tokens ((codes "flag_names", names_json (flag_names n) m.flags) ∷ [])) c.message_type-names.ensures.flags) in
    let fifth = then_fields w c.push_names.new.line c.number-3.new.self _ ((codes "seq", number m.seq) ∷ []) fourth (search (rules, c.in_ok-number-3.ensures)) in
    IfOk-weaker c.number-4.result _ _ (λ _ end. then_fields w c.number-3.new.self c.number-4.new.self _ ((codes "port", number m.port) ∷ []) fifth (search (rules, end))) c.number-4.ensures
