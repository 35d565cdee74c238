use Rattle.std.proofs.Common.{◌≡◌, ◌∷◌, ◌++◌, ◌∙◌, [], List, codes, refl, rules}
use Rattle.rtnl.proofs.Common.{IfOk-weaker, signed_decimal, link_flags, names_json}
use Rattle.json.specs.Print.{escape_byte, print, print_from}
use Rattle.rtnl.specs.Json.{Field, fields_tokens, number, signed}
use Rattle.rtnl.specs.Link.{link_head_fields}
use Rattle.rtnl.proofs.Json.{fields_together, then_fields}
use Rattle.rtnl.proofs.json_lines.heads.LinkHeadHeadFields.push_fields.Goals as goal

pub returns : goal.returns
unfolding link_head_fields fields_tokens print_from escape_byte
returns c =
    let h = c.args.self.now in
    let w = c.args.line.now in
    let index : c.put_signed.new.self ≡ signed_decimal h.index ++ c.put_field.new.self = search (rules, c.put_signed.ensures.text) in
    let front : List Field =
    (codes "family", number h.family)
    ∷ (codes "type", number h.hardware)
    ∷ (codes "index", signed h.index)
    ∷ (codes "flags", number h.flags) ∷ [] in
    let names : Field = (codes "flag_names", names_json link_flags h.flags) in
    let change : Field = (codes "change", number h.change) in
    let text : c.put_small.new.self ≡ print (fields_tokens front) =
    rw (c.put_small.ensures.text, c.put_field-2.ensures.text, c.put.ensures.text, index, c.put_field.ensures.text, c.new-piece.ensures) refl in
    let first = c.in_ok-piece.ensures ∙ fields_together w front c.put_small.new.self text refl in
    let second = then_fields w c.piece.new.self c.push_names.new.line front (names ∷ []) first c.in_ok-push_names.ensures in
    IfOk-weaker c.number.result _ _ (λ _ last. then_fields w c.push_names.new.line c.number.new.self (front ++ names ∷ []) (change ∷ []) second (search (rules, last))) c.number.ensures
