use Rattle.std.proofs.Common.{◌≡◌, ◌∷◌, ◌++◌, ◌∙◌, [], List, codes, refl, rules}
use Rattle.rtnl.proofs.Common.{IfOk-weaker, signed_decimal, neigh_flags, neigh_states, names_json}
use Rattle.json.specs.Print.{escape_byte, print, print_from}
use Rattle.rtnl.specs.Json.{Field, fields_tokens, number, signed}
use Rattle.rtnl.specs.Neigh.{neigh_head_fields}
use Rattle.rtnl.proofs.Json.{fields_together, then_fields}
use Rattle.rtnl.proofs.json_lines.heads.NeighHeadHeadFields.push_fields.Goals as goal

pub returns : goal.returns
unfolding neigh_head_fields fields_tokens print_from escape_byte
returns c =
    let h = c.args.self.now in
    let w = c.args.line.now in
    let index : c.put_signed.new.self ≡ signed_decimal h.ifindex ++ c.put_field.new.self = search (rules, c.put_signed.ensures.text) in
    let front : List Field = (codes "family", number h.family) ∷ (codes "index", signed h.ifindex) ∷ (codes "state", number h.state) ∷ [] in
    let states : Field = (codes "state_names", names_json neigh_states h.state) in
    let flags : Field = (codes "flags", number h.flags) in
    let names : Field = (codes "flag_names", names_json neigh_flags h.flags) in
    let sort : Field = (codes "type", number h.sort) in
    let text : c.put_small.new.self ≡ print (fields_tokens front) =
    rw (c.put_small.ensures.text, c.put.ensures.text, index, c.put_field.ensures.text, c.new-piece.ensures) refl in
    let first = c.in_ok-piece.ensures ∙ fields_together w front c.put_small.new.self text refl in
    let second = then_fields w c.piece.new.self c.push_names.new.line front (states ∷ []) first c.in_ok-push_names.ensures in
    let third = then_fields w c.push_names.new.line c.number.new.self (front ++ states ∷ []) (flags ∷ []) second (search (rules, c.in_ok-number.ensures)) in
    let fourth = then_fields w c.number.new.self c.push_names-2.new.line (front ++ states ∷ flags ∷ []) (names ∷ []) third c.in_ok-push_names-2.ensures in
    IfOk-weaker c.number-2.result _ _ (λ _ last. then_fields w c.push_names-2.new.line c.number-2.new.self (front ++ states ∷ flags ∷ names ∷ []) (sort ∷ []) fourth (search (rules, last))) c.number-2.ensures
