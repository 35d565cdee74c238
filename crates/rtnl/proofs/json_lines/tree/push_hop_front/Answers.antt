use Rattle.std.proofs.Common.{◌≡◌, ◌∷◌, ◌∙◌, ℤ, [], List, ap, codes, of_z, rules, to_z, w32}
use Rattle.rtnl.proofs.Common.{IfOk-weaker, hop_flags, names_json}
use Rattle.rtnl.specs.Json.{Field, ◌⊕◌, fields_tokens, number, signed}
use Rattle.rtnl.specs.MessagesJson.{hop_front}
use Rattle.rtnl.proofs.Json.{then_fields}
use Rattle.rtnl.proofs.json_lines.tree.push_hop_front.Goals as goal

pub returns : goal.returns
unfolding hop_front
returns c =
    let index : to_z w32 (of_z w32 c.args.index) ≡ c.args.index = search rules in
    let w = c.args.line.now in
    let flags : Field = (codes "flags", number c.args.flags) in
    let names : Field = (codes "flag_names", names_json hop_flags c.args.flags) in
    let behind : ℤ → List Field = λ z. (codes "hops", number c.args.hops) ∷ (codes "index", signed z) ∷ [] in
    IfOk-weaker c.push_hop_numbers.result _ _
    (λ _ last. then_fields w c.push_names.new.line c.push_hop_numbers.new.line (flags ∷ names ∷ []) (behind c.args.index)
    (then_fields w c.number.new.self c.push_names.new.line (flags ∷ []) (names ∷ []) (search (rules, c.in_ok-number.ensures)) c.in_ok-push_names.ensures)
    (last ∙ ap (λ z. c.push_names.new.line ⊕ fields_tokens (behind z)) index)) c.push_hop_numbers.ensures
