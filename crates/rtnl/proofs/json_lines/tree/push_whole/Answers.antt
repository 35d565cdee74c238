use Rattle.rtnl.proofs.Common.{◌≡◌, ◌∷◌, ◌++◌, ◌∙◌, ap, codes, refl, true, IfOk-weaker, print, begin_object, reading_view}
use Rattle.rtnl.specs.Json.{fields_tokens, opened}
use Rattle.rtnl.specs.MessagesJson.{attr_front, flags_json, reading_fields}
use Rattle.rtnl.proofs.Fronts.{whole_object}
use Rattle.rtnl.proofs.json_lines.tree.push_whole.Goals as goal

pub returns : goal.returns
unfolding attr_front flags_json
returns c =
    let a = c.args in
    let r = reading_view a.reading in
    let front = print (begin_object ∷ fields_tokens (attr_front a.name.now a.number a.flags)) in
    let text : c.put_front.new.piece ≡ front ++ (44 ∷ (print (fields_tokens (reading_fields r)) ++ codes "}")) =
    rw (c.put_front.ensures.text, c.put-2.ensures.text, c.put_reading.ensures.text, c.put.ensures.text, c.new-piece.ensures) refl in
    IfOk-weaker c.piece.result _ _
    (λ _ e. e ∙ ap (λ t. opened a.line.now t true) text ∙ whole_object a.line.now a.name.now a.number a.flags.nested a.flags.net r) c.piece.ensures
