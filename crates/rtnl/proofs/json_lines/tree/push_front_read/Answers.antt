use Rattle.rtnl.proofs.Common.{◌≡◌, ◌∷◌, ◌++◌, ◌∙◌, ap, IfOk-weaker, print, begin_object, reading_view}
use Rattle.std.proofs.Common.{append-nil, true}
use Rattle.rtnl.specs.Json.{fields_tokens, opened}
use Rattle.rtnl.specs.MessagesJson.{attr_front, flags_json, reading_fields}
use Rattle.rtnl.proofs.Fronts.{front_read}
use Rattle.rtnl.proofs.json_lines.tree.push_front_read.Goals as goal

pub returns : goal.returns
unfolding attr_front flags_json
returns c =
    let a = c.args in
    let r = reading_view a.reading in
    let front = print (begin_object ∷ fields_tokens (attr_front a.name.now a.number a.flags)) in
    let value = print (fields_tokens (reading_fields r)) in
    let text : c.put_front.new.piece ≡ front ++ (44 ∷ value) =
    rw (c.put_front.ensures.text, c.put.ensures.text, c.put_reading.ensures.text, c.new-piece.ensures) (ap (λ t. front ++ (44 ∷ t)) (append-nil value)) in
    IfOk-weaker c.piece.result _ _
    (λ _ e. e ∙ ap (λ t. opened a.line.now t true) text ∙ front_read a.line.now a.name.now a.number a.flags.nested a.flags.net r) c.piece.ensures
