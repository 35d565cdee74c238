use Rattle.std.proofs.Common.{◌∷◌, ◌++◌, ◌∙◌, ap, append-nil, refl, true}
use Rattle.rtnl.proofs.Common.{IfOk-weaker, print, begin_object}
use Rattle.rtnl.specs.Json.{fields_tokens}
use Rattle.rtnl.specs.MessagesJson.{attr_front, flags_json}
use Rattle.rtnl.proofs.Json.{opens}
use Rattle.rtnl.proofs.Fronts.{front_ended}
use Rattle.rtnl.proofs.json_lines.tree.push_attr_front.Goals as goal

pub returns : goal.returns
unfolding attr_front flags_json
returns c =
    let a = c.args in
    let fields = fields_tokens (attr_front a.name.now a.number a.flags) in
    let text = c.put_front.ensures.text ∙ ap (λ t. print (begin_object ∷ fields) ++ t) c.new-piece.ensures ∙ append-nil (print (begin_object ∷ fields)) in
    IfOk-weaker c.piece.result _ _
    (λ _ e. e ∙ opens a.line.now begin_object fields c.put_front.new.piece true refl text (front_ended a.name.now a.number a.flags.nested a.flags.net)) c.piece.ensures
