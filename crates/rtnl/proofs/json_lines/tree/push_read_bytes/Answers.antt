use Rattle.std.proofs.Common.{◌≡◌, ◌∷◌, ◌∙◌, ap, refl}
use Rattle.rtnl.proofs.Common.{IfOk-weaker, begin_object, reading_view}
use Rattle.rtnl.specs.Data.{data_fields, shown_sense}
use Rattle.rtnl.specs.Json.{◌⊕◌, fields_tokens}
use Rattle.rtnl.specs.MessagesJson.{attr_front, reading_fields, sense_beside}
use Rattle.rtnl.proofs.Objects.{three_parts}
use Rattle.rtnl.proofs.json_lines.tree.push_read_bytes.Goals as goal

pub returns : goal.returns
returns c =
    let a = c.args in
    let o = a.scope.order in
    let family = a.scope.family.now in
    let payload = a.payload.now in
    let reading = reading_view a.reading in
    let front = a.line.now ⊕ (begin_object ∷ fields_tokens (attr_front a.known.name.now a.number a.flags)) in
    let sense = sense_beside o reading a.flags.net a.known.format a.kind.now payload in
    let shown : c.push_data.new.line ≡ c.push_read.new.line ⊕ fields_tokens (data_fields (shown_sense o family sense payload)) =
    c.in_ok-push_data.ensures ∙ ap (λ s. c.push_read.new.line ⊕ fields_tokens (data_fields (shown_sense o family s payload))) c.meaning_beside-meaning.ensures in
    IfOk-weaker c.end_object.result _ _
    (λ _ ended. three_parts a.line.now front c.push_read.new.line c.push_data.new.line c.end_object.new.self
    (attr_front a.known.name.now a.number a.flags) (reading_fields reading) (data_fields (shown_sense o family sense payload))
    refl c.in_ok-push_read.ensures shown ended) c.end_object.ensures
