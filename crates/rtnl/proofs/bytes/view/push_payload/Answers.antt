use Rattle.rtnl.proofs.Common.{◌++◌, ◌∙◌, ◌-◌, IfOk-weaker, attr_list_view, marks_in}
use Rattle.nl_attr.specs.Fixed.{STANDARD_LEVELS}
use Rattle.nl_values.specs.Meanings.{resolved_format}
use Rattle.rtnl.specs.declared.bytes.notation.Notation.TheVariants.{Payload, Meaning}
use Rattle.rtnl.specs.declared.bytes.parts.Depth.TheVariants.{Level}
use Rattle.rtnl.specs.Inside.{inside_marks, sense_marks}
use Rattle.rtnl.specs.MessagesJson.{sense_beside}
use Rattle.rtnl.specs.Values.{reading_of}
use Rattle.rtnl.proofs.Payloads.{no_parts}
use Rattle.rtnl.proofs.bytes.view.push_payload.Goals as goal

pub returns : goal.returns
returns c =
    let o = c.args.order in
    let list = attr_list_view c.args.list.now in
    let e = c.args.event.now in
    let content = c.content_of-content.ensures in
    let kind = c.kind_here-kind.ensures in
    let known = c.known_here-format.ensures in
    let style = c.attribute-style.ensures.style in
    let format = c.resolved.ensures ∙ (λ j. resolved_format o (kind j) (known j).format) in
    let reading = c.read_payload-reading.ensures ∙ (λ j. reading_of o (style j) e.net (content j)) in
    let means = c.meaning_beside-meaning.ensures ∙ (λ j. sense_beside o (reading j) e.net (known j).format (kind j) (content j)) in
    IfOk-weaker c.push_sense.result _ _
    (λ _ seen.
    seen
    ∙ (λ j. marks_in c.args.pieces.now.items
    ++ sense_marks o list.family (inside_marks o list.family (STANDARD_LEVELS - 1)) (Level (c.into.ensures j)) (c.payload_name-name.ensures j) (no_parts o j) (content j)
    (Payload (style j) e.net) (Meaning (format j)) (means j))) c.push_sense.ensures
