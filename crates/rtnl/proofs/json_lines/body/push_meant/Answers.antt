use Rattle.rtnl.proofs.Common.{IfOk-weaker}
use Rattle.nl_values.specs.Known.{attribute_view}
use Rattle.nl_values.specs.Meanings.{sense_of}
use Rattle.rtnl.proofs.Objects.{meant}
use Rattle.rtnl.proofs.json_lines.body.push_meant.Goals as goal

pub returns : goal.returns
returns c =
    let a = c.args in
    IfOk-weaker c.push_data.result _ _
    (λ _ shown. meant a.order a.kind a.payload.now c.bytes_up_to.result.now (attribute_view c.known-known.result) (sense_of c.meaning_at-meaning.result) a.line.now c.push_kind.new.line c.push_data.new.line
    c.known-known.ensures.says c.bytes_up_to.ensures c.meaning_at-meaning.ensures c.in_ok-push_kind.ensures shown) c.push_data.ensures
