use Rattle.rtnl.proofs.Common.{◌∙◌, [], sym, IfOk-weaker}
use Rattle.nl_attr.specs.Fixed.{STANDARD_LEVELS}
use Rattle.nl_values.specs.Meanings.{sense_of}
use Rattle.std.specs.Prelude.{◌-◌}
use Rattle.rtnl.specs.Data.{data_json, parts_of}
use Rattle.rtnl.proofs.Payloads.{data_missing, data_written, no_parts}
use Rattle.rtnl.proofs.json_lines.data.inside.push_data.Goals as goal

pub returns-then-not-is_known : goal.returns-then-not-is_known
returns-then-not-is_known c =
    data_missing c.args.scope.order c.args.scope.family.now (data_json c.args.scope.order c.args.scope.family.now (STANDARD_LEVELS - 1)) c.args.payload.now (sense_of c.args.meaning) c.args.line.now
    (sym c.is_known.ensures ∙ c.if-not-is_known.true)

pub returns : goal.returns
returns c =
    let order = c.args.scope.order in
    let family = c.args.scope.family.now in
    IfOk-weaker c.push_meaning.result _ _
    (λ _ written. data_written order family (data_json order family (STANDARD_LEVELS - 1)) (parts_of order []) c.args.payload.now (sense_of c.args.meaning) c.args.line.now c.data_key.new.self c.push_meaning.new.line
    (no_parts order) (sym c.is_known.ensures ∙ c.if-not-is_known.false) c.in_ok-data_key.ensures written) c.push_meaning.ensures
