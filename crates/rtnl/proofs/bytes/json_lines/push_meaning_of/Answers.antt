use Rattle.rtnl.proofs.Common.{◌∙◌, sym, IfOk-weaker}
use Rattle.nl_values.specs.Meanings.{sense_of}
use Rattle.rtnl.proofs.Meant.{meaning_written, no_meaning_written}
use Rattle.rtnl.proofs.bytes.json_lines.push_meaning_of.Goals as goal

pub returns-then-not-is_known : goal.returns-then-not-is_known
returns-then-not-is_known c =
    IfOk-weaker c.push_null.result _ _
    (λ _ written. no_meaning_written c.args.order c.args.format c.args.bytes.now (sense_of c.meaning_at-meaning.result) c.args.line.now c.push_null.new.line c.meaning_at-meaning.ensures
    (sym c.is_known.ensures ∙ c.if-not-is_known.true) written) c.push_null.ensures

pub returns : goal.returns
returns c =
    IfOk-weaker c.push_meaning.result _ _
    (λ _ written. meaning_written c.args.order c.args.format c.args.bytes.now (sense_of c.meaning_at-meaning.result) c.args.line.now c.key.new.self c.push_meaning.new.line c.meaning_at-meaning.ensures
    (sym c.is_known.ensures ∙ c.if-not-is_known.false) c.in_ok-key.ensures written) c.push_meaning.ensures
