use Rattle.rtnl.proofs.Common.{refl, IfOk-equal}
use Rattle.rtnl.specs.Rule.{rule_line}
use Rattle.rtnl.proofs.text.heads.RuleHeadHeadLine.push_line.Goals as goal

pub returns : goal.returns
unfolding rule_line
returns c =
    IfOk-equal c.push_to.result _ _ _ c.push_to.ensures
    (rw (c.put_field-6.ensures.text, c.put_field-5.ensures.text, c.put_field-4.ensures.text, c.put_field-3.ensures.text, c.put_field-2.ensures.text, c.put_field.ensures.text, c.put-2.ensures.text, c.put_hex8.ensures.text, c.put.ensures.text, c.new-line.ensures) refl)
