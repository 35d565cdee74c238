use Rattle.rtnl.proofs.Common.{◌∙◌, sym}
use Rattle.rtnl.specs.MessagesJson.{has_attributes}
use Rattle.rtnl.proofs.Objects.{absent}
use Rattle.rtnl.proofs.json_lines.body.push_extack.Goals as goal

pub returns-then-not-has_attributes : goal.returns-then-not-has_attributes
returns-then-not-has_attributes c = absent c.args.line.now (has_attributes c.args.flags) _ (sym c.has_attributes.ensures ∙ c.if-not-has_attributes.true)
