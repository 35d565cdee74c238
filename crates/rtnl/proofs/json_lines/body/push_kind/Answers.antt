use Rattle.std.proofs.Common.{◌∙◌, sym}
use Rattle.rtnl.proofs.Objects.{no_kind}
use Rattle.rtnl.proofs.json_lines.body.push_kind.Goals as goal

pub returns-then-is_empty : goal.returns-then-is_empty
returns-then-is_empty c = no_kind c.args.line.now c.args.name.now (sym c.is_empty.ensures ∙ c.if-is_empty.true)
