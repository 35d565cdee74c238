use Rattle.std.proofs.Common.{◌∙◌, rules}
use Rattle.rtnl.proofs.Json.{whole_line}
use Rattle.rtnl.proofs.json_lines.line.Line.end.Goals as goal

pub returns : goal.returns
returns c = λ before fields written.
    search (rules, c.self.view_is, c.in_ok-push.ensures) ∙ whole_line before fields c.args.self written
