use Rattle.std.proofs.Common.{rules, ◌≡◌, true}
use Rattle.rtnl.specs.Lines.{is_comment}
use Rattle.rtnl.proofs.Mirrors.{comment_step}
use Rattle.rtnl.proofs.runs.steps.read_step.Goals as goal

pub returns-then-begins_comment : goal.returns-then-begins_comment
returns-then-begins_comment c =
    let is : is_comment c.args.line.now ≡ true = search rules in
    comment_step c.args.family c.args.line.now c.args.bytes.now.items c.comment_says.result is (c.comment_says.ensures c.args.bytes.now.items)
