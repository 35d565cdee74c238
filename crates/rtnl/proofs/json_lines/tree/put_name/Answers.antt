use Rattle.std.proofs.Common.{◌∙◌, sym}
use Rattle.rtnl.proofs.Objects.{a_name, no_name}
use Rattle.rtnl.proofs.json_lines.tree.put_name.Goals as goal

pub returns-then-is_empty-clause-text : goal.returns-then-is_empty-clause-text
returns-then-is_empty-clause-text c = c.put.ensures.text ∙ no_name c.args.name.now c.args.piece.now (sym c.is_empty.ensures ∙ c.if-is_empty.true)

pub returns-clause-text : goal.returns-clause-text
returns-clause-text c =
    rw (c.put-4.ensures.text, c.put-3.ensures.text, c.put-2.ensures.text)
    (a_name c.args.name.now c.args.piece.now (sym c.is_empty.ensures ∙ c.if-is_empty.false) c.requires.plain)
