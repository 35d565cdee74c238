use Rattle.rtnl.proofs.Words.{word_unescaped}
use Rattle.rtnl.proofs.json_lines.data.inside.known.Goals as goal

pub returns-in-Some-attribute-clause-plain : goal.returns-in-Some-attribute-clause-plain
returns-in-Some-attribute-clause-plain c = word_unescaped c.in-Some-attribute.attribute.name.now c.in-Some-attribute.ensures.word
