use Rattle.rtnl.proofs.Common.{Decides-eqb}
use Rattle.std.proofs.lemmas.Slice.Eq.{strip_prefix_is}
use Rattle.rtnl.proofs.Headings.{stripped}
use Rattle.rtnl.proofs.recordings.heading.behind.Goals as goal

pub returns : goal.returns
returns c =
    stripped c.args.words.now c.args.bytes.now c.strip_prefix.result
    (strip_prefix_is Decides-eqb c.args.bytes.now c.args.words.now c.strip_prefix.result c.strip_prefix.ensures.cases)
