use Rattle.rtnl.proofs.Headline.{headline_of_tables}
use Rattle.rtnl.proofs.laws.headline_of_tables.Goals as goal

pub returns : goal.returns
returns c = headline_of_tables
