use Rattle.std.proofs.Common.{◌≡◌, rules}
use Rattle.rtnl.specs.Attributes.{attribute_name, row_of}
use Rattle.rtnl.proofs.Unescaped.{short_name}
use Rattle.rtnl.proofs.names.attributes.attribute.Goals as goal

pub returns-in-Some-clause-short : goal.returns-in-Some-clause-short
unfolding row_of
returns-in-Some-clause-short c =
    let name : c.in-Some.row.0.now ≡ attribute_name c.args.ctx c.args.number = search rules in
    rw name (short_name c.args.ctx c.args.number)
