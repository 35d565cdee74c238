use Rattle.std.proofs.Common.{bytes_eq, ◌∙◌}
use Rattle.nl_table.proofs.Maps.{held-lookup}
use Rattle.nl_table.proofs.pairs.is_held.Goals as goal

pub returns : goal.returns
returns g c = c.contains_key.ensures ∙ held-lookup (bytes_eq c.args.key.now) c.args.map.now.entries
