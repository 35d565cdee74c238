use Rattle.nl_values.specs.Known.{chosen_format}
use Rattle.nl_values.proofs.choice.Choice.format.Goals as goal

pub returns : goal.returns
unfolding chosen_format
returns c = c.format_in.ensures
