use Rattle.nl_frame.proofs.Trees.{calls_put}
use Rattle.nl_frame.proofs.Builds.{builds}
use Rattle.nl_frame.proofs.laws.calls_of_messages.Goals as goal

pub returns : goal.returns
returns c = record { puts = calls_put; builds = builds }
