use Rattle.nl_frame.proofs.Running.{runs_hold, sticks, refused, same_bounds}
use Rattle.nl_frame.proofs.Rooms.{runs_room}
use Rattle.nl_frame.proofs.laws.calls_build.Goals as goal

pub returns : goal.returns
returns c = record { puts = runs_hold; sticks = sticks; refused = refused; limits = same_bounds; room = runs_room }
