use Rattle.std.proofs.Common.{Some, refl, rules}
use Rattle.rtnl.proofs.recordings.lines.read_digits.Goals as goal

pub returns : goal.returns
returns c =
    let read = c.in_ok-push_decoded.ensures.read in
    (Some read.0, search (rules, read.1), (refl, read.2))
