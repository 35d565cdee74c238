use Rattle.std.proofs.Common.{◌≡◌, ◌+◌, ◌∙◌, ap, arith, length, rules}
use Rattle.rtnl.proofs.Common.{take_rest, lines_left, lines_of}
use Rattle.rtnl.proofs.Cuts.{line_found}
use Rattle.rtnl.proofs.recordings.lines.LinesIterator.next.Goals as goal

pub returns-in-Some-clause-steps : goal.returns-in-Some-clause-steps
returns-in-Some-clause-steps c =
    let left : lines_left c.args.self.now.0 ≡ lines_of c.in_ok-rest.rest.now = search rules in
    rw (take_rest c.in_ok-rest.rest.now (c.in-Some.end + 1)) (left ∙ line_found c.in_ok-rest.rest.now c.in-Some.end c.in-Some.ensures.0 c.in-Some.ensures.1)

pub returns-in-Some-clause-goes : goal.returns-in-Some-clause-goes
returns-in-Some-clause-goes c =
    let shorter = ap length (returns-in-Some-clause-steps c) in
    record { on = λ finite. (search rules, search rules, omega (arith, shorter)); keeps = search rules; rests = search rules }
