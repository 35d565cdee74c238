use Rattle.std.proofs.Common.{arith, rules}
use Rattle.nl_frame.proofs.Outcomes.{answers, answered}
use Rattle.nl_frame.proofs.reading.read_datagram.Goals as goal

pub returns : goal.returns
returns c =
    let S = c.args.limits.now.shape in
    let d = c.args.bytes.now in
    let r = c.map_err.result.result in
    let v = c.map_err.result.visits in
    let a = answered S d r v (λ i. omega (arith, c.type_inv.bytes i)) (answers S d c.read_messages.result.result r c.read_messages.result.visits v c.map_err.ensures.cases c.map_err.ensures.visits c.read_messages.ensures.outcome) in
    record { large = search rules; fits = a.fits; only = a.only; first = a.first; none = a.none; visits = a.visits; bound = search rules; kept = a.kept }
