use Rattle.std.proofs.Common.{sym}
use Rattle.rtnl.proofs.Headings.{named}
use Rattle.rtnl.proofs.recordings.heading.heading_of.Goals as goal

pub returns-clause-names : goal.returns-clause-names
returns-clause-names c =
    named c.args.line.now c.in_ok-numbers.numbers.now c.in_ok-seq.middle.now c.in_ok-second.second.now c.in_ok-port.end.now c.in_ok-seq.seq c.in_ok-port.port c.in_ok-kind.kind
    (sym c.in_ok-numbers.ensures) (sym c.in_ok-seq.ensures) (sym c.in_ok-second.ensures) (sym c.in_ok-port.ensures) (sym c.in_ok-kind.ensures)
