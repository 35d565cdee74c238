use Rattle.nl_dump.proofs.Common.{subst, Picks}
use Rattle.nl_dump.proofs.Feeding.{took_ok}
use Rattle.nl_dump.proofs.tables.Tables.read.Goals as goal

pub returns-in-Ok-put-clause-took : goal.returns-in-Ok-put-clause-took
returns-in-Ok-put-clause-took c =
    let a = c.args in
    let r = c.read_items-result in
    let picks = subst (λ x. Picks a.limits.now a.dump.now a.bytes.now x r.result.visits) c.in-Ok.is r.ensures.picks in
    took_ok a.limits.now a.dump.now a.bytes.now a.self.now c.in-Ok.field-0 r.result.visits c.put.new.self picks c.in-Ok-put.ensures.puts
