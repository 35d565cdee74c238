use Rattle.std.proofs.Common.{arith}
use Rattle.nl_attr.proofs.Lemmas.Walk.{walks_over, hop_placed}
use Rattle.nl_attr.proofs.walk.hops.HopParts.of_ordered.Goals as goal

pub returns : goal.returns
returns c = walks_over hop_placed (omega arith) c.args.order c.args.bytes.now (λ i. omega (arith, c.type_inv.bytes i))
