use Rattle.nl_frame.specs.Parts.{over}
use Rattle.nl_request.proofs.Routes.{hop_step, hop_ranged}
use Rattle.nl_request.proofs.route.put_each_hop.Goals as goal

pub loop-hop-preserved : goal.loop-hop-preserved
loop-hop-preserved c = record {
  built = hop_step (over c.loop-hop.builder c.loop-hop.out) (over c.put_hop.new.builder c.put_hop.new.out) _ c.args.hops.now c.loop-hop.hop-index _ c.loop-hop-test.true c.loop-hop.invariant.built c.put_hop.ensures.built;
  fits = c.put_hop.ensures.fits;
  ranged = λ q. c.loop-hop.invariant.ranged (hop_ranged c.args.hops.now c.loop-hop.hop-index _ c.loop-hop-test.true c.put_hop.ensures.ranged q);
}
