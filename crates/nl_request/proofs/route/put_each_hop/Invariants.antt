use Rattle.nl_request.proofs.Common.{◌≡◌, ◌≤◌, length, drop, IsRangedHops, calls_of_hops, run, over, hops_of}
use Rattle.nl_request.proofs.route.put_each_hop.Given as goal

abbrev pub invariant-loop-hop : goal.invariant-loop-hop
invariant-loop-hop l = record {
  built : run (over l.builder l.out) (calls_of_hops (hops_of (drop l.hop-index l.hops))) ≡ run (over l.fn.builder l.fn.out) (calls_of_hops (hops_of l.fn.hops));
  ranged : IsRangedHops (hops_of (drop l.hop-index l.hops)) → IsRangedHops (hops_of l.fn.hops);
  fits : l.builder.len ≤ length l.out;
}
