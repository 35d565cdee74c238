use Rattle.nl_request.proofs.Common.{RTA_MULTIPATH, calls_of_hops, hops_of, over}
use Rattle.nl_request.proofs.Runs.{inside_run}
use Rattle.nl_request.proofs.Routes.{some_hops}
use Rattle.nl_request.proofs.route.put_hops.Goals as goal

pub returns-then-not-is_empty-clause-built : goal.returns-then-not-is_empty-clause-built
returns-then-not-is_empty-clause-built c =
    let b = over c.args.builder.now c.args.out.now in
    let hs = c.args.hops.now in
    some_hops b (over c.close.new.self c.close.new.out) hs c.if-not-is_empty.ensures
    (inside_run b (over c.open_attr.new.self c.open_attr.new.out) (over c.put_each_hop.new.builder c.put_each_hop.new.out) (over c.close.new.self c.close.new.out) RTA_MULTIPATH (calls_of_hops (hops_of hs)) c.open_attr.ensures.built c.put_each_hop.ensures.built c.close.ensures.built)
