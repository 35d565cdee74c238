use Rattle.nl_request.proofs.Common.{◌≡◌, ◌≤◌, length, map, drop, calls_of_items, run, over, items_of, metric_part}
use Rattle.nl_request.proofs.route.put_each_metric.Given as goal

abbrev pub invariant-loop-metric : goal.invariant-loop-metric
invariant-loop-metric l = record {
  built : run (over l.builder l.out) (calls_of_items (items_of (map (metric_part l.order) (drop l.metric-index l.metrics)))) ≡ run (over l.fn.builder l.fn.out) (calls_of_items (items_of (map (metric_part l.order) l.fn.metrics)));
  fits : l.builder.len ≤ length l.out;
}
