use Rattle.nl_request.proofs.Common.{map, RTA_METRICS, calls_of_items, items_of, metric_part, over}
use Rattle.nl_request.proofs.Runs.{inside_run}
use Rattle.nl_request.proofs.Routes.{some_metrics}
use Rattle.nl_request.proofs.route.put_metrics.Goals as goal

pub returns-then-not-is_empty-clause-built : goal.returns-then-not-is_empty-clause-built
returns-then-not-is_empty-clause-built c =
    let b = over c.args.builder.now c.args.out.now in
    let o = c.args.order in
    let ms = c.args.metrics.now in
    some_metrics b (over c.close.new.self c.close.new.out) o ms c.if-not-is_empty.ensures
    (inside_run b (over c.open_attr.new.self c.open_attr.new.out) (over c.put_each_metric.new.builder c.put_each_metric.new.out) (over c.close.new.self c.close.new.out) RTA_METRICS (calls_of_items (items_of (map (metric_part o) ms))) c.open_attr.ensures.built c.put_each_metric.ensures.built c.close.ensures.built)
