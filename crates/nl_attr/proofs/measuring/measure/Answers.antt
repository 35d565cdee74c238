use Rattle.nl_attr.specs.View.{attrs_view}
use Rattle.nl_attr.proofs.Lemmas.Means.{measured, means_mismatch, means_deep, means_long, means_len, means_limit, means_sized}
use Rattle.nl_attr.proofs.measuring.measure.Goals as goal

pub returns : goal.returns
returns c =
    let is = attrs_view c.args.attrs.now in
    let ctx = c.args.ctx in
    let D = c.args.depth in
    let o = c.measure_list.result in
    let m = measured is ctx D c.get.result o c.get.ensures.value c.measure_list.ensures in
    record {
      mismatch = means_mismatch is ctx D o m;
      deep = means_deep is ctx D o m;
      long = means_long is ctx D o m;
      len = means_len is ctx D o m;
      limit = means_limit is ctx D o m;
      sized = means_sized is ctx D o m;
    }
