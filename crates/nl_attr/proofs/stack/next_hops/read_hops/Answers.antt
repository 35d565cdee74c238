use Rattle.nl_attr.proofs.Common.{◌∙◌, arith, refl, ap, attrs_view, more_visits, list_rest, hops_rest, hops_go_on, hops_spot}
use Rattle.nl_attr.proofs.Lemmas.Going.{goes_on_to}
use Rattle.nl_attr.proofs.Lemmas.Nested.{then_done}
use Rattle.nl_attr.proofs.Lemmas.Opens.{hop_kept}
use Rattle.nl_attr.proofs.stack.next_hops.read_hops.Goals as goal

pub hops-preserved : goal.hops-preserved
hops-preserved c =
    let S = c.args.shape in
    let s = c.next_hop.new.region in
    let t = record s { list = c.keep_hop.new.list } in
    let h = c.in-Opens.head in
    let is = attrs_view c.read_attrs.new.region.list.items in
    let kept = then_done c.next_hop.new.visits c.read_attrs.new.visits (list_rest S c.in-Opens.inner) is (hops_go_on S s h) c.in-Ends-read_attrs.ensures.goes in
    goes_on_to c.read_attrs.new.visits (hops_rest S t) (hops_spot t) c.hops.invariant
    (c.in-Opens.ensures.goes ∙ kept ∙ ap (more_visits c.read_attrs.new.visits) (hop_kept S s t h is refl refl refl c.in-Ok.ensures)) c.in-Opens.ensures.moves.0 (omega (arith, c.in-Opens.ensures.moves.2))
