use Rattle.nl_attr.proofs.Common.{subst, refl, sym, Outcome, HopItems, attrs_view, hops_then, NextGoes}
use Rattle.nl_attr.proofs.Lemmas.Opens.{hop_kept}
use Rattle.nl_attr.proofs.stack.nested.close.Goals as goal

pub returns-in_ok-keep_hop-in-Hops-clause-goes : goal.returns-in_ok-keep_hop-in-Hops-clause-goes
returns-in_ok-keep_hop-in-Hops-clause-goes c =
    let S = c.args.shape in
    let s = c.in-Hops.hops.region in
    let t = record s { list = c.keep_hop.new.list } in
    let kept = hop_kept S s t c.in-Hops.hops.head (attrs_view c.args.attrs.items) refl refl refl c.in_ok-keep_hop-in-Hops.ensures in
    rw c.in-Hops.is (subst (λ (o : Outcome HopItems). NextGoes S c.args.visits.now (hops_then S c.in-Hops.waits o) c.go_on_hops.new.visits c.go_on_hops.result) (sym kept) c.go_on_hops.ensures.goes)
