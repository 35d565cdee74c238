use Rattle.nl_attr.proofs.Common.{◌≡◌, drop, Some, attrs_view, hops_view, extent_of, extent_of_hops, join}
use Rattle.nl_attr.proofs.Lemmas.Extents.{IsWithin}
use Rattle.nl_attr.proofs.measuring.+measuring.Given as goal

abbrev pub invariant-measure_list-loop-attr : goal.invariant-measure_list-loop-attr
invariant-measure_list-loop-attr l =
    (join (Some l.all) (extent_of (attrs_view (drop l.attr-index l.attrs)) l.ctx l.room) ≡ extent_of (attrs_view l.fn.attrs) l.ctx l.room) × IsWithin l.all.len

abbrev pub invariant-measure_hops-loop-hop : goal.invariant-measure_hops-loop-hop
invariant-measure_hops-loop-hop l =
    (join (Some l.all) (extent_of_hops (hops_view (drop l.hop-index l.hops)) l.room) ≡ extent_of_hops (hops_view l.fn.hops) l.room) × IsWithin l.all.len
