use Rattle.nl_attr.proofs.Common.{◌≡◌, ◌≤◌, ◌+◌, ◌++◌, drop, vec_len, vec_capacity, attrs_view, hops_view, written, written_hops, items_len, hops_len, IsSized, IsSizedHops, IsRanged, IsRangedHops}
use Rattle.nl_attr.proofs.appending.+appending.Given as goal

abbrev pub invariant-append_list-loop-attr : goal.invariant-append_list-loop-attr
invariant-append_list-loop-attr l = record {
  sized : IsSized (attrs_view (drop l.attr-index l.attrs));
  space : vec_len l.out + items_len (attrs_view (drop l.attr-index l.attrs)) ≤ vec_capacity l.out;
  whole : l.out.items ++ written l.order (attrs_view (drop l.attr-index l.attrs)) ≡ l.fn.out.items ++ written l.order (attrs_view l.fn.attrs);
  len : vec_len l.out + items_len (attrs_view (drop l.attr-index l.attrs)) ≡ vec_len l.fn.out + items_len (attrs_view l.fn.attrs);
  room : vec_capacity l.fn.out ≤ vec_capacity l.out;
  ranged : IsRanged (attrs_view (drop l.attr-index l.attrs)) → IsRanged (attrs_view l.fn.attrs);
}

abbrev pub invariant-append_hops-loop-hop : goal.invariant-append_hops-loop-hop
invariant-append_hops-loop-hop l = record {
  sized : IsSizedHops (hops_view (drop l.hop-index l.hops));
  space : vec_len l.out + hops_len (hops_view (drop l.hop-index l.hops)) ≤ vec_capacity l.out;
  whole : l.out.items ++ written_hops l.order (hops_view (drop l.hop-index l.hops)) ≡ l.fn.out.items ++ written_hops l.order (hops_view l.fn.hops);
  room : vec_capacity l.fn.out ≤ vec_capacity l.out;
  ranged : IsRangedHops (hops_view (drop l.hop-index l.hops)) → IsRangedHops (hops_view l.fn.hops);
}
