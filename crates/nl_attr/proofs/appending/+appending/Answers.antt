use Rattle.nl_attr.proofs.Common.{◌≡◌, ◌+◌, ◌-◌, [], ◌∷◌, ◌++◌, length, drop, arith, ap, refl, ◌∙◌, List, ℕ, append_assoc, vec_len, w32, cast_unsigned, Attr, out-Hop, num, kind_number, attrs_view, hops_view, value_view, with_padding, attr_item, hop_item, written, written_val, written_hops, val_len, items_len}
use Rattle.nl_attr.proofs.Lemmas.Lengths.{length-val, length-items, length-padded_attr, length-padded_hop, item_closed, grown}
use Rattle.nl_attr.proofs.Lemmas.Opened.{next_attr, next_hop}
use Rattle.nl_attr.proofs.appending.+appending.Goals as goal

pub append_attr-close_item-requires-clause-short : goal.append_attr-close_item-requires-clause-short
append_attr-close_item-requires-clause-short t c =
    let d = grown _ _ _ _ _ c.append_value.ensures.items c.put_attr_head.new.out.ok.0 c.append_value.new.out.ok.0 in
    omega (arith, d, length-val c.args.order (value_view c.args.attr.now.value), c.put_attr_head.ensures.len, c.len-start.ensures, c.requires.short)

pub append_attr-close_item-requires-clause-space : goal.append_attr-close_item-requires-clause-space
append_attr-close_item-requires-clause-space t c =
    let d = grown _ _ _ _ _ c.append_value.ensures.items c.put_attr_head.new.out.ok.0 c.append_value.new.out.ok.0 in
    let e : vec_len c.append_value.new.out - c.len-start.result ≡ 4 + val_len (value_view c.args.attr.now.value) = omega (arith, d, length-val c.args.order (value_view c.args.attr.now.value), c.put_attr_head.ensures.len, c.len-start.ensures) in
    rw e (omega (arith, c.len-start.ensures, c.requires.space, c.put_attr_head.ensures.room, c.append_value.ensures.room))

pub append_hop-close_item-requires-clause-short : goal.append_hop-close_item-requires-clause-short
append_hop-close_item-requires-clause-short t c =
    let d = grown _ _ _ _ _ c.append_list.ensures.items c.put_hop_head.new.out.ok.0 c.append_list.new.out.ok.0 in
    omega (arith, d, length-items c.args.order (attrs_view c.deref.result.now), ap (λ (ys : List Attr). items_len (attrs_view ys)) c.deref.ensures.value, c.put_hop_head.ensures.len, c.len-start.ensures, c.requires.short)

pub append_hop-close_item-requires-clause-space : goal.append_hop-close_item-requires-clause-space
append_hop-close_item-requires-clause-space t c =
    let d = grown _ _ _ _ _ c.append_list.ensures.items c.put_hop_head.new.out.ok.0 c.append_list.new.out.ok.0 in
    let e : vec_len c.append_list.new.out - c.len-start.result ≡ 8 + items_len (attrs_view (out-Hop c.args.hop.now).attrs.items) = omega (arith, d, length-items c.args.order (attrs_view c.deref.result.now), ap (λ (ys : List Attr). items_len (attrs_view ys)) c.deref.ensures.value, c.put_hop_head.ensures.len, c.len-start.ensures) in
    rw e (omega (arith, c.len-start.ensures, c.requires.space, c.put_hop_head.ensures.room, c.append_list.ensures.room))

pub append_attr-returns-clause-items : goal.append_attr-returns-clause-items
append_attr-returns-clause-items t c =
    let o = c.args.order in
    let x = c.args.attr.now in
    let d = grown _ _ _ _ _ c.append_value.ensures.items c.put_attr_head.new.out.ok.0 c.append_value.new.out.ok.0 in
    let payload = written_val o (value_view x.value) in
    let n : vec_len c.append_value.new.out - c.len-start.result ≡ 4 + length payload = omega (arith, d, c.put_attr_head.ensures.len, c.len-start.ensures) in
    let all = c.append_value.ensures.items ∙ ap (λ (ys : List ℕ). ys ++ payload) c.put_attr_head.ensures.items in
    c.close_item.ensures.items ∙ item_closed o 2 c.args.out.now.items (0 ∷ 0 ∷ []) (num (kind_number x.number x.flags) 2 o) payload _ c.len-start.result _ _ refl all (c.len-start.ensures ∙ c.args.out.now.ok.0) n

pub append_hop-returns-clause-items : goal.append_hop-returns-clause-items
append_hop-returns-clause-items t c =
    let o = c.args.order in
    let h = out-Hop c.args.hop.now in
    let d = grown _ _ _ _ _ c.append_list.ensures.items c.put_hop_head.new.out.ok.0 c.append_list.new.out.ok.0 in
    let payload = written o (attrs_view h.attrs.items) in
    let n : vec_len c.append_list.new.out - c.len-start.result ≡ 8 + length payload = omega (arith, d, ap (λ (ys : List Attr). length (written o (attrs_view ys))) c.deref.ensures.value, c.put_hop_head.ensures.len, c.len-start.ensures) in
    let all = c.append_list.ensures.items ∙ ap (λ (ys : List Attr). c.put_hop_head.new.out.items ++ written o (attrs_view ys)) c.deref.ensures.value ∙ ap (λ (ys : List ℕ). ys ++ payload) c.put_hop_head.ensures.items in
    c.close_item.ensures.items ∙ item_closed o 2 c.args.out.now.items (0 ∷ 0 ∷ []) (h.flags ∷ h.hops ∷ num (cast_unsigned w32 h.ifindex) 4 o) payload _ c.len-start.result _ _ refl all (c.len-start.ensures ∙ c.args.out.now.ok.0) n

pub append_list-loop-attr-preserved : goal.append_list-loop-attr-preserved
append_list-loop-attr-preserved t c =
    let o = c.args.order in
    let x = c.attr-item.result in
    let i = rw (next_attr c.args.attrs.now c.loop-attr.attr-index x c.loop-attr-test.true c.attr-item.is) at c.loop-attr.invariant in
    let one = with_padding (attr_item o x.number x.flags (written_val o (value_view x.value))) in
    let rest = written o (attrs_view (drop (c.loop-attr.attr-index + 1) c.args.attrs.now)) in
    let g = grown _ _ _ _ one c.append_attr.ensures.items c.loop-attr.out.ok.0 c.append_attr.new.out.ok.0 in
    let size = length-padded_attr o x.number x.flags (value_view x.value) in
    record {
      sized = i.sized.3;
      space = omega (arith, i.space, g, size, c.append_attr.ensures.room);
      len = omega (arith, i.len, g, size);
      whole = ap (λ (ys : List ℕ). ys ++ rest) c.append_attr.ensures.items ∙ append_assoc c.loop-attr.out.items one rest ∙ i.whole;
      room = omega (arith, i.room, c.append_attr.ensures.room);
      ranged = λ r. i.ranged (c.append_attr.ensures.ranged, r);
    }

pub append_hops-loop-hop-preserved : goal.append_hops-loop-hop-preserved
append_hops-loop-hop-preserved t c =
    let o = c.args.order in
    let x = c.hop-item.result in
    let h = out-Hop x in
    let i = rw (next_hop c.args.hops.now c.loop-hop.hop-index x c.loop-hop-test.true c.hop-item.is) at c.loop-hop.invariant in
    let one = with_padding (hop_item o h.flags h.hops h.ifindex (written o (attrs_view h.attrs.items))) in
    let rest = written_hops o (hops_view (drop (c.loop-hop.hop-index + 1) c.args.hops.now)) in
    let g = grown _ _ _ _ one c.append_hop.ensures.items c.loop-hop.out.ok.0 c.append_hop.new.out.ok.0 in
    record {
      sized = i.sized.2;
      space = omega (arith, i.space, g, length-padded_hop o h.flags h.hops h.ifindex (attrs_view h.attrs.items), c.append_hop.ensures.room);
      whole = ap (λ (ys : List ℕ). ys ++ rest) c.append_hop.ensures.items ∙ append_assoc c.loop-hop.out.items one rest ∙ i.whole;
      room = omega (arith, i.room, c.append_hop.ensures.room);
      ranged = λ r. i.ranged (c.append_hop.ensures.ranged.0, c.append_hop.ensures.ranged.1, r);
    }
