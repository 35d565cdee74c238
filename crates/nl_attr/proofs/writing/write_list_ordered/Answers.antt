use Rattle.nl_attr.proofs.Common.{◌≡◌, ◌++◌, rules, subst, sym, ◌∙◌, shape_of, attrs_view, IsMismatched, IsDeep, IsLong, IsProper, IsRefused, written}
use Rattle.nl_attr.proofs.Lemmas.Writes.{Judges, judged, writes}
use Rattle.nl_attr.proofs.Lemmas.Writing.{written_fits}
use Rattle.nl_attr.proofs.writing.write_list_ordered.Goals as goal

pub returns : goal.returns
returns c =
    let is = attrs_view c.args.attrs.now in
    let ctx = c.args.ctx in
    let S = shape_of c.args.order c.args.depth in
    let m = c.measure.ensures in
    let j = judged (IsMismatched is ctx) (IsDeep is 0 S.depth) (IsLong is) c.measure.result m.mismatch m.deep m.long in
    let none = subst (Judges (IsRefused is ctx S.depth)) (sym c.length.ensures ∙ c.in_ok-len.was) j in
    let items : c.append_list.new.out.items ≡ c.args.out.now.items ++ written S.order is = search rules in
    let proper : IsProper is ctx 0 S.depth = record { matched = none.0; shallow = none.1; short = none.2 } in
    writes _ _ _ _ _ _ c.args.out.now c.append_list.new.out none items (written_fits S ctx 0 is proper c.append_list.ensures.ranged)
