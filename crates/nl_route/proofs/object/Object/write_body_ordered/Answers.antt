use Rattle.std.proofs.Common.{◌≡◌, ◌++◌, rules, subst, sym, ◌∙◌}
use Rattle.nl_attr.specs.Shape.{shape_of}
use Rattle.nl_attr.specs.View.{attrs_view}
use Rattle.nl_attr.specs.Proper.{IsMismatched, IsDeep, IsLong, IsProper, IsRefused}
use Rattle.nl_attr.proofs.Lemmas.Writes.{Judges, judged, writes}
use Rattle.nl_attr.proofs.Lemmas.Writing.{written_fits}
use Rattle.nl_route.specs.Body.{body_written}
use Rattle.nl_route.proofs.Written.{head_length, body_is}
use Rattle.nl_route.proofs.object.Object.write_body_ordered.Goals as goal

pub returns : goal.returns
returns g c =
    let S = shape_of c.args.order c.args.depth in
    let body = c.args.self.now in
    let is = attrs_view body.attrs.items in
    let head = g.H.Head in
    let fs = head.fields body.head in
    let m = c.measure.ensures in
    let appended = c.append_body.ensures in
    let j = judged (IsMismatched is head.ctx) (IsDeep is 0 S.depth) (IsLong is) c.measure.result m.mismatch m.deep m.long in
    let none = subst (Judges (IsRefused is head.ctx S.depth)) (sym c.length.ensures ∙ c.in_ok-len.was) j in
    let proper : IsProper is head.ctx 0 S.depth = record { matched = none.0; shallow = none.1; short = none.2 } in
    let items : c.append_body.new.out.items ≡ c.args.out.now.items ++ body_written S.order fs is = search rules in
    let len = head_length S.order fs is c.reserve.new.self.items c.append_body.new.out.items _ _ head.SIZE appended.items c.reserve.new.self.ok.0 c.append_body.new.out.ok.0 appended.len in
    let again = body_is S head.SIZE fs head.ctx is len appended.ranged.0 (written_fits S head.ctx 0 is proper appended.ranged.1) in
    writes _ _ _ _ _ _ c.args.out.now c.append_body.new.out none items again
