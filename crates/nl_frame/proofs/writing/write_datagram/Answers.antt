use Rattle.nl_frame.proofs.Common.{◌≡◌, map, rules, subst, sym, ◌∙◌, message_view, Layout, written, IsMismatched, IsDeep, IsLong, IsProper, IsFirstRefusal}
use Rattle.nl_attr.proofs.Lemmas.Writes.{Judges, judged}
use Rattle.nl_frame.proofs.Extents.{lens_are_long}
use Rattle.nl_frame.proofs.WrittenLayouts.{written_has_layout}
use Rattle.nl_frame.proofs.writing.write_datagram.Goals as goal

pub returns-clause-again : goal.returns-clause-again
returns-clause-again c =
    let S = c.args.limits.now.shape in
    let ms = map message_view c.args.messages.now in
    let m = rw c.depth.ensures.value at c.measure_messages.ensures in
    let j = judged (IsMismatched ms) (IsDeep ms S.depth) (IsLong ms) c.measure_messages.result m.mismatch m.deep (lens_are_long ms c.measure_messages.result m.len) in
    let none = subst (Judges (IsFirstRefusal ms S.depth)) (sym c.length.ensures ∙ c.in_ok-len.was) j in
    let proper : IsProper ms S.depth = record { matched = none.0; shallow = none.1; short = none.2 } in
    let is : c.append_messages.new.out.items ≡ written S.order ms = search rules in
    subst (λ d. Layout S ms d) (sym is) (written_has_layout S ms proper c.append_messages.ensures.ranged)
