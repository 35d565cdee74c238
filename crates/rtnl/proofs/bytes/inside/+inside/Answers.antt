use Rattle.rtnl.proofs.Common.{◌∙◌, ◌++◌, ◌-◌, ◌+◌, ap, length, sym, subst, option_map, IfOk-weaker, [], Some, arith}
use Rattle.std.proofs.Common.{append-nil, length-drop}
use Rattle.nl_attr.specs.Walk.{GivesPart}
use Rattle.nl_values.specs.Known.{attribute_view, field_view, fields_of}
use Rattle.nl_values.specs.Meanings.{sense_of}
use Rattle.rtnl.specs.ByteViews.{marks_in}
use Rattle.rtnl.specs.Data.{parts_of}
use Rattle.rtnl.specs.Inside.{field_end, field_part, inside_marks, struct_marks}
use Rattle.rtnl.specs.Kernel.{kernel_name}
use Rattle.rtnl.proofs.Inside.{field_more, field_seen, item_seen, no_field_seen, no_item_seen, none_inside, one_inside, piece_seen}
use Rattle.rtnl.proofs.Payloads.{no_parts, part_faulty, part_missing, part_step}
use Rattle.rtnl.proofs.bytes.inside.+inside.Goals as goal

pub push_field-returns : goal.push_field-returns
push_field-returns t c =
    let order = c.args.scope.order in
    let divides = inside_marks order c.args.scope.family.now c.args.levels in
    let field = field_view c.args.field in
    let part = c.in-Some.part.now in
    let seen = c.in_ok-push_inside.ensures
    ∙ (λ j. marks_in c.push_gap.new.pieces.items ++ divides c.args.depth (append-nil field.name j) field.format [] (no_parts order j) part) in
    let got = sym c.part.ensures ∙ ap (option_map (λ r. r.now)) c.in-Some.is in (
      field_more divides c.args.depth c.args.at c.saturating_sub.result field (field_part field c.args.bytes.now) part _ _ _ got
          (c.saturating_sub.ensures ∙ ap (λ p. p - c.args.at) c.from-place.ensures) c.in_ok-push_gap.ensures seen,
      ap (λ p. p + length part) c.from-place.ensures ∙ sym (ap (field_end c.args.at field) got),
    )

pub push_field_at-returns-in-Some : goal.push_field_at-returns-in-Some
push_field_at-returns-in-Some t c =
    let divides = inside_marks c.args.scope.order c.args.scope.family.now c.args.levels in
    let got = sym c.field.ensures ∙ ap (option_map field_view) c.in-Some.is in
    IfOk-weaker c.push_field.result _ _
    (λ end seen. field_seen divides c.args.depth (fields_of c.args.of) c.args.index c.args.at c.args.bytes.now (marks_in c.args.pieces.now.items) (field_view c.in-Some.field) end _ got seen.0 seen.1) c.push_field.ensures

pub push_field_at-returns-in-None : goal.push_field_at-returns-in-None
push_field_at-returns-in-None t c =
    no_field_seen (inside_marks c.args.scope.order c.args.scope.family.now c.args.levels) c.args.depth (fields_of c.args.of) c.args.index c.args.at c.args.bytes.now (marks_in c.args.pieces.now.items)
    (sym c.field.ensures ∙ ap (option_map field_view) c.in-None.is)

pub push_structs-loop-index-preserved : goal.push_structs-loop-index-preserved
push_structs-loop-index-preserved t c =
    let so_far = c.loop-index.invariant in
    let width = c.from-width.result in
    let left = c.loop-index.left.now in
    let rest = c.bytes_from-left.result.now in
    let divides = inside_marks c.args.scope.order c.args.scope.family.now c.args.levels in (
      piece_seen (struct_marks divides c.args.depth 0 (fields_of c.args.of)) width c.count_in-index-end.result c.loop-index._index left c.bytes_up_to.result.now rest _ _ _
          c.bytes_up_to.ensures c.bytes_from-left.ensures c.loop-index-test.true c.in_ok-push_struct.ensures so_far.0,
      rw c.bytes_from-left.ensures (omega (arith, so_far.1, length-drop width left)),
    )

pub push_region-loop-part-preserved : goal.push_region-loop-part-preserved
push_region-loop-part-preserved t c =
    let order = c.args.scope.order in
    let family = c.args.scope.family.now in
    let so_far = c.loop-part.invariant in
    let it = c.loop-part.part-iterator in
    let next = c.next.new.self in
    let step = part_step order it next c.in-Ok.part so_far.0 (subst (λ r. GivesPart it (Some r) next) c.in-Ok.is c.in-Some.ensures.steps) in (
      step.0,
      c.padding_behind-front.ensures.bound,
      item_seen (inside_marks order family c.args.levels) c.args.depth family (parts_of order c.args.outer.now) (parts_of order c.args.region.now) c.args.set c.loop-part.left c.left_behind-left.result
          c.loop-part.front _ c.loop-part.size _ c.in-Ok.part.number c.in-Ok.part.payload.now _ _ (attribute_view c.known-format.result) c.kind_in_region-kind.result.now _ _ _ _
          step.1 c.known-format.ensures.says c.kind_in_region-kind.ensures c.left_behind-left.ensures c.padding_behind-front.ensures.value
          (c.saturating_sub-size.ensures ∙ ap (λ k. k - length c.in-Ok.part.payload.now) c.saturating_sub.ensures) c.in_ok-push_gap-in-Ok.ensures c.in_ok-push_item-in-Ok.ensures so_far.2,
    )

pub push_region-returns-in-Err : goal.push_region-returns-in-Err
push_region-returns-in-Err t c =
    let order = c.args.scope.order in
    let family = c.args.scope.family.now in
    let so_far = c.loop-part.invariant in
    let it = c.loop-part.part-iterator in
    let next = c.next.new.self in
    let none = part_faulty order it next c.in-Err.field-0 so_far.0 (subst (λ r. GivesPart it (Some r) next) c.in-Err.is c.in-Some.ensures.steps) in
    IfOk-weaker c.push_gap-in-Err.result _ _
    (λ _ seen. no_item_seen (inside_marks order family c.args.levels) c.args.depth family (parts_of order c.args.outer.now) (parts_of order c.args.region.now) c.args.set
    c.loop-part.left c.loop-part.front c.loop-part.size _ _ _ _ none seen so_far.2) c.push_gap-in-Err.ensures

pub push_region-returns : goal.push_region-returns
push_region-returns t c =
    let order = c.args.scope.order in
    let family = c.args.scope.family.now in
    let so_far = c.loop-part.invariant in
    let it = c.loop-part.part-iterator in
    let next = c.next.new.self in
    let none = part_missing order it next so_far.0 c.in-None.ensures.steps in
    IfOk-weaker c.push_gap-2.result _ _
    (λ _ seen. no_item_seen (inside_marks order family c.args.levels) c.args.depth family (parts_of order c.args.outer.now) (parts_of order c.args.region.now) c.args.set
    c.loop-part.left c.loop-part.front c.loop-part.size _ _ _ _ none seen so_far.2) c.push_gap-2.ensures

pub push_inside-returns-in_default : goal.push_inside-returns-in_default
push_inside-returns-in_default t c =
    let order = c.args.scope.order in
    let none = none_inside order c.args.scope.family.now c.args.levels c.args.depth (kernel_name c.args.name) c.args.format c.args.kind.now (parts_of order c.args.region.now) c.args.payload.now c.in_default.ensures.none in
    IfOk-weaker c.push_whole.result _ _ (λ _ seen. seen ∙ ap (λ ms. marks_in c.args.pieces.now.items ++ ms) (sym none)) c.push_whole.ensures

pub push_inside-returns : goal.push_inside-returns
push_inside-returns t c =
    let order = c.args.scope.order in
    IfOk-weaker c.push_sense.result _ _
    (λ _ seen. seen ∙ one_inside order c.args.scope.family.now c.args.levels c.args.depth (kernel_name c.args.name) c.args.format c.args.kind.now (parts_of order c.args.region.now) c.args.payload.now
    c.in-Some.inner c.resolved.result (sense_of c.meaning_at-meaning.result) (marks_in c.args.pieces.now.items) c.in-Some.ensures.some.0 c.in-Some.ensures.some.1 c.resolved.ensures c.meaning_at-meaning.ensures) c.push_sense.ensures
