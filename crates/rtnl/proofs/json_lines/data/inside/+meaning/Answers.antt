use Rattle.json.specs.Json.{Json}
use Rattle.rtnl.proofs.Common.{List, ℕ, ◌≡◌, ◌∙◌, ◌∷◌, ◌++◌, [], ap, codes, drop, length, refl, sym, subst, map, option_map, IfOk-weaker, None, Some, json_tokens}
use Rattle.nl_attr.specs.Walk.{GivesPart}
use Rattle.nl_values.specs.Known.{attribute_view, field_view, fields_of}
use Rattle.nl_values.specs.Meanings as sense
use Rattle.nl_values.specs.Meanings.{sense_of}
use Rattle.nl_values.specs.Numbers.{integer_view}
use Rattle.rtnl.specs.Data.{count_in, data_json, held_json, or_digits, parts_of, pieces, region_json, sense_at, sense_json, struct_json, structs_json}
use Rattle.std.specs.Prelude.{if◌then◌else◌}
use Rattle.json.specs.Token.{key}
use Rattle.rtnl.specs.Json.{◌⊕◌, array, fields_tokens, object, signed, values_tokens}
use Rattle.rtnl.proofs.Json.{an_array, an_object, named_value, then_fields}
use Rattle.rtnl.proofs.Payloads.{field_missing, field_written, held_written, list_ended, list_more, no_parts, none_shown, one_shown, others_fit, part_faulty, part_missing, part_step, piece_written, pieces_written, struct_ended, struct_more}
use Rattle.rtnl.proofs.json_lines.data.inside.+meaning.Goals as goal

pub push_field-returns-in_default : goal.push_field-returns-in_default
push_field-returns-in_default t c =
    field_missing (data_json c.args.scope.order c.args.scope.family.now c.args.levels) c.args.field.name.now c.args.field.format _ c.args.line.now
    (sym c.part.ensures ∙ ap (option_map (λ r. r.now)) c.in_default.is)

pub push_field-returns-in_default-levels_inside : goal.push_field-returns-in_default-levels_inside
push_field-returns-in_default-levels_inside t c =
    let order = c.args.scope.order in
    let family = c.args.scope.family.now in
    let field = c.args.field in
    let part = c.in-Some.part.now in
    IfOk-weaker c.hex.result _ _
    (λ _ written. field_written (data_json order family c.args.levels) field.name.now field.format _ part None c.args.line.now c.name.new.self c.hex.new.self
    (sym c.part.ensures ∙ ap (option_map (λ r. r.now)) c.in-Some.is)
    (none_shown order family c.args.levels field.format [] [] part c.in_default-levels_inside.ensures.none) c.in_ok-name.ensures written) c.hex.ensures

pub push_field-returns-in-Integer : goal.push_field-returns-in-Integer
push_field-returns-in-Integer t c =
    let order = c.args.scope.order in
    let family = c.args.scope.family.now in
    let field = c.args.field in
    let part = c.in-Some.part.now in
    let inner = c.in-Some-levels_inside.inner in
    let z = integer_view c.in-Integer.number in
    let is : sense_at order c.args.levels field.format [] part ≡ sense.integer z = sym c.meaning_at-meaning.ensures ∙ ap sense_of c.in-Integer.is in
    IfOk-weaker c.push_named.result _ _
    (λ _ written. field_written (data_json order family c.args.levels) field.name.now field.format _ part (Some (signed z)) c.args.line.now (c.args.line.now ⊕ (key field.name.now ∷ [])) c.push_named.new.line
    (sym c.part.ensures ∙ ap (option_map (λ r. r.now)) c.in-Some.is)
    (one_shown order family c.args.levels inner field.format [] [] part c.in-Some-levels_inside.ensures.some.0 ∙ ap (sense_json order family (data_json order family inner) [] part) is)
    refl written) c.push_named.ensures

pub push_field-returns : goal.push_field-returns
push_field-returns t c =
    let order = c.args.scope.order in
    let family = c.args.scope.family.now in
    let field = c.args.field in
    let part = c.in-Some.part.now in
    let inner = c.in-Some-levels_inside.inner in
    let shows = data_json order family inner in
    let sense = sense_of c.meaning_at-meaning.result in
    let value = sense_json order family shows [] part (sense_at order c.args.levels field.format [] part) in
    IfOk-weaker c.push_meaning.result _ _
    (λ _ written. field_written (data_json order family c.args.levels) field.name.now field.format _ part value c.args.line.now c.name-2.new.self c.push_meaning.new.line
    (sym c.part.ensures ∙ ap (option_map (λ r. r.now)) c.in-Some.is)
    (one_shown order family c.args.levels inner field.format [] [] part c.in-Some-levels_inside.ensures.some.0) c.in_ok-name-2.ensures
    (written ∙ ap (λ parts. c.name-2.new.self ⊕ json_tokens (or_digits part (sense_json order family shows parts part sense))) (no_parts order)
    ∙ ap (λ s. c.name-2.new.self ⊕ json_tokens (or_digits part (sense_json order family shows [] part s))) c.meaning_at-meaning.ensures)) c.push_meaning.ensures

pub push_field_at-returns-in-Some : goal.push_field_at-returns-in-Some
push_field_at-returns-in-Some t c =
    IfOk-weaker c.push_field.result _ _
    (λ _ written. struct_more (data_json c.args.scope.order c.args.scope.family.now c.args.levels) (fields_of c.args.of) c.args.index c.args.bytes.now (field_view c.in-Some.field) c.args.line.now _
    (sym c.field.ensures ∙ ap (option_map field_view) c.in-Some.is) written) c.push_field.ensures

pub push_field_at-returns-in-None : goal.push_field_at-returns-in-None
push_field_at-returns-in-None t c =
    struct_ended (data_json c.args.scope.order c.args.scope.family.now c.args.levels) (fields_of c.args.of) c.args.index c.args.bytes.now c.args.line.now
    (sym c.field.ensures ∙ ap (option_map field_view) c.in-None.is)

pub push_structs-loop-index-preserved : goal.push_structs-loop-index-preserved
push_structs-loop-index-preserved t c =
    let so_far = c.loop-index.invariant in
    let width = c.from-width.result in
    let n = c.count_in-index-end.result in
    let i = c.loop-index._index in
    let bs = c.loop-index.left.now in
    let rest = c.bytes_from-left.result.now in
    let shows = data_json c.args.scope.order c.args.scope.family.now c.args.levels in (
      piece_written (λ piece. object (struct_json shows (fields_of c.args.of) piece)) width n i bs c.bytes_up_to.result.now rest c.loop-index.line c.push_struct.new.line _
          c.bytes_up_to.ensures c.bytes_from-left.ensures c.loop-index-test.true c.in_ok-push_struct.ensures so_far.0,
      others_fit width n i bs rest c.bytes_from-left.ensures c.loop-index-test.true so_far.1,
    )

pub push_structs-returns : goal.push_structs-returns
push_structs-returns t c =
    let width = c.from-width.result in
    let n = c.count_in-index-end.result in
    let bs = c.args.bytes.now in
    let shows = data_json c.args.scope.order c.args.scope.family.now c.args.levels in
    let one : List ℕ → Json = λ piece. object (struct_json shows (fields_of c.args.of) piece) in
    let all = pieces_written one width n c.loop-index._index c.loop-index.left.now c.loop-index.line (c.begin_array.new.self ⊕ values_tokens (map one (pieces width n bs))) c.loop-index-test.false c.loop-index.invariant.0 in
    let values : map one (pieces width n bs) ≡ structs_json shows (fields_of c.args.of) c.args.size bs =
    ap (λ n. map one (pieces width n bs)) c.count_in-index-end.ensures ∙ ap (λ w. map one (pieces w (count_in w (length bs)) bs)) c.from-width.ensures in
    IfOk-weaker c.end_array.result _ _
    (λ _ ended. an_array c.args.line.now c.begin_array.new.self c.loop-index.line c.end_array.new.self (structs_json shows (fields_of c.args.of) c.args.size bs)
    c.in_ok-begin_array.ensures (all ∙ ap (λ vs. c.begin_array.new.self ⊕ values_tokens vs) values) ended) c.end_array.ensures

pub push_list-loop-part-preserved : goal.push_list-loop-part-preserved
push_list-loop-part-preserved t c =
    let order = c.args.scope.order in
    let family = c.args.scope.family.now in
    let so_far = c.loop-part.invariant in
    let it = c.loop-part.part-iterator in
    let next = c.next.new.self in
    let step = part_step order it next c.in-Ok.part so_far.0 (subst (λ r. GivesPart it (Some r) next) c.in-Ok.is c.in-Some.ensures.steps) in (
      step.0,
      list_more (data_json order family c.args.levels) family (parts_of order c.args.outer.now) (parts_of order c.args.region.now) c.args.set c.loop-part.left c.left_behind-left.result
          c.in-Ok.part.number c.in-Ok.part.payload.now _ _ (attribute_view c.known-attribute.result) c.kind_in_region-kind.result.now c.loop-part.line c.push_attr.new.line _
          step.1 c.known-attribute.ensures.says c.kind_in_region-kind.ensures c.left_behind-left.ensures c.in_ok-push_attr-in-Ok.ensures so_far.1,
    )

pub push_list-returns-in-Err : goal.push_list-returns-in-Err
push_list-returns-in-Err t c =
    let order = c.args.scope.order in
    let family = c.args.scope.family.now in
    let so_far = c.loop-part.invariant in
    let it = c.loop-part.part-iterator in
    let next = c.next.new.self in
    let shows = data_json order family c.args.levels in
    let none = part_faulty order it next c.in-Err.field-0 so_far.0 (subst (λ r. GivesPart it (Some r) next) c.in-Err.is c.in-Some.ensures.steps) in
    IfOk-weaker c.end_array.result _ _
    (λ _ ended. an_array c.args.line.now c.begin_array.new.self c.loop-part.line c.end_array.new.self (region_json order family shows (parts_of order c.args.outer.now) c.args.set c.args.region.now)
    c.in_ok-begin_array.ensures
    (list_ended shows family (parts_of order c.args.outer.now) (parts_of order c.args.region.now) c.args.set c.loop-part.left _ c.loop-part.line _ none so_far.1) ended) c.end_array.ensures

pub push_list-returns : goal.push_list-returns
push_list-returns t c =
    let order = c.args.scope.order in
    let family = c.args.scope.family.now in
    let so_far = c.loop-part.invariant in
    let it = c.loop-part.part-iterator in
    let next = c.next.new.self in
    let shows = data_json order family c.args.levels in
    let none = part_missing order it next so_far.0 c.in-None.ensures.steps in
    IfOk-weaker c.end_array-2.result _ _
    (λ _ ended. an_array c.args.line.now c.begin_array.new.self c.loop-part.line c.end_array-2.new.self (region_json order family shows (parts_of order c.args.outer.now) c.args.set c.args.region.now)
    c.in_ok-begin_array.ensures
    (list_ended shows family (parts_of order c.args.outer.now) (parts_of order c.args.region.now) c.args.set c.loop-part.left _ c.loop-part.line _ none so_far.1) ended) c.end_array-2.ensures

pub push_headed-returns : goal.push_headed-returns
push_headed-returns t c =
    let order = c.args.scope.order in
    let family = c.args.scope.family.now in
    let shows = data_json order family c.args.levels in
    let outer = parts_of order c.args.outer.now in
    let bs = c.args.bytes.now in
    let value = array (region_json order family shows outer c.args.set (drop c.args.from bs)) in
    let begun = c.begin_object.new.self in
    let listed = named_value c.push_fields.new.line c.key.new.self c.push_list.new.line (codes "attrs") value c.in_ok-key.ensures
    (c.in_ok-push_list.ensures ∙ ap (λ region. c.key.new.self ⊕ json_tokens (array (region_json order family shows outer c.args.set region))) c.bytes_from.ensures) in
    let fields = struct_json shows (fields_of c.args.of) bs in
    IfOk-weaker c.end_object.result _ _
    (λ _ ended. an_object c.args.line.now begun c.push_list.new.line c.end_object.new.self (fields ++ (codes "attrs", value) ∷ [])
    c.in_ok-begin_object.ensures (then_fields begun c.push_fields.new.line c.push_list.new.line fields ((codes "attrs", value) ∷ []) c.in_ok-push_fields.ensures listed) ended) c.end_object.ensures

pub push_held-returns-in_default : goal.push_held-returns-in_default
push_held-returns-in_default t c =
    let order = c.args.scope.order in
    let bs = c.args.payload.now in
    let none = none_shown order c.args.scope.family.now c.args.levels c.args.format c.args.kind.now (parts_of order c.args.region.now) bs c.in_default.ensures.none in
    IfOk-weaker c.digits.result _ _ (λ _ written. written ∙ sym (ap (λ d. c.args.line.now ⊕ fields_tokens (held_json bs d ∷ [])) none)) c.digits.ensures

pub push_held-returns : goal.push_held-returns
push_held-returns t c =
    let order = c.args.scope.order in
    let family = c.args.scope.family.now in
    let bs = c.args.payload.now in
    let inner = c.in-Some.inner in
    let shows = data_json order family inner in
    let parts = parts_of order c.args.region.now in
    let sense = sense_of c.meaning_at-meaning.result in
    let shown = one_shown order family c.args.levels inner c.args.format c.args.kind.now parts bs c.in-Some.ensures.some.0
    ∙ sym (ap (sense_json order family shows parts bs) c.meaning_at-meaning.ensures) in
    let named = c.in_ok-key.ensures ∙ ap (λ name. c.args.line.now ⊕ (key name ∷ [])) (c.key_of.ensures.name ∙ ap (λ b. if b then codes "data" else codes "value") c.is_known.ensures) in
    IfOk-weaker c.push_meaning.result _ _
    (λ _ written. held_written order family shows parts bs sense _ c.args.line.now c.key.new.self c.push_meaning.new.line shown named written) c.push_meaning.ensures
