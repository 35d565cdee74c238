use Rattle.std.proofs.Common.{◌≡◌, ◌+◌, ◌-◌, ◌*◌, ◌/◌, ◌%◌, ◌≤◌, ◌<◌, false, drop, take, length, slice_set, refl, sym, ap, subst, ◌∙◌, arith, ℕ, length-drop, length-take}
use Rattle.std.proofs.lemmas.List.{length-set, nil_from_length}
use Rattle.nl_attr.proofs.Common.{Event, Content, NUMBERS, kind_of, len_of, flags_of, payload_of, broken_container, inner_in, start_of, content_at, HasRoom, IsEmptyList, head_with, event_of}
use Rattle.nl_attr.specs.declared.tree.Content.TheVariants as content
use Rattle.nl_attr.proofs.Lemmas.Fronts.{attr_goes, attr_inner, content_so, left_so, list_event, list_fits, no_flags, plain_event}
use Rattle.nl_attr.proofs.Lemmas.Leaves.{begins, goes, next_at, room_now, some_left, sound_within, within}
use Rattle.nl_attr.proofs.Lemmas.Putting.{put_one}
use Rattle.nl_attr.proofs.Lemmas.Taping.{holds_empty, holds_none}
use Rattle.nl_attr.proofs.taping.leaves.pass_like.Goals as goal

pub leaves-init : goal.leaves-init
leaves-init c = let a = c.args in (refl, omega arith, omega arith, omega arith, omega arith, refl, begins a.shape (start_of a.ctx a.level (a.end - length a.bytes.now) a.bytes.now) a.count a.out.now)

pub put_in-requires : goal.put_in-requires
put_in-requires c =
    let a = c.args in
    let is = c.leaves.invariant in
    let size : length (drop c.leaves.at a.bytes.now) ≡ length a.bytes.now - c.leaves.at = length-drop c.leaves.at a.bytes.now in
    subst (λ (n : ℕ). HasRoom a.room c.leaves.count 4 n) (sym is.5) (room_now is.6 a.room (length a.out.now) c.requires.room (omega (arith, c.leaves-test.true, is.0, is.1, is.2, is.3, is.4, size, c.requires.size)))

pub overflow_add-count : goal.overflow_add-count
overflow_add-count c = omega (arith, (within c.leaves.invariant.6).1, c.requires.count, c.requires.size)

pub put_in-requires-in-Bytes : goal.put_in-requires-in-Bytes
put_in-requires-in-Bytes c =
    let a = c.args in
    let is = c.leaves.invariant in
    let size : length (drop c.leaves.at a.bytes.now) ≡ length a.bytes.now - c.leaves.at = length-drop c.leaves.at a.bytes.now in
    subst (λ (n : ℕ). HasRoom a.room c.leaves.count 4 n) (sym is.5) (room_now is.6 a.room (length a.out.now) c.requires.room (omega (arith, c.leaves-test.true, is.0, is.1, is.2, is.3, is.4, size, c.requires.size)))

pub overflow_add-count-in-Bytes : goal.overflow_add-count-in-Bytes
overflow_add-count-in-Bytes c = omega (arith, (within c.leaves.invariant.6).1, c.requires.count, c.requires.size)

pub leaves-preserved : goal.leaves-preserved
leaves-preserved c =
    let a = c.args in
    let o = a.shape.order in
    let bytes = a.bytes.now in
    let at = c.leaves.at in
    let is = c.leaves.invariant in
    let left = drop at bytes in
    let whole : take (length bytes - at) left ≡ left = left_so bytes at at refl in
    let size : length left ≡ length bytes - at = length-drop at bytes in
    let k = head_with (start_of a.ctx a.level (a.end - length bytes) bytes) left in
    let place : k.place ≡ a.end - length bytes + at = omega (arith, size, is.2, is.4, c.requires.within) in
    let len = c.len_at-len.result in
    let says : len ≡ len_of o 2 left = rw c.order-order.ensures at c.len_at-len.ensures ∙ ap (len_of o 2) whole in
    let room : c.leaves.behind + 4 + at ≡ length bytes / 4 * 4 = omega (arith, c.leaves-test.true, is.2, is.3, is.4, c.requires.size) in
    let low : 4 ≤ len = omega (arith, c.if-behind-len.false, c.leaves-test.true, c.len_at-len.type_inv) in
    let high : at + len ≤ length bytes / 4 * 4 = omega (arith, c.if-behind-len.false, c.leaves-test.true, c.len_at-len.type_inv, room) in
    let step : (at + len + 3) / 4 * 4 ≡ at + ((len + 18446744073709551612) % 18446744073709551616 + 7) / 4 * 4 = omega (arith, low, high, is.0, c.requires.size) in
    let sound = sound_within o left len says low (omega (arith, high, size)) in
    let number = c.kind_at-number.result in
    let kind : number ≡ kind_of o left = rw c.order-order.ensures at c.kind_at-number.ensures ∙ ap (kind_of o) whole in
    let few : number < NUMBERS = omega (arith, c.if-number-ge-NUMBERS.false) in
    let held = c.holds.result in
    let key : held ≡ content_at o a.key left = content_so o a.key left number held (record { nested = false; net = false }) (omega (arith, kind, few)) (sym (no_flags number few) ∙ ap flags_of kind) c.holds.ensures in
    let holds : held ≡ content_at o a.ctx left = key ∙ sym (c.requires.key (kind_of o left % NUMBERS) (flags_of (kind_of o left))) in
    let none : held ≡ content.Bytes = c.in-Bytes.is in
    let body : (len + 18446744073709551612) % 18446744073709551616 ≡ length (payload_of o 4 2 left) = omega (arith, low, high, size, says, length-drop 4 (take (len_of o 2 left) left), length-take (len_of o 2 left) left, c.requires.size) in (
      omega (arith, step),
      is.1,
      omega (arith, step, high),
      omega (arith, room, step, low, high, is.0, c.requires.size),
      is.4,
      ap (length {A = Event}) c.put_in-in-Bytes.ensures ∙ length-set c.leaves.out c.leaves.count _ ∙ is.5,
      goes is.6 _ c.put_in-in-Bytes.new.out
          (ap (λ (n : ℕ). drop n bytes) (sym step) ∙ next_at o bytes at len is.0 says (omega (arith, high)))
          (some_left left (omega (arith, low, high, size)))
          (attr_goes a.shape a.ctx a.level k.place left sound held holds len says (ap (λ (x : Content). broken_container a.shape a.level x len) none))
          (holds_none a.shape k (attr_inner a.shape a.ctx a.level k.place left sound held holds len says (payload_of o 4 2 left) refl
          ∙ ap (λ (x : Content). inner_in x (k.place + 4) (a.level + 1) (payload_of o 4 2 left)) none))
          (c.put_in-in-Bytes.ensures
          ∙ ap (slice_set c.leaves.out c.leaves.count) (plain_event o a.ctx a.level _ left _ number kind few body (sym holds ∙ none) ∙ ap (λ (p : ℕ). event_of o (start_of a.ctx a.level p left)) (sym place))
          ∙ sym (put_one c.leaves.count (event_of o k) c.leaves.out)),
    )

pub leaves-preserved-then-number-ge-NUMBERS : goal.leaves-preserved-then-number-ge-NUMBERS
leaves-preserved-then-number-ge-NUMBERS c =
    let a = c.args in
    let o = a.shape.order in
    let bytes = a.bytes.now in
    let at = c.leaves.at in
    let is = c.leaves.invariant in
    let left = drop at bytes in
    let whole : take (length bytes - at) left ≡ left = left_so bytes at at refl in
    let size : length left ≡ length bytes - at = length-drop at bytes in
    let k = head_with (start_of a.ctx a.level (a.end - length bytes) bytes) left in
    let place : k.place ≡ a.end - length bytes + at = omega (arith, size, is.2, is.4, c.requires.within) in
    let said = c.len_at-len.result in
    let says : said ≡ len_of o 2 left = rw c.order-order.ensures at c.len_at-len.ensures ∙ ap (len_of o 2) whole in
    let number = c.kind_at-number.result in
    let kind : number ≡ kind_of o left = rw c.order-order.ensures at c.kind_at-number.ensures ∙ ap (kind_of o) whole in
    let empty : IsEmptyList a.key number ((said + 18446744073709551612) % 18446744073709551616) a.level a.shape.depth = c.is_empty_list.ensures c.if-not-is_empty_list.false in
    let four : said ≡ 4 = omega (arith, empty.0, c.len_at-len.type_inv) in
    let room : c.leaves.behind + 4 + at ≡ length bytes / 4 * 4 = omega (arith, c.leaves-test.true, is.2, is.3, is.4, c.requires.size) in
    let high : at + 4 ≤ length bytes / 4 * 4 = omega (arith, room) in
    let step : (at + said + 3) / 4 * 4 ≡ at + 4 = omega (arith, four, is.0) in
    let sound = sound_within o left said says (omega (arith, four)) (omega (arith, four, high, size)) in
    let body = payload_of o 4 2 left in
    let none : length body ≡ 0 = omega (arith, four, says, size, high, length-drop 4 (take (len_of o 2 left) left), length-take (len_of o 2 left) left) in
    let held : Content = content.List empty.2.0 in
    let key : held ≡ content_at o a.key left = content_so o a.key left (number % NUMBERS) held (flags_of number) (ap (λ (n : ℕ). n % NUMBERS) kind) (ap flags_of kind) (sym empty.2.1) in
    let holds : held ≡ content_at o a.ctx left = key ∙ sym (c.requires.key (kind_of o left % NUMBERS) (flags_of (kind_of o left))) in
    let inner = attr_inner a.shape a.ctx a.level k.place left sound held holds said says body refl in (
      omega (arith, is.0),
      is.1,
      omega (arith, high, is.2, room, is.3, is.4),
      omega (arith, room, high, is.0, is.2, is.3, is.4, c.requires.size),
      is.4,
      ap (length {A = Event}) c.put_in.ensures ∙ length-set c.leaves.out c.leaves.count _ ∙ is.5,
      goes is.6 _ c.put_in.new.out
          (ap (λ (n : ℕ). drop n bytes) (sym step) ∙ next_at o bytes at said is.0 says (omega (arith, step, high)))
          (some_left left (omega (arith, high, size)))
          (attr_goes a.shape a.ctx a.level k.place left sound held holds said says (list_fits a.shape a.level said empty.2.0 (omega (arith, four)) empty.1))
          (holds_empty a.shape k _ inner (nil_from_length body (omega (arith, none))))
          (c.put_in.ensures
          ∙ ap (slice_set c.leaves.out c.leaves.count) (c.list_event.ensures ∙ list_event o a.ctx empty.2.0 a.level _ left number kind (sym none) holds ∙ ap (λ (p : ℕ). event_of o (start_of a.ctx a.level p left)) (sym place))
          ∙ sym (put_one c.leaves.count (event_of o k) c.leaves.out)),
    )
