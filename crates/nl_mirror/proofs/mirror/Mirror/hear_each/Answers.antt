use Rattle.nl_mirror.proofs.Common.{◌≡◌, ◌∷◌, [], ◌++◌, length, map, sym, ap, ◌∙◌, subst, append_assoc, arith, map-append, message_view, HearsEach}
use Rattle.nl_mirror.proofs.Fives.{hears_more}
use Rattle.nl_mirror.proofs.mirror.Mirror.hear_each.Goals as goal

pub loop-message-preserved : goal.loop-message-preserved
loop-message-preserved c =
    let i = c.loop-message.invariant in
    let done = i.heard in
    let f = c.args.self.now in
    let h = c.hear-answer.new.self in
    let rest = c.next.new.self.rest.items in
    let v = message_view c.in-Some.message in
    let split : c.loop-message.message-iterator.rest.items ≡ c.in-Some.message ∷ rest = c.in-Some.ensures.steps.0 in
    record {
      room = omega (arith, i.room, ap length split, c.append.ensures.len, c.append.ensures.capacity);
      heard = (
        done.0 ++ c.in-Some.message ∷ [],
        append_assoc done.0 (c.in-Some.message ∷ []) rest ∙ ap (λ l. done.0 ++ l) (sym split) ∙ done.1,
        subst (λ ms. HearsEach f ms c.append.new.answers.items h) (sym (map-append message_view done.0 (c.in-Some.message ∷ [])))
            (subst (λ rs. HearsEach f (map message_view done.0 ++ v ∷ []) rs h) (sym c.append.ensures.items)
            (hears_more f c.loop-message.self h (map message_view done.0) c.loop-message.answers.items v c.hear-answer.result done.2 c.hear-answer.ensures.heard c.hear-answer.ensures.update)),
      );
    }
