use Rattle.std.proofs.Common.{rules, ◌≡◌, ◌∷◌, [], ◌++◌, ◌∙◌, map, refl, sym, ap, subst, append_assoc, append-nil, arith}
use Rattle.rtnl.proofs.Common.{map-append, nil_from_length, message_view, Hearing, HearsAll}
use Rattle.rtnl.proofs.Mirrors.{answers_one, hears_one, none_told}
use Rattle.rtnl.proofs.runs.mirroring.hear_all.Goals as goal

pub loop-message-preserved : goal.loop-message-preserved
loop-message-preserved g c =
    let i = c.loop-message.invariant in
    let done = i.0 in
    let hs = i.1 in
    let m = c.in-Some.message in
    let rest = c.next.new.self.rest.items in
    let f = c.args.mirror.now in
    let h : Hearing = record { answer = c.hear-answer.result; mirror = c.hear-answer.new.self } in
    let split : c.loop-message.message-iterator.rest.items ≡ m ∷ rest = c.in-Some.ensures.steps.0 in (
      done ++ m ∷ [],
      hs ++ h ∷ [],
      append_assoc done (m ∷ []) rest ∙ ap (λ l. done ++ l) (sym split) ∙ i.2,
      subst (λ ms. HearsAll f ms (hs ++ h ∷ []) h.mirror) (sym (map-append message_view done (m ∷ [])))
          (hears_one f c.loop-message.mirror (map message_view done) hs (message_view m) h i.3 c.hear-answer.ensures.heard c.hear-answer.ensures.update),
      answers_one g.F.ReportFormat.report g.F.MirrorFormat.telling c.args.settings.now.limits.shape.order c.args.settings.now.kind c.args.settings.now.changes hs h
          c.args.out.now.items c.loop-message.out.items c.push_answer.new.out.items i.4 c.in_ok-push_answer.ensures,
    )

pub loop-message-init : goal.loop-message-init
loop-message-init g c = ([], [], search rules, refl, none_told c.args.settings.now.changes c.args.out.now.items)

pub returns : goal.returns
returns g c =
    let i = c.loop-message.invariant in
    let none : c.loop-message.message-iterator.rest.items ≡ [] = nil_from_length c.loop-message.message-iterator.rest.items (first_of (search rules, grind arith)) in
    let all : i.0 ≡ c.args.messages.items = sym (append-nil i.0) ∙ ap (λ l. i.0 ++ l) (sym none) ∙ i.2 in
    (i.1, subst (λ ms. HearsAll c.args.mirror.now (map message_view ms) i.1 c.loop-message.mirror) all i.3, i.4)
