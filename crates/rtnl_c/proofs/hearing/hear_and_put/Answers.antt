use Rattle.rtnl_c.proofs.Common.{take_rest, Message, rules, ◌≡◌, ◌∙◌, ◌∷◌, [], List, subst, sym, nil_from_length}
use Rattle.rtnl_c.proofs.Telling.{AreBoth, AreHeard, all_heard, all_told, both_more, none_heard, none_told}
use Rattle.rtnl_c.proofs.hearing.hear_and_put.Goals as goal

pub loop-message-init : goal.loop-message-init
loop-message-init c =
    record { rs = []; heard = none_heard c.args.mirror.now c.args.messages.items _ (search rules); told = none_told c.args.mirror.now c.args.changes.now c.args.before.now }

pub loop-message-preserved : goal.loop-message-preserved
loop-message-preserved c =
    let f = c.args.mirror.now in let all = c.args.messages.items in let old = c.args.changes.now in let out = c.args.before.now in
    let l = c.loop-message in let p = c.put_change-at in let h = c.hear-answer in let rest = c.next.new.self.rest.items in
    let split : l.message-iterator.rest.items ≡ c.in-Some.message ∷ rest = c.in-Some.ensures.steps.0 in
    let both = subst (λ (xs : List Message). AreBoth f all old out xs l.mirror l.changes l.before l.at l.index) split l.invariant in
    both_more f all old out c.in-Some.message rest l.mirror h.new.self l.changes l.before l.at l.index both c.requires.room h.result h.ensures.heard h.ensures.update
    p.result _ p.new.out p.new.change (take_rest l.before l.at) p.ensures.before p.ensures.change

pub returns : goal.returns
returns c =
    let f = c.args.mirror.now in let all = c.args.messages.items in let l = c.loop-message in let t = l.invariant in
    let ended : l.message-iterator.rest.items ≡ [] = nil_from_length _ (sym l.message-iterator.rest.ok.0 ∙ c.in-None.ensures.steps.0) in (
      t.rs,
      all_heard f all t.rs l.mirror (subst (λ (xs : List Message). AreHeard f all xs t.rs l.mirror) ended t.heard),
      all_told l.mirror t.rs c.args.changes.now c.args.before.now l.changes l.before l.at l.index t.told,
    )
