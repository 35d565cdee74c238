use Rattle.std.proofs.Common.{rules, ◌≡◌, ◌∙◌, ◌∷◌, ◌++◌, [], List, subst, sym}
use Rattle.std.proofs.lemmas.List.{nil_from_length}
use Rattle.nl_frame.specs.declared.body.Message.{Message}
use Rattle.rtnl_c.proofs.Telling.{AreHeard, all_heard, heard_more, none_heard}
use Rattle.rtnl_c.proofs.hearing.hear_silently.Goals as goal

pub loop-message-init : goal.loop-message-init
loop-message-init c = ([], none_heard c.args.mirror.now c.args.messages.items _ (search rules))

pub loop-message-preserved : goal.loop-message-preserved
loop-message-preserved c =
    let f = c.args.mirror.now in let all = c.args.messages.items in let rest = c.next.new.self.rest.items in let l = c.loop-message in let h = c.hear in
    let split : l.message-iterator.rest.items ≡ c.in-Some.message ∷ rest = c.in-Some.ensures.steps.0 in
    let heard = subst (λ (xs : List Message). AreHeard f all xs l.invariant.0 l.mirror) split l.invariant.1 in
    (l.invariant.0 ++ h.result ∷ [], heard_more f all c.in-Some.message rest l.invariant.0 l.mirror h.new.self heard h.result h.ensures.heard h.ensures.update)

pub returns : goal.returns
returns c =
    let f = c.args.mirror.now in let all = c.args.messages.items in let l = c.loop-message in let rs = l.invariant.0 in
    let ended : l.message-iterator.rest.items ≡ [] = nil_from_length _ (sym l.message-iterator.rest.ok.0 ∙ c.in-None.ensures.steps.0) in
    (rs, all_heard f all rs l.mirror (subst (λ (xs : List Message). AreHeard f all xs rs l.mirror) ended l.invariant.1), tt)
