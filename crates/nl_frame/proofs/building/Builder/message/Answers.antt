use Rattle.nl_frame.proofs.Common.{◌≡◌, length, None, arith, ap, sym, ◌∙◌, AreBytes, BuilderTop, form_of, over}
use Rattle.nl_frame.specs.Building.{Built, message_refusal, or_next, put_message}
use Rattle.nl_frame.proofs.Kept.{put_over, where_ok}
use Rattle.nl_frame.proofs.Running.{not_refused}
use Rattle.nl_frame.proofs.Wholes.{bytes_hold, is_whole, the_body}
use Rattle.nl_frame.proofs.building.Builder.message.Goals as goal
use Rattle.nl_frame.proofs.building.Builder.message.Goals.{After-keep_put}

fits : (c : After-keep_put) → AreBytes c.args.body.now
fits c = λ i. omega (arith, c.type_inv.body i)

made : (c : After-keep_put) → over c.keep_put.new.self c.message-put.new.out ≡ put_message (over c.args.self.now c.args.out.now) c.args.kind c.args.flags c.args.seq c.args.port c.args.body.now
made c =
    let v = c.as_top-top.ensures.value in
    let o = c.message-put.ensures in
    put_over c.args.self.now _ _ v _ _ _ (λ (b : Built). put_message b c.args.kind c.args.flags c.args.seq c.args.port c.args.body.now) o.rest c.keep_put.ensures.kept (o.built c.args.self.now.heads (sym (ap (λ (x : BuilderTop). x.head) v)))

-- the call is not refused
goes : (c : After-keep_put) → c.keep_put.new.self.refusal ≡ None
    → or_next (over c.args.self.now c.args.out.now).refusal (message_refusal (over c.args.self.now c.args.out.now) (over c.args.self.now c.args.out.now).heads c.args.kind (length c.args.body.now)) ≡ None
goes c none = not_refused (over c.args.self.now c.args.out.now) _ _ (ap (λ (x : Built). x.refusal) (sym (made c)) ∙ none)

pub returns-clause-body : goal.returns-clause-body
returns-clause-body c =
    let p = (goal.at.returns-clause-body c).After-keep_put in
    where_ok _ _ _ c.keep_put.ensures.answer (λ none s. the_body s (form_of c.args.kind) c.args.body.now (fits p) (is_whole (over c.args.self.now c.args.out.now) c.args.kind (length c.args.body.now) (goes p none)).form)

pub returns-clause-puts : goal.returns-clause-puts
returns-clause-puts c =
    let p = (goal.at.returns-clause-puts c).After-keep_put in
    let r = c.ranges in
    where_ok _ _ _ c.keep_put.ensures.answer (λ none d L v body h. bytes_hold (over c.args.self.now c.args.out.now) (over c.keep_put.new.self c.message-put.new.out) d L c.args.kind c.args.flags c.args.seq c.args.port v c.args.body.now (fits p) (r.kind.fits, r.flags.fits, r.seq.fits, r.port.fits) (goes p none) (made p) body.is h)
