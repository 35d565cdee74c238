use Rattle.nl_frame.proofs.Common.{◌∙◌, refl, sym, ap, form_of}
use Rattle.nl_frame.proofs.Fronts.{front_short, frame_of}
use Rattle.nl_frame.proofs.front.front_of.Goals as goal

pub returns-then-payload-least : goal.returns-then-payload-least
returns-then-payload-least c = front_short c.args.order c.args.left.now _ c.args.len c.args.form c.requires.len c.requires.form refl (rw (← c.least.ensures) c.if-payload-least.true)

pub returns : goal.returns
returns c =
    let form = c.requires.form ∙ sym (ap (λ h. form_of h.kind) c.read-header.ensures) in
    frame_of c.args.order c.args.left.now _ c.args.len c.requires.len c.read-header.ensures form refl c.frame_span-span.ensures refl (rw (← c.least.ensures) c.if-payload-least.false)
