use Rattle.nl_frame.proofs.Common.{◌++◌, length, sym, ◌∙◌, with_padding, header_fields, grown, header_whole, order_of, over, parts_with}
use Rattle.nl_route.specs.Fields as fields
use Rattle.nl_frame.proofs.Tops.{goes_as}
use Rattle.nl_frame.proofs.building.top.BuilderTop.message.Goals as goal

pub returns-clause-built : goal.returns-clause-built
returns-clause-built c = λ hs e.
    let b = over (parts_with c.args.self.now hs) c.args.out.now in
    let bs = c.args.body.now in
    let it = fields.written (order_of b) (header_fields (header_whole c.args.kind c.args.flags c.args.seq c.args.port (length bs))) ++ bs in
    goes_as b _ (grown b (with_padding it)) _ (sym (c.message_refusal.ensures.value hs e) ∙ c.in_default.is) (c.accept_message.ensures.built hs)
