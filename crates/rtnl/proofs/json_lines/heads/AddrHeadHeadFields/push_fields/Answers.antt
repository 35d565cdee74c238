use Rattle.rtnl.proofs.Common.{◌≡◌, ◌∙◌, refl, IfOk-weaker}
use Rattle.json.specs.Print.{escape_byte, print, print_from}
use Rattle.rtnl.specs.Json.{fields_tokens}
use Rattle.rtnl.specs.Addr.{addr_head_fields}
use Rattle.rtnl.proofs.Json.{fields_together}
use Rattle.rtnl.proofs.json_lines.heads.AddrHeadHeadFields.push_fields.Goals as goal

pub returns : goal.returns
unfolding addr_head_fields fields_tokens print_from escape_byte
returns c =
    let text : c.put_small-4.new.self ≡ print (fields_tokens (addr_head_fields c.args.self.now)) = rw (c.put_small-4.ensures.text, c.put_small-3.ensures.text, c.put_small-2.ensures.text, c.put_small.ensures.text, c.put_field.ensures.text, c.new-piece.ensures) refl in
    IfOk-weaker c.piece.result _ _ (λ _ e. e ∙ fields_together c.args.line.now (addr_head_fields c.args.self.now) c.put_small-4.new.self text refl) c.piece.ensures
