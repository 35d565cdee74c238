use Rattle.std.proofs.Common.{◌≡◌, ◌++◌, append_assoc, rules}
use Rattle.std.specs.Fmt.{signed_decimal}
use Rattle.std.proofs.lemmas.Result.{IfOk-equal}
use Rattle.rtnl.specs.Messages.{error_line}
use Rattle.rtnl.proofs.text.body.push_error.Goals as goal

pub returns : goal.returns
unfolding error_line
returns c =
    let code : c.put_signed.new.self ≡ signed_decimal c.args.code ++ c.put_field-4.new.self = search (rules, c.put_signed.ensures.text) in
    IfOk-equal c.push_tail.result _ _ _ c.push_tail.ensures
    (rw (c.in_ok-push_to.ensures, c.put-2.ensures.text, code, c.put_field-4.ensures.text, c.put_field-3.ensures.text, c.put.ensures.text, c.put_hex4.ensures.text, c.put_field-2.ensures.text, c.put_field.ensures.text, c.new-front.ensures) (simp append_assoc))
