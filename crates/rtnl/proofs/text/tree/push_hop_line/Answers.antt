use Rattle.std.proofs.Common.{◌≡◌, ◌++◌, append_assoc, rules}
use Rattle.std.specs.Fmt.{signed_decimal}
use Rattle.std.proofs.lemmas.Result.{IfOk-equal}
use Rattle.rtnl.specs.Trees.{hop_line}
use Rattle.rtnl.proofs.text.tree.push_hop_line.Goals as goal

pub returns : goal.returns
unfolding hop_line
returns c =
    let index : c.put_signed.new.self ≡ signed_decimal c.args.index ++ c.put-3.new.self = search (rules, c.put_signed.ensures.text) in
    IfOk-equal c.push_to-2.result _ _ _ c.push_to-2.ensures
    (rw (c.put_field.ensures.text, c.put-4.ensures.text, index, c.put-3.ensures.text, c.new-end.ensures, c.in_ok-push_names.ensures, c.in_ok-push_to.ensures, c.put-2.ensures.text, c.put_hex2.ensures.text, c.put.ensures.text, c.new-front.ensures, c.in_ok-push_indent.ensures) (simp append_assoc))
