use Rattle.std.proofs.Common.{◌≡◌, ◌++◌, append_assoc, rules}
use Rattle.std.specs.Fmt.{signed_decimal}
use Rattle.std.proofs.lemmas.Result.{IfOk-equal}
use Rattle.rtnl.specs.Neigh.{neigh_line}
use Rattle.rtnl.proofs.text.heads.NeighHeadHeadLine.push_line.Goals as goal

pub returns : goal.returns
unfolding neigh_line
returns c =
    let index : c.put_signed.new.self ≡ signed_decimal c.args.self.now.ifindex ++ c.put-2.new.self = search (rules, c.put_signed.ensures.text) in
    IfOk-equal c.push_to-3.result _ _ _ c.push_to-3.ensures
    (rw (c.put_field-2.ensures.text, c.put-6.ensures.text, c.new-end.ensures, c.in_ok-push_names-2.ensures, c.in_ok-push_to-2.ensures, c.put-5.ensures.text, c.put_hex2.ensures.text, c.put-4.ensures.text, c.new-middle.ensures, c.in_ok-push_names.ensures, c.in_ok-push_to.ensures, c.put_field.ensures.text, c.put-3.ensures.text, index, c.put-2.ensures.text, c.put_hex4.ensures.text, c.put.ensures.text, c.new-front.ensures) (simp append_assoc))
