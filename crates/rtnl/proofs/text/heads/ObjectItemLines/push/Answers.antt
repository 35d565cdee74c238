use Rattle.rtnl.proofs.Common.{append_assoc, IfOk-equal}
use Rattle.rtnl.specs.Messages.{body_text}
use Rattle.rtnl.proofs.text.heads.ObjectItemLines.push.Goals as goal

pub returns : goal.returns
unfolding body_text
returns g c =
    IfOk-equal c.push_attrs.result _ _ _ c.push_attrs.ensures.text
    (rw (c.new.ensures.items, c.context.ensures, g.met.H.FamilyHead.same c.args.self.now.head, c.deref.ensures.value, c.in_ok-push_line.ensures) (simp append_assoc))
