use Rattle.rtnl.proofs.Common.{◌++◌, ◌∙◌, [], codes, IfOk-weaker, marks_in}
use Rattle.std.proofs.Common.{append-nil}
use Rattle.nl_attr.specs.Fixed.{STANDARD_LEVELS}
use Rattle.rtnl.specs.declared.bytes.parts.Depth.TheVariants.{Body}
use Rattle.rtnl.specs.Inside.{inside_marks}
use Rattle.rtnl.proofs.Payloads.{no_parts}
use Rattle.rtnl.proofs.bytes.view.push_other.Goals as goal

pub returns : goal.returns
returns c =
    let a = c.args in
    IfOk-weaker c.push_inside.result _ _
    (λ _ seen.
    seen
    ∙ (λ j. marks_in a.pieces.now.items
    ++ inside_marks a.order (c.bytes_up_to.ensures j) STANDARD_LEVELS Body (append-nil (codes "payload") j) (c.known-format.ensures.says j).format [] (no_parts a.order j) a.content.now)) c.push_inside.ensures
