use Rattle.rtnl.proofs.Common.{◌≡◌, ◌++◌, ◌∙◌, List, ap, append_assoc, codes, on_ok_weaker, Mark, fields, rest_of, marks_in}
use Rattle.rtnl.specs.declared.bytes.parts.Depth.TheVariants.{Body}
use Rattle.rtnl.specs.Structs.{rtgenmsg}
use Rattle.rtnl.proofs.bytes.view.push_body.Goals as goal

pub returns-in_ok-push_fields-in-Get : goal.returns-in_ok-push_fields-in-Get
unfolding rtgenmsg
returns-in_ok-push_fields-in-Get c =
    let a = c.args in
    let old = marks_in a.pieces.now.items in
    let said : marks_in c.push_fields-in-Get.new.pieces.items ≡ old ++ fields Body rtgenmsg = c.in_ok-push_fields-in-Get.ensures in
    let rest = rest_of a.event.now (codes "tail") in
    rw c.in-Get.is (on_ok_weaker c.push_rest.result (λ e. e ∙ ap (λ (t : List Mark). t ++ rest) said ∙ append_assoc old (fields Body rtgenmsg) rest) c.push_rest.ensures)
