use Rattle.rtnl.proofs.Common.{◌≡◌, ◌++◌, ◌∙◌, Bool, [], ap, codes, length, sym, IfOk-weaker, Mark, marks_in}
use Rattle.rtnl.proofs.Common as common
use Rattle.std.proofs.Common.{append-nil}
use Rattle.std.specs.Prelude.{if◌then◌else◌}
use Rattle.nl_attr.specs.Fixed.{STANDARD_LEVELS}
use Rattle.nl_values.specs.Known.{extack_set}
use Rattle.nl_values.specs.declared.format.Format.TheVariants.{List}
use Rattle.rtnl.specs.declared.bytes.notation.Notation.TheVariants.{Blank}
use Rattle.rtnl.specs.declared.bytes.parts.Depth.TheVariants.{Body}
use Rattle.rtnl.specs.Inside.{inside_marks, whole}
use Rattle.rtnl.proofs.Payloads.{no_parts}
use Rattle.rtnl.proofs.bytes.view.push_tail.Goals as goal

pub returns : goal.returns
returns c =
    let a = c.args in
    let old = marks_in a.pieces.now.items in
    let inside = inside_marks a.order [] STANDARD_LEVELS Body (codes "tail") (List extack_set) [] [] a.tail.now in
    let by : Bool → common.List Mark = λ has. old ++ (if has then inside else whole Body (codes "tail") Blank (length a.tail.now)) in
    IfOk-weaker c.push_inside.result _ _
    (λ _ seen.
    seen ∙ (λ j. old ++ inside_marks a.order [] STANDARD_LEVELS Body (append-nil (codes "tail") j) (List extack_set) [] (no_parts a.order j) a.tail.now)
    ∙ ap by (sym c.if-not-has_attributes.false ∙ c.has_attributes.ensures)) c.push_inside.ensures
