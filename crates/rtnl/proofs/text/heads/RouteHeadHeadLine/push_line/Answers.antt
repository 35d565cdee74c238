use Rattle.rtnl.proofs.Common.{refl, IfOk-equal}
use Rattle.rtnl.specs.Route.{route_line}
use Rattle.rtnl.proofs.text.heads.RouteHeadHeadLine.push_line.Goals as goal

pub returns : goal.returns
unfolding route_line
returns c =
    IfOk-equal c.push_to.result _ _ _ c.push_to.ensures
    (rw (c.put_field-8.ensures.text, c.put_field-7.ensures.text, c.put_field-6.ensures.text, c.put_field-5.ensures.text, c.put_field-4.ensures.text, c.put_field-3.ensures.text, c.put_field-2.ensures.text, c.put_field.ensures.text, c.put-2.ensures.text, c.put_hex8.ensures.text, c.put.ensures.text, c.new-line.ensures) refl)
