use Rattle.rtnl.proofs.Common.{◌++◌, ◌∙◌, ap, arith, codes, false, IfOk-weaker}
use Rattle.std.specs.Fmt.{decimal}
use Rattle.rtnl.specs.Json.{opened}
use Rattle.rtnl.proofs.Json.{place_written}
use Rattle.rtnl.proofs.Unescaped.{decimal_unescaped}
use Rattle.rtnl.proofs.json_lines.line.Line.place.Goals as goal

pub returns : goal.returns
returns c =
    let text = c.put_field.ensures.text ∙ ap (λ t. codes "\"" ++ (decimal c.args.place ++ t)) c.new-piece.ensures in
    IfOk-weaker c.push.result _ _
    (λ _ grown. place_written c.args.self.now _ c.args.place _ (decimal_unescaped c.args.place (omega (arith, c.ranges.place.fits))) (c.self.view_is ∙ c.in_ok-piece.ensures ∙ ap (λ t. opened c.args.self.now t false) text) grown) c.push.ensures
