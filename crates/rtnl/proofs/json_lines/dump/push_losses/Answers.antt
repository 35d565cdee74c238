use Rattle.rtnl.proofs.Common.{◌∷◌, [], codes, IfOk-weaker}
use Rattle.rtnl.specs.Json.{Field, boolean}
use Rattle.rtnl.specs.TabledJson.{loss_fields}
use Rattle.rtnl.proofs.Json.{then_fields}
use Rattle.rtnl.proofs.json_lines.dump.push_losses.Goals as goal

pub returns : goal.returns
unfolding loss_fields
returns c =
    let damaged : Field = (codes "damaged", boolean c.args.standing.now.damaged) in
    let interrupted : Field = (codes "interrupted", boolean c.args.standing.now.interrupted) in
    IfOk-weaker c.boolean-2.result _ _ (λ _ last. then_fields c.args.line.now c.boolean.new.self c.boolean-2.new.self (damaged ∷ []) (interrupted ∷ []) c.in_ok-boolean.ensures last) c.boolean-2.ensures
