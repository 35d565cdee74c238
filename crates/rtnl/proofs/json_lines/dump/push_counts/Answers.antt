use Rattle.rtnl.proofs.Common.{◌∷◌, [], codes, IfOk-weaker}
use Rattle.rtnl.specs.Json.{Field, number}
use Rattle.rtnl.specs.TabledJson.{count_fields}
use Rattle.rtnl.proofs.Json.{then_fields}
use Rattle.rtnl.proofs.json_lines.dump.push_counts.Goals as goal

pub returns : goal.returns
unfolding count_fields
returns c =
    let e = c.args.ending.now in
    let w = c.args.line.now in
    let entries : Field = (codes "entries", number e.entries) in
    let missed : Field = (codes "missed", number e.missed) in
    let ignored : Field = (codes "ignored", number e.standing.ignored) in
    let unfed : Field = (codes "unfed", number e.unfed) in
    let second = then_fields w c.number.new.self c.number-2.new.self (entries ∷ []) (missed ∷ []) c.in_ok-number.ensures c.in_ok-number-2.ensures in
    let third = then_fields w c.number-2.new.self c.number-3.new.self (entries ∷ missed ∷ []) (ignored ∷ []) second c.in_ok-number-3.ensures in
    IfOk-weaker c.number-4.result _ _ (λ _ last. then_fields w c.number-3.new.self c.number-4.new.self (entries ∷ missed ∷ ignored ∷ []) (unfed ∷ []) third last) c.number-4.ensures
