use Rattle.std.proofs.Common.{◌≡◌, true}
use Rattle.nl_values.specs.Texts.{has_plain, is_ended}
use Rattle.nl_values.proofs.Texts.{hidden, shown}
use Rattle.nl_values.proofs.text.text_in.Goals as goal

pub returns-in-Ok : goal.returns-in-Ok
returns-in-Ok c =
    let ended : true ≡ is_ended c.args.bytes.now = cc in
    let plain : true ≡ has_plain 0 c.stem-stem.result.now = cc in
    shown c.args.bytes.now c.stem-stem.result.now c.in-Ok.text.now c.stem-stem.ensures ended plain c.in-Ok.ensures.cases.0 c.in-Ok.ensures.cases.1

pub returns-in-Err : goal.returns-in-Err
returns-in-Err c = hidden c.args.bytes.now c.stem-stem.result.now c.stem-stem.ensures c.in-Err.ensures.cases.0
