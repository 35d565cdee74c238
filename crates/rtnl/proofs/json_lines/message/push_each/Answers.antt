use Rattle.std.proofs.Common.{◌≡◌, ◌∷◌, ◌∙◌, ◌+◌, drop, map, refl, rules}
use Rattle.rtnl.proofs.Common.{drop_more, message_view, messages_json}
use Rattle.rtnl.proofs.Json.{next_written}
use Rattle.rtnl.proofs.json_lines.message.push_each.Goals as goal

pub loop-message-preserved : goal.loop-message-preserved
loop-message-preserved c =
    let ms = c.args.messages.now in
    let k = c.loop-message.message-index in
    let m = c.message-item.result in
    let here : drop k ms ≡ m ∷ drop (k + 1) ms = drop_more ms k m c.loop-message-test.true ∙ search rules in
    next_written (λ ms. messages_json c.args.order (map message_view ms)) ms k m _ c.loop-message.line c.push_message.new.line _ here refl c.in_ok-push_message.ensures c.loop-message.invariant
