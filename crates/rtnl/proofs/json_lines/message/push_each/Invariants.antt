use Rattle.rtnl.proofs.Common.{◌≡◌, drop, map, message_view, messages_json}
use Rattle.rtnl.specs.Json.{◌⊕◌, values_tokens}
use Rattle.rtnl.proofs.json_lines.message.push_each.Given as goal

-- what is written and what is left give the whole
abbrev pub invariant-loop-message : goal.invariant-loop-message
invariant-loop-message l =
    l.line ⊕ values_tokens (messages_json l.order (map message_view (drop l.message-index l.messages)))
    ≡ l.initial.line ⊕ values_tokens (messages_json l.order (map message_view l.messages))
