use Rattle.rtnl.proofs.Common.{◌≡◌, ◌++◌, drop, map, message_view, messages_text}
use Rattle.rtnl.proofs.text.message.push_messages.Given as goal

-- what is written and what is left give the whole
abbrev pub invariant-loop-message : goal.invariant-loop-message
invariant-loop-message l =
    l.out.items ++ messages_text l.order (map message_view (drop l.message-index l.messages))
    ≡ l.initial.out.items ++ messages_text l.order (map message_view l.messages)
