use Rattle.nl_mirror.proofs.Common.{◌≡◌, ◌≤◌, ◌+◌, ◌++◌, length, map, List, vec_capacity, vec_len, message_view, HearsEach}
use Rattle.nl_frame.specs.declared.body.Message.{Message}
use Rattle.nl_mirror.proofs.mirror.Mirror.hear_each.Given as goal

abbrev pub invariant-loop-message : goal.invariant-loop-message
invariant-loop-message l =
    record {
      room : vec_len l.answers + length l.message-iterator.rest.items ≤ vec_capacity l.answers;
      heard : (done : List Message) × (done ++ l.message-iterator.rest.items ≡ l.fn.messages.items)
          × HearsEach l.fn.self (map message_view done) l.answers.items l.self;
    }
