use Rattle.rtnl.proofs.Common.{◌≡◌, length, ◌-◌, ◌≤◌, take, Appends}
use Rattle.rtnl.proofs.streams.sink.give_all.Given as goal

-- what was given so far is a prefix of the text, and no call has failed or taken no byte
abbrev pub invariant-loop-done : goal.invariant-loop-done
invariant-loop-done g l =
    record {
      within : l.done ≤ length l.text;
      prefix : Appends (g.W.Sink.contents l.initial.sink) (g.W.Sink.contents l.sink) (take l.done l.text);
      sound : g.W.Sink.failure_count l.sink ≡ g.W.Sink.failure_count l.initial.sink;
      steady : g.W.Sink.stall_count l.sink ≡ g.W.Sink.stall_count l.initial.sink;
    }

abbrev pub decreases-loop-done : goal.decreases-loop-done
decreases-loop-done g l = length l.text - l.done
