use Rattle.rtnl.proofs.Common.{◌≡◌, take, Appends, joined}
use Rattle.rtnl.proofs.streams.sink.give_parts.Given as goal

-- the first parts were given, and no call has failed or taken no byte
abbrev pub invariant-loop-index : goal.invariant-loop-index
invariant-loop-index g l =
    record {
      front : Appends (g.W.Sink.contents l.initial.sink) (g.W.Sink.contents l.sink) (joined (take l.index l.parts));
      sound : g.W.Sink.failure_count l.sink ≡ g.W.Sink.failure_count l.initial.sink;
      steady : g.W.Sink.stall_count l.sink ≡ g.W.Sink.stall_count l.initial.sink;
    }
