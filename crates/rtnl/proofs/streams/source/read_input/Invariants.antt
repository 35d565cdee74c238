use Rattle.rtnl.proofs.Common.{◌≡◌, ◌-◌, ◌≤◌, length, Consumes}
use Rattle.rtnl.proofs.streams.source.read_input.Given as goal

abbrev pub invariant-loop-buffer : goal.invariant-loop-buffer
invariant-loop-buffer g l =
    record {
      given : Consumes (g.S.Source.remaining l.initial.source) (g.S.Source.remaining l.source) l.input.items;
      within : length l.input.items ≤ 16777217;
      room : length l.buffer ≡ 8192;
      sound : g.S.Source.failure_count l.source ≡ g.S.Source.failure_count l.initial.source;
    }

abbrev pub decreases-loop-buffer : goal.decreases-loop-buffer
decreases-loop-buffer g l = 16777217 - length l.input.items
