use Rattle.rtnl.proofs.Common.{◌≡◌, ◌-◌, ◌≤◌, ℕ, List, length, Consumes, SaysInput}
use Rattle.rtnl.proofs.runs.run_each.say_input.Given as goal

-- what was read so far is said but for its last line, and no call has failed
abbrev pub invariant-loop-received : goal.invariant-loop-received
invariant-loop-received g l =
    record {
      input : List ℕ;
      given : Consumes (g.S.Source.remaining l.initial.source) (g.S.Source.remaining l.source) input;
      size : l.received ≡ length input;
      within : l.received ≤ 16777217;
      says : SaysInput (g.E.PerDatagram.finds l.each) (g.E.PerDatagram.text l.each) g.E.PerDatagram.takes input l.so_far;
      room : length l.buffer ≡ 8192;
      sound : g.S.Source.failure_count l.source ≡ g.S.Source.failure_count l.initial.source;
    }

abbrev pub decreases-loop-received : goal.decreases-loop-received
decreases-loop-received g l = 16777217 - l.received
