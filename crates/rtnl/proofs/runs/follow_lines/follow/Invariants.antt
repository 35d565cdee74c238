use Rattle.rtnl.proofs.Common.{◌≡◌, ◌+◌, ◌-◌, ℕ, List, length, Follows, GoesOn, HasRead}
use Rattle.rtnl.proofs.runs.follow_lines.follow.Given as goal

-- what was read so far is followed, nothing ended it, and no call has failed
abbrev pub invariant-loop-received : goal.invariant-loop-received
invariant-loop-received g l =
    record {
      input : List ℕ;
      read : HasRead (g.E.PerLine.says l.each) (g.E.PerLine.finds l.each) (g.E.PerLine.text l.each) g.E.PerLine.ends g.S.Source.remaining g.S.LiveSource.reads l.initial.kept (g.W.Sink.contents l.initial.sink) l.initial.source l.source input;
      size : l.received ≡ length input;
      follows : Follows (g.E.PerLine.says l.each) (g.E.PerLine.finds l.each) (g.E.PerLine.text l.each) g.E.PerLine.takes g.E.PerLine.ends g.B.FollowListener.heard g.B.FollowListener.is_ended input l.state.unfinished l.initial.kept l.kept l.state.progress.counts
          l.initial.listener l.listener (g.W.Sink.contents l.initial.sink) (g.W.Sink.contents l.sink);
      going : GoesOn g.E.PerLine.ends g.B.FollowListener.is_ended l.kept l.listener;
      room : length l.buffer ≡ 8192;
      sound : g.S.Source.failure_count l.source ≡ g.S.Source.failure_count l.initial.source;
      written : (g.W.Sink.failure_count l.sink ≡ g.W.Sink.failure_count l.initial.sink) × (g.W.Sink.stall_count l.sink ≡ g.W.Sink.stall_count l.initial.sink);
    }

abbrev pub decreases-loop-received : goal.decreases-loop-received
decreases-loop-received g l = 18446744073709486079 + 1 - l.received
