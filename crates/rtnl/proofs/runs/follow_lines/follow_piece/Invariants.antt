use Rattle.rtnl.proofs.Common.{◌≡◌, ◌≤◌, ◌++◌, ℕ, List, Option, length, Follows, GoesOn, IsCounted}
use Rattle.rtnl.proofs.runs.follow_lines.follow_piece.Given as goal

-- the front of the piece that is gone is followed, and nothing ended it; and the lines in what is left can be counted
abbrev pub invariant-loop-end : goal.invariant-loop-end
invariant-loop-end g l =
    record {
      front : (done : List ℕ) × (done ++ l.left ≡ l.piece) × ((before : List ℕ) (first : _) (unheard : _) (old : Option (List ℕ))
          → Follows (g.E.PerLine.says l.each) (g.E.PerLine.finds l.each) (g.E.PerLine.text l.each) g.E.PerLine.takes g.E.PerLine.ends g.B.FollowListener.heard g.B.FollowListener.is_ended
          before l.initial.state.unfinished first l.initial.kept l.initial.state.progress.counts unheard l.initial.listener old (g.W.Sink.contents l.initial.sink)
          → Follows (g.E.PerLine.says l.each) (g.E.PerLine.finds l.each) (g.E.PerLine.text l.each) g.E.PerLine.takes g.E.PerLine.ends g.B.FollowListener.heard g.B.FollowListener.is_ended
          (before ++ done) l.state.unfinished first l.kept l.state.progress.counts unheard l.listener old (g.W.Sink.contents l.sink));
      going : GoesOn g.E.PerLine.ends g.B.FollowListener.is_ended l.kept l.listener;
      counted : IsCounted (length l.left) l.state.progress.counts;
      short : length l.left ≤ length l.piece;
      sound : (g.W.Sink.failure_count l.sink ≡ g.W.Sink.failure_count l.initial.sink) × (g.W.Sink.stall_count l.sink ≡ g.W.Sink.stall_count l.initial.sink);
    }

abbrev pub decreases-loop-end : goal.decreases-loop-end
decreases-loop-end g l = length l.left
