use Rattle.rtnl.proofs.Common.{◌≡◌, ◌≤◌, ◌+◌, ◌++◌, ℕ, List, length, SaysInput}
use Rattle.rtnl.proofs.runs.output.Output.say_piece.Given as goal

-- the front of the piece that is gone is said, and the lines in what is left can be counted
abbrev pub invariant-loop-end : goal.invariant-loop-end
invariant-loop-end g l =
    record {
      front : (done : List ℕ) × (done ++ l.left ≡ l.piece) × ((input : List ℕ)
          → SaysInput (g.E.PerDatagram.finds l.each) (g.E.PerDatagram.text l.each) g.E.PerDatagram.takes input l.initial.self
          → SaysInput (g.E.PerDatagram.finds l.each) (g.E.PerDatagram.text l.each) g.E.PerDatagram.takes (input ++ done) l.self);
      counted : l.self.lines + length l.left ≤ l.initial.self.lines + length l.piece;
    }

abbrev pub decreases-loop-end : goal.decreases-loop-end
decreases-loop-end g l = length l.left
