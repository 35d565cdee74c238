use Rattle.rtnl.proofs.Common.{◌≡◌, length, datagrams, lines_of}
use Rattle.rtnl.proofs.Reading.{AreRead}
use Rattle.rtnl.proofs.recordings.lines.read_datagrams.Given as goal

-- the lines so far are read
abbrev pub invariant-loop-line : goal.invariant-loop-line
invariant-loop-line l =
    record {
      can_next : (goal.iterator-loop-line).can_next l.line-iterator;
      finite : (goal.iterator-loop-line).is_finite l.line-iterator;
      counted : l.number ≡ length l.yielded;
      so_far : AreRead (lines_of l.input) (datagrams l.input) (length l.input) l.number l.bytes.items l.ends.items;
    }
