use Rattle.rtnl.proofs.Common.{◌≡◌, ◌-◌, ◌++◌, marks_in}
use Rattle.rtnl.specs.Inside.{series_marks}
use Rattle.rtnl.specs.Kernel.{kernel_name}
use Rattle.rtnl.proofs.bytes.inside.push_series.Given as goal

-- what was seen and the numbers that are left are all numbers
abbrev pub invariant-loop-index : goal.invariant-loop-index
invariant-loop-index l =
    marks_in l.pieces.items ++ series_marks l.depth (kernel_name l.name) l.number (l.count - l._index)
    ≡ marks_in l.initial.pieces.items ++ series_marks l.depth (kernel_name l.name) l.number l.count
