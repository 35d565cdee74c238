use Rattle.rtnl.proofs.Common.{◌≡◌, ◌-◌, ◌++◌, marks_in}
use Rattle.rtnl.specs.Inside.{counter_marks}
use Rattle.rtnl.specs.Kernel.{kernel_name}
use Rattle.rtnl.proofs.bytes.inside.push_counters.Given as goal

-- what was seen and the numbers that are left are all numbers
abbrev pub invariant-loop-place : goal.invariant-loop-place
invariant-loop-place l =
    marks_in l.pieces.items ++ counter_marks l.depth (kernel_name l.name) l.number l.names l.place (l.count - l.place)
    ≡ marks_in l.initial.pieces.items ++ counter_marks l.depth (kernel_name l.name) l.number l.names 0 l.count
