use Rattle.rtnl.proofs.Common.{◌≡◌, ◌++◌}
use Rattle.rtnl.specs.Data.{parts_of, payloads}
use Rattle.rtnl.proofs.Payloads.{found}
use Rattle.rtnl.proofs.json_lines.data.kinds.only_in_region.Given as goal

-- the payload that was found, and those that are left, are all payloads
abbrev pub invariant-loop-part : goal.invariant-loop-part
invariant-loop-part l =
    (l.part-iterator.order ≡ l.fn.order)
    × (found l.only ++ payloads l.number (parts_of l.fn.order l.part-iterator.left) ≡ payloads l.number (parts_of l.fn.order l.region))
