use Rattle.rtnl.proofs.Common.{◌≡◌, ◌++◌, drop}
use Rattle.rtnl.specs.ByteParts.{attrs_in}
use Rattle.rtnl.specs.Data.{payloads}
use Rattle.rtnl.proofs.Payloads.{found}
use Rattle.rtnl.proofs.bytes.lists.only_in_events.Given as goal

-- the payload that was found, and those that are left, are all payloads
abbrev pub invariant-loop-event : goal.invariant-loop-event
invariant-loop-event l =
    found l.only ++ payloads l.number (attrs_in l.bytes l.level (drop l.event-index l.events)) ≡ payloads l.number (attrs_in l.bytes l.level l.events)
