use Rattle.rtnl.proofs.Common.{◌≡◌, ◌++◌, drop, attrs_view}
use Rattle.rtnl.specs.Data.{parts_in, payloads}
use Rattle.rtnl.proofs.Payloads.{found}
use Rattle.rtnl.proofs.json_lines.data.kinds.only_in_list.Given as goal

-- the payload that was found, and those that are left, are all payloads
abbrev pub invariant-loop-attr : goal.invariant-loop-attr
invariant-loop-attr l =
    found l.only ++ payloads l.number (parts_in (attrs_view (drop l.attr-index l.attrs))) ≡ payloads l.number (parts_in (attrs_view l.attrs))
