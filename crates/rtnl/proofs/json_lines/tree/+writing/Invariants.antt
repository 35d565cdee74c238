use Rattle.rtnl.proofs.Common.{◌≡◌, drop, attrs_view, hops_view, attrs_json, hops_json}
use Rattle.rtnl.specs.Data.{parts_in}
use Rattle.rtnl.specs.Json.{◌⊕◌, values_tokens}
use Rattle.rtnl.specs.MessagesJson.{list_json}
use Rattle.rtnl.proofs.json_lines.tree.+writing.Given as goal

-- what is written and what is left give the whole
abbrev pub invariant-push_each_attr-loop-attr : goal.invariant-push_each_attr-loop-attr
invariant-push_each_attr-loop-attr l =
    l.line ⊕ values_tokens (attrs_json l.scope.order l.scope.family.now l.set l.left (parts_in (attrs_view l.attrs)) l.ctx (attrs_view (drop l.attr-index l.attrs)))
    ≡ l.initial.line ⊕ values_tokens (list_json l.scope.order l.scope.family.now l.set l.ctx (attrs_view l.attrs))

-- the same of next hops
abbrev pub invariant-push_each_hop-loop-hop : goal.invariant-push_each_hop-loop-hop
invariant-push_each_hop-loop-hop l =
    l.line ⊕ values_tokens (hops_json l.scope.order l.scope.family.now l.set (hops_view (drop l.hop-index l.hops)))
    ≡ l.initial.line ⊕ values_tokens (hops_json l.scope.order l.scope.family.now l.set (hops_view l.hops))
