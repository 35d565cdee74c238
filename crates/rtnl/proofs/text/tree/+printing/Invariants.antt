use Rattle.rtnl.proofs.Common.{◌≡◌, ◌++◌, drop, attrs_view, hops_view, indented, items_text, hops_text}
use Rattle.rtnl.proofs.text.tree.+printing.Given as goal

-- what is written and what is left give the whole, and the indentation is as it was
abbrev pub invariant-push_attrs-loop-attr : goal.invariant-push_attrs-loop-attr
invariant-push_attrs-loop-attr l =
    (l.out.items ++ items_text l.order (indented l.initial.indent.items) l.ctx (attrs_view (drop l.attr-index l.attrs))
    ≡ l.initial.out.items ++ items_text l.order (indented l.initial.indent.items) l.ctx (attrs_view l.attrs))
    × (l.indent.items ≡ l.initial.indent.items)

-- the same of next hops
abbrev pub invariant-push_hops-loop-hop : goal.invariant-push_hops-loop-hop
invariant-push_hops-loop-hop l =
    (l.out.items ++ hops_text l.order (indented l.initial.indent.items) (hops_view (drop l.hop-index l.hops))
    ≡ l.initial.out.items ++ hops_text l.order (indented l.initial.indent.items) (hops_view l.hops))
    × (l.indent.items ≡ l.initial.indent.items)
