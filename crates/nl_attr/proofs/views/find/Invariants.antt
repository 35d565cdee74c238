use Rattle.nl_attr.proofs.Common.{◌≡◌, drop, attrs_view}
use Rattle.nl_attr.specs.Views.{first_of}
use Rattle.nl_attr.proofs.views.find.Given as goal

abbrev pub invariant-loop-attr : goal.invariant-loop-attr
invariant-loop-attr l = first_of (attrs_view (drop l.attr-index l.attrs)) l.number ≡ first_of (attrs_view l.fn.attrs) l.number
