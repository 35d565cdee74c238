-- The names of attributes, and the styles in which their payloads are printed.
use Rattle.std.specs.Prelude.{ℕ, List, [], codes, Option, Some, None}
use Rattle.nl_attr.specs.declared.tree.Content.{Content}
use Rattle.nl_attr.specs.declared.tree.Content.TheVariants as content
use Rattle.nl_attr.specs.declared.tree.Ctx.{Ctx}
use Rattle.nl_attr.specs.declared.tree.Ctx.TheVariants.{Link, LinkInfo, Addr, Route, Metrics, Neigh, Rule, Plain}
use Rattle.rtnl.specs.declared.names.attributes.Style.{Style}
use Rattle.rtnl.specs.declared.names.attributes.Style.TheVariants.{Hex}
use Rattle.rtnl.specs.Link.{link_rows, link_info_rows}
use Rattle.rtnl.specs.Addr.{addr_rows}
use Rattle.rtnl.specs.Route.{route_rows, metrics_rows}
use Rattle.rtnl.specs.Neigh.{neigh_rows}
use Rattle.rtnl.specs.Rule.{rule_rows}
use Rattle.rtnl.specs.Named.{Named, find_named, name_in}

-- the attributes of a context
abbrev pub attribute_rows : Ctx → List (Named Style)
attribute_rows Link = link_rows
attribute_rows LinkInfo = link_info_rows
attribute_rows Addr = addr_rows
attribute_rows Route = route_rows
attribute_rows Metrics = metrics_rows
attribute_rows Neigh = neigh_rows
attribute_rows Rule = rule_rows
attribute_rows Plain = []

-- the row of an attribute, if it has one
unfoldable pub row_of : Ctx → ℕ → Option (List ℕ × Style)
row_of ctx number = find_named number (attribute_rows ctx)

-- the name of an attribute, or a dash
abbrev pub attribute_name : Ctx → ℕ → List ℕ
attribute_name ctx number = name_in (codes "-") (row_of ctx number)

-- the style of a row, and that of bytes where there is none
abbrev pub style_in : Option (List ℕ × Style) → Style
style_in None = Hex
style_in (Some row) = row.1

-- how the payload of an attribute is printed
abbrev pub attribute_style : Ctx → ℕ → Style
attribute_style ctx number = style_in (row_of ctx number)

-- the context of the attributes that an attribute holds
abbrev pub inner_context : Content → Ctx
inner_context content.Bytes = Plain
inner_context (content.List ctx) = ctx
inner_context content.Hops = Plain
