-- Which fields make the key of a routing rule: this project's own choice.
use Rattle.std.specs.Prelude.{List, [], ◌∷◌}
use Rattle.nl_attr.specs.declared.order.Order.{Order}
use Rattle.nl_attr.specs.Tree.{Items}
use Rattle.nl_route.specs.Rule.{FRA_DST, FRA_SRC, FRA_IIFNAME, FRA_OIFNAME}
use Rattle.nl_route.specs.Rule.{FRA_TABLE, FRA_PRIORITY, FRA_GOTO, FRA_FWMARK, FRA_FWMASK}
use Rattle.nl_route.specs.declared.fib_rule_hdr.RuleHead.{RuleHead}
use Rattle.nl_route.specs.Views.{bytes_view}
use Rattle.nl_table.specs.Keys.{KeyField, byte, number, bytes}
use Rattle.nl_table.specs.Attributes.{table_id, number_at}

module _ (o : Order) where
  -- a rule: family, dst_len, FRA_DST, src_len, FRA_SRC, tos, its table, FRA_PRIORITY, action, FRA_GOTO, FRA_FWMARK, FRA_FWMASK,
  -- FRA_IIFNAME, FRA_OIFNAME
  abbrev pub rule_key_fields : RuleHead → Items → List KeyField
  rule_key_fields h is =
      byte h.family ∷ byte h.dst_len ∷ bytes (bytes_view FRA_DST is) ∷ byte h.src_len ∷ bytes (bytes_view FRA_SRC is) ∷ byte h.tos
      ∷ number 4 (table_id o FRA_TABLE h.table is) ∷ number 4 (number_at o FRA_PRIORITY is) ∷ byte h.action ∷ number 4 (number_at o FRA_GOTO is)
      ∷ number 4 (number_at o FRA_FWMARK is) ∷ number 4 (number_at o FRA_FWMASK is)
      ∷ bytes (bytes_view FRA_IIFNAME is) ∷ bytes (bytes_view FRA_OIFNAME is) ∷ []
