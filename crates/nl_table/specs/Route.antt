-- Which fields make the key of a route: this project's own choice.
use Rattle.std.specs.Prelude.{List, [], ◌∷◌}
use Rattle.nl_attr.specs.declared.order.Order.{Order}
use Rattle.nl_attr.specs.Tree.{Items}
use Rattle.nl_route.specs.Route.{RTA_DST, RTA_GATEWAY, RTA_OIF, RTA_PRIORITY, RTA_SRC, RTA_TABLE}
use Rattle.nl_route.specs.declared.rtmsg.RouteHead.{RouteHead}
use Rattle.nl_route.specs.Views.{bytes_view}
use Rattle.nl_table.specs.Keys.{KeyField, byte, number, bytes}
use Rattle.nl_table.specs.Attributes.{table_id, number_at}

module _ (o : Order) where
  -- a route: rtm_family, rtm_dst_len, RTA_DST, rtm_src_len, RTA_SRC, rtm_tos, its table, RTA_PRIORITY, rtm_type, RTA_OIF, RTA_GATEWAY
  abbrev pub route_key_fields : RouteHead → Items → List KeyField
  route_key_fields h is =
      byte h.family ∷ byte h.dst_len ∷ bytes (bytes_view RTA_DST is) ∷ byte h.src_len ∷ bytes (bytes_view RTA_SRC is) ∷ byte h.tos
      ∷ number 4 (table_id o RTA_TABLE h.table is) ∷ number 4 (number_at o RTA_PRIORITY is) ∷ byte h.sort
      ∷ number 4 (number_at o RTA_OIF is) ∷ bytes (bytes_view RTA_GATEWAY is) ∷ []
