-- The message of a route's request: rtmsg and attributes of linux/rtnetlink.h.
use Rattle.std.specs.Prelude.{ℕ, List, [], ◌∷◌, map, take, Some, None}
use Rattle.nl_attr.specs.Fixed.{RTA_METRICS, RTA_MULTIPATH}
use Rattle.nl_attr.specs.declared.order.Order.{Order}
use Rattle.nl_attr.specs.Numbers.{num}
use Rattle.nl_attr.specs.Tree.{bytes, list, hops, HopItems, no_hops, hop}
use Rattle.nl_route.specs.declared.family.Family.TheVariants as family
use Rattle.nl_route.specs.declared.rtmsg.RouteHead.{RouteHead}
use Rattle.nl_route.specs.Families.{any}
use Rattle.nl_route.specs.Route.{RTA_DST, RTA_SRC, RTA_OIF, RTA_GATEWAY, RTA_PRIORITY, RTA_PREFSRC, RTA_TABLE}
use Rattle.nl_frame.specs.Message.{MessageVal}
use Rattle.nl_request.specs.declared.operation.Operation.{Operation}
use Rattle.nl_request.specs.declared.route.RouteRequest.{RouteRequest}
use Rattle.nl_request.specs.declared.route.Metric.{Metric}
use Rattle.nl_request.specs.declared.route.NextHop.{NextHop}
use Rattle.nl_request.specs.Parts.{Part, bytes_part, number_part, items_of, request}
use Rattle.nl_request.specs.Gateways.{gateway_bytes, gateway_part}
use Rattle.nl_request.specs.Prefixes.{prefix_part, prefix_length}
use Rattle.nl_request.specs.Tables.{head_table, table_part}

-- its head
abbrev pub route_head : RouteRequest → RouteHead
route_head r = record {
  family = r.family;
  dst_len = prefix_length r.destination;
  src_len = prefix_length r.source;
  tos = r.tos;
  table = head_table r.table;
  protocol = r.protocol;
  scope = r.scope;
  sort = r.sort;
  flags = r.flags;
}

-- a metric, in the list of metrics
abbrev pub metric_part : Order → Metric → Part
metric_part o m = Some (m.number, bytes (num m.value 4 o))

-- the metrics, where there is one
abbrev pub metrics_part : Order → List Metric → Part
metrics_part o [] = None
metrics_part o (m ∷ ms) = Some (RTA_METRICS, list (items_of (map (metric_part o) (m ∷ ms))))

-- next hops, each with its gateway where it has one
abbrev pub hops_of : List NextHop → HopItems
hops_of [] = no_hops
hops_of (h ∷ hs) = hop h.flags h.hops h.index (items_of (gateway_part (gateway_bytes h.gateway) ∷ [])) (hops_of hs)

-- the next hops, where there is one
abbrev pub hops_part : List NextHop → Part
hops_part [] = None
hops_part (h ∷ hs) = Some (RTA_MULTIPATH, hops (hops_of (h ∷ hs)))

-- its attributes
abbrev pub route_parts : RouteRequest → Order → List Part
route_parts r o =
    prefix_part RTA_DST r.destination
    ∷ prefix_part RTA_SRC r.source
    ∷ bytes_part RTA_GATEWAY r.gateway
    ∷ bytes_part RTA_PREFSRC r.preferred_source
    ∷ number_part RTA_PRIORITY 4 o r.priority
    ∷ table_part RTA_TABLE o r.table
    ∷ number_part RTA_OIF 4 o r.oif
    ∷ metrics_part o r.metrics.now
    ∷ hops_part r.hops.now
    ∷ []

-- those before the metrics and the next hops
abbrev pub first_parts : RouteRequest → Order → List Part
first_parts r o = take 7 (route_parts r o)

-- the whole message
abbrev pub route_message : RouteRequest → Operation → ℕ → Order → MessageVal
route_message r op seq o = request op seq (any family.Route (route_head r)) (route_parts r o)
