-- The text and the fields of a route: its attributes, and the line of its head.
use Rattle.std.specs.Prelude.{ℕ, List, [], ◌∷◌, codes}
use Rattle.std.specs.Fmt.{decimal}
use Rattle.nl_attr.specs.Fixed.{RTA_METRICS, RTA_MULTIPATH}
use Rattle.nl_route.specs.Route.{RTA_DST, RTA_SRC, RTA_IIF, RTA_OIF, RTA_GATEWAY, RTA_PRIORITY, RTA_PREFSRC, RTA_TABLE}
use Rattle.nl_route.specs.declared.rtmsg.RouteHead.{RouteHead}
use Rattle.rtnl.specs.Json.{Field, number}
use Rattle.rtnl.specs.Named.{Named}
use Rattle.rtnl.specs.Text.{◌⨟◌, padded_hex}
use Rattle.rtnl.specs.declared.names.attributes.Style.{Style}
use Rattle.rtnl.specs.declared.names.attributes.Style.TheVariants.{U8, U16, U32, Text, Address, Hex}

-- RTA, of a route
abbrev pub route_rows : List (Named Style)
route_rows =
    (RTA_DST, codes "DST", Address)
    ∷ (RTA_SRC, codes "SRC", Address)
    ∷ (RTA_IIF, codes "IIF", U32)
    ∷ (RTA_OIF, codes "OIF", U32)
    ∷ (RTA_GATEWAY, codes "GATEWAY", Address)
    ∷ (RTA_PRIORITY, codes "PRIORITY", U32)
    ∷ (RTA_PREFSRC, codes "PREFSRC", Address)
    ∷ (RTA_METRICS, codes "METRICS", Hex)
    ∷ (RTA_MULTIPATH, codes "MULTIPATH", Hex)
    ∷ (11, codes "FLOW", U32)
    ∷ (12, codes "CACHEINFO", Hex)
    ∷ (RTA_TABLE, codes "TABLE", U32)
    ∷ (16, codes "MARK", U32)
    ∷ (18, codes "VIA", Hex)
    ∷ (19, codes "NEWDST", Hex)
    ∷ (20, codes "PREF", U8)
    ∷ (21, codes "ENCAP_TYPE", U16)
    ∷ (22, codes "ENCAP", Hex)
    ∷ (23, codes "EXPIRES", U32)
    ∷ (25, codes "UID", U32)
    ∷ (30, codes "NH_ID", U32) ∷ []

-- RTAX, inside a route's METRICS
abbrev pub metrics_rows : List (Named Style)
metrics_rows =
    (1, codes "LOCK", U32)
    ∷ (2, codes "MTU", U32)
    ∷ (3, codes "WINDOW", U32)
    ∷ (4, codes "RTT", U32)
    ∷ (5, codes "RTTVAR", U32)
    ∷ (6, codes "SSTHRESH", U32)
    ∷ (7, codes "CWND", U32)
    ∷ (8, codes "ADVMSS", U32)
    ∷ (9, codes "REORDERING", U32)
    ∷ (10, codes "HOPLIMIT", U32)
    ∷ (11, codes "INITCWND", U32)
    ∷ (12, codes "FEATURES", U32)
    ∷ (13, codes "RTO_MIN", U32)
    ∷ (14, codes "INITRWND", U32)
    ∷ (15, codes "QUICKACK", U32)
    ∷ (16, codes "CC_ALGO", Text) ∷ []

-- the line of a route's head
unfoldable pub route_line : RouteHead → List ℕ
route_line h =
    codes "  route family " ⨟ decimal h.family ⨟ codes " dst_len " ⨟ decimal h.dst_len ⨟ codes " src_len " ⨟ decimal h.src_len
    ⨟ codes " tos " ⨟ decimal h.tos ⨟ codes " table " ⨟ decimal h.table ⨟ codes " protocol " ⨟ decimal h.protocol
    ⨟ codes " scope " ⨟ decimal h.scope ⨟ codes " type " ⨟ decimal h.sort ⨟ codes " flags 0x" ⨟ padded_hex 8 h.flags ⨟ codes "\n"

-- the fields of a route's head
unfoldable pub route_head_fields : RouteHead → List Field
route_head_fields h =
    (codes "family", number h.family)
    ∷ (codes "dst_len", number h.dst_len)
    ∷ (codes "src_len", number h.src_len)
    ∷ (codes "tos", number h.tos)
    ∷ (codes "table", number h.table)
    ∷ (codes "protocol", number h.protocol)
    ∷ (codes "scope", number h.scope)
    ∷ (codes "type", number h.sort)
    ∷ (codes "flags", number h.flags) ∷ []
