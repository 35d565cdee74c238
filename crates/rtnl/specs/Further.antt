-- The names of the kernel's headers for attributes that lines of text print without a name.
use Rattle.std.specs.Prelude.{List, [], ◌∷◌, codes}
use Rattle.nl_attr.specs.declared.tree.Ctx.{Ctx}
use Rattle.nl_attr.specs.declared.tree.Ctx.TheVariants.{Link, LinkInfo, Addr, Route, Metrics, Neigh, Rule, Plain}
use Rattle.rtnl.specs.Named.{Named}

-- of a link, IFLA
unfoldable pub further_link : List (Named (Unit {0}))
further_link =
    (7, codes "STATS", tt)
    ∷ (8, codes "COST", tt)
    ∷ (9, codes "PRIORITY", tt)
    ∷ (11, codes "WIRELESS", tt)
    ∷ (12, codes "PROTINFO", tt)
    ∷ (14, codes "MAP", tt)
    ∷ (15, codes "WEIGHT", tt)
    ∷ (19, codes "NET_NS_PID", tt)
    ∷ (21, codes "NUM_VF", tt)
    ∷ (22, codes "VFINFO_LIST", tt)
    ∷ (23, codes "STATS64", tt)
    ∷ (24, codes "VF_PORTS", tt)
    ∷ (25, codes "PORT_SELF", tt)
    ∷ (26, codes "AF_SPEC", tt)
    ∷ (28, codes "NET_NS_FD", tt)
    ∷ (34, codes "PHYS_PORT_ID", tt)
    ∷ (36, codes "PHYS_SWITCH_ID", tt)
    ∷ (37, codes "LINK_NETNSID", tt)
    ∷ (38, codes "PHYS_PORT_NAME", tt)
    ∷ (39, codes "PROTO_DOWN", tt)
    ∷ (40, codes "GSO_MAX_SEGS", tt)
    ∷ (41, codes "GSO_MAX_SIZE", tt)
    ∷ (42, codes "PAD", tt)
    ∷ (43, codes "XDP", tt)
    ∷ (44, codes "EVENT", tt)
    ∷ (45, codes "NEW_NETNSID", tt)
    ∷ (46, codes "TARGET_NETNSID", tt)
    ∷ (47, codes "CARRIER_UP_COUNT", tt)
    ∷ (48, codes "CARRIER_DOWN_COUNT", tt)
    ∷ (49, codes "NEW_IFINDEX", tt)
    ∷ (50, codes "MIN_MTU", tt)
    ∷ (51, codes "MAX_MTU", tt)
    ∷ (52, codes "PROP_LIST", tt)
    ∷ (53, codes "ALT_IFNAME", tt)
    ∷ (54, codes "PERM_ADDRESS", tt)
    ∷ (55, codes "PROTO_DOWN_REASON", tt)
    ∷ (56, codes "PARENT_DEV_NAME", tt)
    ∷ (57, codes "PARENT_DEV_BUS_NAME", tt)
    ∷ (58, codes "GRO_MAX_SIZE", tt)
    ∷ (59, codes "TSO_MAX_SIZE", tt)
    ∷ (60, codes "TSO_MAX_SEGS", tt)
    ∷ (61, codes "ALLMULTI", tt)
    ∷ (62, codes "DEVLINK_PORT", tt)
    ∷ (63, codes "GSO_IPV4_MAX_SIZE", tt)
    ∷ (64, codes "GRO_IPV4_MAX_SIZE", tt)
    ∷ (65, codes "DPLL_PIN", tt)
    ∷ (66, codes "MAX_PACING_OFFLOAD_HORIZON", tt)
    ∷ (67, codes "NETNS_IMMUTABLE", tt)
    ∷ (68, codes "HEADROOM", tt)
    ∷ (69, codes "TAILROOM", tt) ∷ []

-- of an address, IFA
unfoldable pub further_addr : List (Named (Unit {0}))
further_addr =
    (10, codes "TARGET_NETNSID", tt)
    ∷ (11, codes "PROTO", tt) ∷ []

-- of a route, RTA
unfoldable pub further_route : List (Named (Unit {0}))
further_route =
    (10, codes "PROTOINFO", tt)
    ∷ (13, codes "SESSION", tt)
    ∷ (14, codes "MP_ALGO", tt)
    ∷ (17, codes "MFC_STATS", tt)
    ∷ (24, codes "PAD", tt)
    ∷ (26, codes "TTL_PROPAGATE", tt)
    ∷ (27, codes "IP_PROTO", tt)
    ∷ (28, codes "SPORT", tt)
    ∷ (29, codes "DPORT", tt) ∷ []

-- of a route's METRICS, RTAX
unfoldable pub further_metrics : List (Named (Unit {0}))
further_metrics =
    (17, codes "FASTOPEN_NO_COOKIE", tt) ∷ []

-- of a neighbour, NDA
unfoldable pub further_neigh : List (Named (Unit {0}))
further_neigh =
    (10, codes "LINK_NETNSID", tt)
    ∷ (11, codes "SRC_VNI", tt)
    ∷ (12, codes "PROTOCOL", tt)
    ∷ (13, codes "NH_ID", tt)
    ∷ (14, codes "FDB_EXT_ATTRS", tt)
    ∷ (15, codes "FLAGS_EXT", tt)
    ∷ (16, codes "NDM_STATE_MASK", tt)
    ∷ (17, codes "NDM_FLAGS_MASK", tt) ∷ []

-- of a routing rule, FRA
unfoldable pub further_rule : List (Named (Unit {0}))
further_rule =
    (11, codes "FLOW", tt)
    ∷ (12, codes "TUN_ID", tt)
    ∷ (13, codes "SUPPRESS_IFGROUP", tt)
    ∷ (14, codes "SUPPRESS_PREFIXLEN", tt)
    ∷ (18, codes "PAD", tt)
    ∷ (19, codes "L3MDEV", tt)
    ∷ (20, codes "UID_RANGE", tt)
    ∷ (21, codes "PROTOCOL", tt)
    ∷ (22, codes "IP_PROTO", tt)
    ∷ (23, codes "SPORT_RANGE", tt)
    ∷ (24, codes "DPORT_RANGE", tt) ∷ []

-- of a context
abbrev pub further_rows : Ctx → List (Named (Unit {0}))
further_rows Link = further_link
further_rows LinkInfo = []
further_rows Addr = further_addr
further_rows Route = further_route
further_rows Metrics = further_metrics
further_rows Neigh = further_neigh
further_rows Rule = further_rule
further_rows Plain = []
