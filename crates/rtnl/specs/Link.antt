-- The text and the fields of a link: its attributes, and the line of its head.
use Rattle.std.specs.Prelude.{ℕ, List, [], ◌∷◌, codes}
use Rattle.std.specs.Fmt.{decimal, signed_decimal}
use Rattle.nl_attr.specs.Fixed.{IFLA_LINKINFO}
use Rattle.nl_route.specs.Link.{IFLA_IFNAME, IFLA_MTU, IFLA_MASTER, IFLA_OPERSTATE, IFLA_INFO_KIND}
use Rattle.nl_route.specs.declared.ifinfomsg.LinkHead.{LinkHead}
use Rattle.rtnl.specs.Json.{Field, number, signed}
use Rattle.rtnl.specs.NamedBits.{link_flags}
use Rattle.rtnl.specs.Names.{names_json, names_text}
use Rattle.rtnl.specs.Named.{Named}
use Rattle.rtnl.specs.Text.{◌⨟◌, padded_hex}
use Rattle.rtnl.specs.declared.names.attributes.Style.{Style}
use Rattle.rtnl.specs.declared.names.attributes.Style.TheVariants.{U8, U32, Text, Hex}

-- IFLA, of a link
abbrev pub link_rows : List (Named Style)
link_rows =
    (1, codes "ADDRESS", Hex)
    ∷ (2, codes "BROADCAST", Hex)
    ∷ (IFLA_IFNAME, codes "IFNAME", Text)
    ∷ (IFLA_MTU, codes "MTU", U32)
    ∷ (5, codes "LINK", U32)
    ∷ (6, codes "QDISC", Text)
    ∷ (IFLA_MASTER, codes "MASTER", U32)
    ∷ (13, codes "TXQLEN", U32)
    ∷ (IFLA_OPERSTATE, codes "OPERSTATE", U8)
    ∷ (17, codes "LINKMODE", U8)
    ∷ (IFLA_LINKINFO, codes "LINKINFO", Hex)
    ∷ (20, codes "IFALIAS", Text)
    ∷ (27, codes "GROUP", U32)
    ∷ (29, codes "EXT_MASK", U32)
    ∷ (30, codes "PROMISCUITY", U32)
    ∷ (31, codes "NUM_TX_QUEUES", U32)
    ∷ (32, codes "NUM_RX_QUEUES", U32)
    ∷ (33, codes "CARRIER", U8)
    ∷ (35, codes "CARRIER_CHANGES", U32) ∷ []

-- IFLA_INFO, inside a link's LINKINFO
abbrev pub link_info_rows : List (Named Style)
link_info_rows =
    (IFLA_INFO_KIND, codes "KIND", Text)
    ∷ (2, codes "DATA", Hex)
    ∷ (3, codes "XSTATS", Hex)
    ∷ (4, codes "SLAVE_KIND", Text)
    ∷ (5, codes "SLAVE_DATA", Hex) ∷ []

-- the line of a link's head
unfoldable pub link_line : LinkHead → List ℕ
link_line h =
    codes "  link family " ⨟ decimal h.family ⨟ codes " type " ⨟ decimal h.hardware ⨟ codes " index " ⨟ signed_decimal h.index
    ⨟ codes " flags 0x" ⨟ padded_hex 8 h.flags ⨟ codes " " ⨟ names_text link_flags h.flags
    ⨟ codes " change 0x" ⨟ padded_hex 8 h.change ⨟ codes "\n"

-- the fields of a link's head
unfoldable pub link_head_fields : LinkHead → List Field
link_head_fields h =
    (codes "family", number h.family)
    ∷ (codes "type", number h.hardware)
    ∷ (codes "index", signed h.index)
    ∷ (codes "flags", number h.flags)
    ∷ (codes "flag_names", names_json link_flags h.flags)
    ∷ (codes "change", number h.change) ∷ []
