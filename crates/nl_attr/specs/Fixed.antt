-- The numbers that the standard and this project fix, each once. Definitions and clauses cite these and no constant of the code, so that a constant that differs is refused.
use Rattle.std.specs.Prelude.{ℕ}

-- ---- attributes, of linux/netlink.h, linux/if_link.h and linux/rtnetlink.h

-- how many numbers an attribute's type has room for beside its two flag bits: NLA_TYPE_MASK of linux/netlink.h and one
abbrev pub NUMBERS : ℕ
NUMBERS = 0x4000

-- the flag bit of an attribute that holds attributes
abbrev pub NLA_F_NESTED : ℕ
NLA_F_NESTED = 0x8000

-- the flag bit of an attribute whose payload is in network order. It is kept and changes nothing that is read
abbrev pub NLA_F_NET_BYTEORDER : ℕ
NLA_F_NET_BYTEORDER = 0x4000

-- the attribute of a link that holds IFLA_INFO_*, of linux/if_link.h
abbrev pub IFLA_LINKINFO : ℕ
IFLA_LINKINFO = 18

-- the attribute of a route that holds RTAX_*, of linux/rtnetlink.h
abbrev pub RTA_METRICS : ℕ
RTA_METRICS = 8

-- the attribute of a route that holds next hops
abbrev pub RTA_MULTIPATH : ℕ
RTA_MULTIPATH = 9

-- ---- this project's own limits

-- the most bytes of a region, and of a datagram
abbrev pub LONGEST_REGION : ℕ
LONGEST_REGION = 1_048_576

-- the most bytes of an attribute or a next hop: its length field has 16 bits
abbrev pub LONGEST_ITEM : ℕ
LONGEST_ITEM = 65_535

-- the most bytes of an attribute that holds attributes or next hops: a length field of 16 bits that is a multiple of 4 (RTA_ALIGN)
abbrev pub LONGEST_CONTAINER : ℕ
LONGEST_CONTAINER = 65_532

-- the farthest place at which a region ends: two of the longest datagrams behind the first byte
abbrev pub FARTHEST_END : ℕ
FARTHEST_END = 2_097_152

-- the most levels that a depth limit allows
abbrev pub MOST_LEVELS : ℕ
MOST_LEVELS = 32

-- the levels that a depth limit allows where nothing else is said
abbrev pub STANDARD_LEVELS : ℕ
STANDARD_LEVELS = 8

-- the most bytes that reading a region visits: the longest region once for each level below the greatest depth, and once more
abbrev pub MOST_VISITS : ℕ
MOST_VISITS = 34_603_008

-- ---- the sorts of events, this project's own

-- the sort of a message
abbrev pub SORT_MESSAGE : ℕ
SORT_MESSAGE = 0

-- the sort of an attribute that holds bytes
abbrev pub SORT_BYTES : ℕ
SORT_BYTES = 1

-- the sort of an attribute that holds attributes
abbrev pub SORT_LIST : ℕ
SORT_LIST = 2

-- the sort of an attribute that holds next hops, RTA_MULTIPATH
abbrev pub SORT_HOPS : ℕ
SORT_HOPS = 3

-- the sort of a next hop
abbrev pub SORT_NEXT_HOP : ℕ
SORT_NEXT_HOP = 4
