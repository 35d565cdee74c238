-- The fields of the kernel's structs, in their order and by their names in its headers.
use Rattle.std.specs.Prelude.{ℕ, List, [], ◌∷◌, codes, Option}
use Rattle.std.specs.Borrow.{Bor}
use Rattle.nl_route.specs.declared.family.Family.{Family}
use Rattle.nl_route.specs.declared.family.Family.TheVariants.{Link, Addr, Route, Neigh, Rule}
use Rattle.nl_values.specs.declared.set.Set.{Set}
use Rattle.rtnl.specs.declared.names.flags.Bits.TheVariants as bits
use Rattle.rtnl.specs.declared.names.types.FlagNames.{FlagNames}
use Rattle.rtnl.specs.declared.bytes.notation.Notation.{Notation}
use Rattle.rtnl.specs.declared.bytes.notation.Notation.TheVariants.{Blank, Decimal, Signed, Digits, Flags, MessageType, AttrType}

-- a field: its name, how many bytes it has, and how they are read
abbrev pub Field : Type 0
Field = List ℕ × ℕ × Notation

-- one of the program
abbrev pub field_view : Bor (List ℕ) × ℕ × Notation → Field
field_view f = (f.0.now, f.1, f.2)

-- nlmsghdr of linux/netlink.h, whose flags have these names
unfoldable pub nlmsghdr : FlagNames → List Field
nlmsghdr names =
    (codes "nlmsg_len", 4, Decimal)
    ∷ (codes "nlmsg_type", 2, MessageType)
    ∷ (codes "nlmsg_flags", 2, Flags (bits.Message names))
    ∷ (codes "nlmsg_seq", 4, Decimal)
    ∷ (codes "nlmsg_pid", 4, Decimal) ∷ []

-- rtattr of linux/rtnetlink.h, of an attribute of this set
unfoldable pub rtattr : Option Set → List Field
rtattr set =
    (codes "rta_len", 2, Decimal)
    ∷ (codes "rta_type", 2, AttrType set) ∷ []

-- rtnexthop of linux/rtnetlink.h
unfoldable pub rtnexthop : List Field
rtnexthop =
    (codes "rtnh_len", 2, Decimal)
    ∷ (codes "rtnh_flags", 1, Flags bits.NextHop)
    ∷ (codes "rtnh_hops", 1, Decimal)
    ∷ (codes "rtnh_ifindex", 4, Signed) ∷ []

-- what an nlmsgerr of linux/netlink.h has before the header that it answers
unfoldable pub nlmsgerr : List Field
nlmsgerr = (codes "error", 4, Signed) ∷ []

-- the number at the end of a dump
unfoldable pub status : List Field
status = (codes "status", 4, Signed) ∷ []

-- rtgenmsg of linux/rtnetlink.h
unfoldable pub rtgenmsg : List Field
rtgenmsg = (codes "rtgen_family", 1, Decimal) ∷ []

-- ifinfomsg of linux/rtnetlink.h
unfoldable pub ifinfomsg : List Field
ifinfomsg =
    (codes "ifi_family", 1, Decimal)
    ∷ (codes "__ifi_pad", 1, Blank)
    ∷ (codes "ifi_type", 2, Decimal)
    ∷ (codes "ifi_index", 4, Signed)
    ∷ (codes "ifi_flags", 4, Flags bits.Link)
    ∷ (codes "ifi_change", 4, Digits) ∷ []

-- ifaddrmsg of linux/if_addr.h
unfoldable pub ifaddrmsg : List Field
ifaddrmsg =
    (codes "ifa_family", 1, Decimal)
    ∷ (codes "ifa_prefixlen", 1, Decimal)
    ∷ (codes "ifa_flags", 1, Digits)
    ∷ (codes "ifa_scope", 1, Decimal)
    ∷ (codes "ifa_index", 4, Decimal) ∷ []

-- rtmsg of linux/rtnetlink.h
unfoldable pub rtmsg : List Field
rtmsg =
    (codes "rtm_family", 1, Decimal)
    ∷ (codes "rtm_dst_len", 1, Decimal)
    ∷ (codes "rtm_src_len", 1, Decimal)
    ∷ (codes "rtm_tos", 1, Decimal)
    ∷ (codes "rtm_table", 1, Decimal)
    ∷ (codes "rtm_protocol", 1, Decimal)
    ∷ (codes "rtm_scope", 1, Decimal)
    ∷ (codes "rtm_type", 1, Decimal)
    ∷ (codes "rtm_flags", 4, Digits) ∷ []

-- ndmsg of linux/neighbour.h
unfoldable pub ndmsg : List Field
ndmsg =
    (codes "ndm_family", 1, Decimal)
    ∷ (codes "ndm_pad1", 1, Blank)
    ∷ (codes "ndm_pad2", 2, Blank)
    ∷ (codes "ndm_ifindex", 4, Signed)
    ∷ (codes "ndm_state", 2, Flags bits.NeighState)
    ∷ (codes "ndm_flags", 1, Flags bits.NeighFlags)
    ∷ (codes "ndm_type", 1, Decimal) ∷ []

-- fib_rule_hdr of linux/fib_rules.h
unfoldable pub fib_rule_hdr : List Field
fib_rule_hdr =
    (codes "family", 1, Decimal)
    ∷ (codes "dst_len", 1, Decimal)
    ∷ (codes "src_len", 1, Decimal)
    ∷ (codes "tos", 1, Decimal)
    ∷ (codes "table", 1, Decimal)
    ∷ (codes "res1", 1, Blank)
    ∷ (codes "res2", 1, Blank)
    ∷ (codes "action", 1, Decimal)
    ∷ (codes "flags", 4, Digits) ∷ []

-- the head of a family's body
abbrev pub head_of : Family → List Field
head_of Link = ifinfomsg
head_of Addr = ifaddrmsg
head_of Route = rtmsg
head_of Neigh = ndmsg
head_of Rule = fib_rule_hdr
