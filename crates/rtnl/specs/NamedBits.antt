-- The names of the bits of each number that has named bits, lowest bit first.
use Rattle.std.specs.Prelude.{ℕ, List, [], ◌∷◌, ◌++◌, codes}
use Rattle.bitflags.specs.declared.traits.Flag.{Flag}
use Rattle.rtnl.specs.declared.names.flags.Number.{Number}
use Rattle.rtnl.specs.declared.names.flags.Bits.{Bits}
use Rattle.rtnl.specs.declared.names.flags.Bits.TheVariants as bits
use Rattle.rtnl.specs.declared.names.types.FlagNames.{FlagNames}
use Rattle.rtnl.specs.declared.names.types.FlagNames.TheVariants.{Common, Get, New, Error}

-- the name of a bit, and the bit
abbrev pub BitName : Type 0
BitName = List ℕ × ℕ

-- one of the program
abbrev pub bit_view : Flag Number → BitName
bit_view row = (row.name.now, row.value.0)

-- the flags of messages of all types
abbrev pub message_flags : List BitName
message_flags =
    (codes "REQUEST", 0x1)
    ∷ (codes "MULTI", 0x2)
    ∷ (codes "ACK", 0x4)
    ∷ (codes "ECHO", 0x8)
    ∷ (codes "DUMP_INTR", 0x10)
    ∷ (codes "DUMP_FILTERED", 0x20) ∷ []

-- the flags of all types and those of a message that asks
abbrev pub get_flags : List BitName
get_flags =
    message_flags ++ (codes "ROOT", 0x100)
    ∷ (codes "MATCH", 0x200)
    ∷ (codes "ATOMIC", 0x400) ∷ []

-- the flags of all types and those of a message of something new
abbrev pub new_flags : List BitName
new_flags =
    message_flags ++ (codes "REPLACE", 0x100)
    ∷ (codes "EXCL", 0x200)
    ∷ (codes "CREATE", 0x400)
    ∷ (codes "APPEND", 0x800) ∷ []

-- the flags of all types and those of an answer with a code
abbrev pub error_flags : List BitName
error_flags =
    message_flags ++ (codes "CAPPED", 0x100)
    ∷ (codes "ACK_TLVS", 0x200) ∷ []

-- the flags of a link
abbrev pub link_flags : List BitName
link_flags =
    (codes "UP", 0x1)
    ∷ (codes "BROADCAST", 0x2)
    ∷ (codes "DEBUG", 0x4)
    ∷ (codes "LOOPBACK", 0x8)
    ∷ (codes "POINTOPOINT", 0x10)
    ∷ (codes "NOTRAILERS", 0x20)
    ∷ (codes "RUNNING", 0x40)
    ∷ (codes "NOARP", 0x80)
    ∷ (codes "PROMISC", 0x100)
    ∷ (codes "ALLMULTI", 0x200)
    ∷ (codes "MASTER", 0x400)
    ∷ (codes "SLAVE", 0x800)
    ∷ (codes "MULTICAST", 0x1000)
    ∷ (codes "PORTSEL", 0x2000)
    ∷ (codes "AUTOMEDIA", 0x4000)
    ∷ (codes "DYNAMIC", 0x8000)
    ∷ (codes "LOWER_UP", 0x10000)
    ∷ (codes "DORMANT", 0x20000)
    ∷ (codes "ECHO", 0x40000) ∷ []

-- the states of a neighbour
abbrev pub neigh_states : List BitName
neigh_states =
    (codes "INCOMPLETE", 0x1)
    ∷ (codes "REACHABLE", 0x2)
    ∷ (codes "STALE", 0x4)
    ∷ (codes "DELAY", 0x8)
    ∷ (codes "PROBE", 0x10)
    ∷ (codes "FAILED", 0x20)
    ∷ (codes "NOARP", 0x40)
    ∷ (codes "PERMANENT", 0x80) ∷ []

-- the flags of a neighbour
abbrev pub neigh_flags : List BitName
neigh_flags =
    (codes "USE", 0x1)
    ∷ (codes "SELF", 0x2)
    ∷ (codes "MASTER", 0x4)
    ∷ (codes "PROXY", 0x8)
    ∷ (codes "EXT_LEARNED", 0x10)
    ∷ (codes "OFFLOADED", 0x20)
    ∷ (codes "STICKY", 0x40)
    ∷ (codes "ROUTER", 0x80) ∷ []

-- the flags of a next hop
abbrev pub hop_flags : List BitName
hop_flags =
    (codes "DEAD", 0x1)
    ∷ (codes "PERVASIVE", 0x2)
    ∷ (codes "ONLINK", 0x4)
    ∷ (codes "OFFLOAD", 0x8)
    ∷ (codes "LINKDOWN", 0x10)
    ∷ (codes "UNRESOLVED", 0x20) ∷ []

-- those of a message's flags
abbrev pub flag_names : FlagNames → List BitName
flag_names Common = message_flags
flag_names Get = get_flags
flag_names New = new_flags
flag_names Error = error_flags

-- the bits and their names
abbrev pub bit_names : Bits → List BitName
bit_names (bits.Message names) = flag_names names
bit_names bits.Link = link_flags
bit_names bits.NeighState = neigh_states
bit_names bits.NeighFlags = neigh_flags
bit_names bits.NextHop = hop_flags
