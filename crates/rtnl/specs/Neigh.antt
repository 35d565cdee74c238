-- The text and the fields of a neighbour: its attributes, and the line of its head.
use Rattle.std.specs.Prelude.{ℕ, List, [], ◌∷◌, codes}
use Rattle.std.specs.Fmt.{decimal, signed_decimal}
use Rattle.nl_route.specs.Neigh.{NDA_DST, NDA_LLADDR, NDA_VLAN, NDA_PORT, NDA_VNI}
use Rattle.nl_route.specs.declared.ndmsg.NeighHead.{NeighHead}
use Rattle.rtnl.specs.Json.{Field, number, signed}
use Rattle.rtnl.specs.NamedBits.{neigh_flags, neigh_states}
use Rattle.rtnl.specs.Names.{names_json, names_text}
use Rattle.rtnl.specs.Named.{Named}
use Rattle.rtnl.specs.Text.{◌⨟◌, padded_hex}
use Rattle.rtnl.specs.declared.names.attributes.Style.{Style}
use Rattle.rtnl.specs.declared.names.attributes.Style.TheVariants.{U16, U32, NetworkU16, Address, Hex}

-- NDA, of a neighbour
abbrev pub neigh_rows : List (Named Style)
neigh_rows =
    (NDA_DST, codes "DST", Address)
    ∷ (NDA_LLADDR, codes "LLADDR", Hex)
    ∷ (3, codes "CACHEINFO", Hex)
    ∷ (4, codes "PROBES", U32)
    ∷ (NDA_VLAN, codes "VLAN", U16)
    ∷ (NDA_PORT, codes "PORT", NetworkU16)
    ∷ (NDA_VNI, codes "VNI", U32)
    ∷ (8, codes "IFINDEX", U32)
    ∷ (9, codes "MASTER", U32) ∷ []

-- the line of a neighbour's head
unfoldable pub neigh_line : NeighHead → List ℕ
neigh_line h =
    codes "  neigh family " ⨟ decimal h.family ⨟ codes " index " ⨟ signed_decimal h.ifindex
    ⨟ codes " state 0x" ⨟ padded_hex 4 h.state ⨟ codes " " ⨟ names_text neigh_states h.state
    ⨟ codes " flags 0x" ⨟ padded_hex 2 h.flags ⨟ codes " " ⨟ names_text neigh_flags h.flags
    ⨟ codes " type " ⨟ decimal h.sort ⨟ codes "\n"

-- the fields of a neighbour's head
unfoldable pub neigh_head_fields : NeighHead → List Field
neigh_head_fields h =
    (codes "family", number h.family)
    ∷ (codes "index", signed h.ifindex)
    ∷ (codes "state", number h.state)
    ∷ (codes "state_names", names_json neigh_states h.state)
    ∷ (codes "flags", number h.flags)
    ∷ (codes "flag_names", names_json neigh_flags h.flags)
    ∷ (codes "type", number h.sort) ∷ []
