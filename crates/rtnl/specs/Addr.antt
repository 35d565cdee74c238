-- The text and the fields of an address: its attributes, and the line of its head.
use Rattle.std.specs.Prelude.{ℕ, List, [], ◌∷◌, codes}
use Rattle.std.specs.Fmt.{decimal}
use Rattle.nl_route.specs.Addr.{IFA_ADDRESS, IFA_LOCAL, IFA_LABEL, IFA_BROADCAST, IFA_FLAGS}
use Rattle.nl_route.specs.declared.ifaddrmsg.AddrHead.{AddrHead}
use Rattle.rtnl.specs.Json.{Field, number}
use Rattle.rtnl.specs.Named.{Named}
use Rattle.rtnl.specs.Text.{◌⨟◌, padded_hex}
use Rattle.rtnl.specs.declared.names.attributes.Style.{Style}
use Rattle.rtnl.specs.declared.names.attributes.Style.TheVariants.{U32, Text, Address, Hex}

-- IFA, of an address
abbrev pub addr_rows : List (Named Style)
addr_rows =
    (IFA_ADDRESS, codes "ADDRESS", Address)
    ∷ (IFA_LOCAL, codes "LOCAL", Address)
    ∷ (IFA_LABEL, codes "LABEL", Text)
    ∷ (IFA_BROADCAST, codes "BROADCAST", Address)
    ∷ (5, codes "ANYCAST", Address)
    ∷ (6, codes "CACHEINFO", Hex)
    ∷ (7, codes "MULTICAST", Address)
    ∷ (IFA_FLAGS, codes "FLAGS", U32)
    ∷ (9, codes "RT_PRIORITY", U32) ∷ []

-- the line of an address's head
unfoldable pub addr_line : AddrHead → List ℕ
addr_line h =
    codes "  addr family " ⨟ decimal h.family ⨟ codes " prefix " ⨟ decimal h.prefixlen ⨟ codes " flags 0x" ⨟ padded_hex 2 h.flags
    ⨟ codes " scope " ⨟ decimal h.scope ⨟ codes " index " ⨟ decimal h.index ⨟ codes "\n"

-- the fields of an address's head
unfoldable pub addr_head_fields : AddrHead → List Field
addr_head_fields h =
    (codes "family", number h.family)
    ∷ (codes "prefix", number h.prefixlen)
    ∷ (codes "flags", number h.flags)
    ∷ (codes "scope", number h.scope)
    ∷ (codes "index", number h.index) ∷ []
