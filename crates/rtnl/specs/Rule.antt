-- The text and the fields of a routing rule: its attributes, and the line of its head.
use Rattle.std.specs.Prelude.{ℕ, List, [], ◌∷◌, codes}
use Rattle.std.specs.Fmt.{decimal}
use Rattle.nl_route.specs.Rule.{FRA_DST, FRA_SRC, FRA_IIFNAME, FRA_GOTO, FRA_PRIORITY, FRA_FWMARK, FRA_TABLE, FRA_FWMASK, FRA_OIFNAME}
use Rattle.nl_route.specs.declared.fib_rule_hdr.RuleHead.{RuleHead}
use Rattle.rtnl.specs.Json.{Field, number}
use Rattle.rtnl.specs.Named.{Named}
use Rattle.rtnl.specs.Text.{◌⨟◌, padded_hex}
use Rattle.rtnl.specs.declared.names.attributes.Style.{Style}
use Rattle.rtnl.specs.declared.names.attributes.Style.TheVariants.{U32, Text, Address}

-- FRA, of a routing rule
abbrev pub rule_rows : List (Named Style)
rule_rows =
    (FRA_DST, codes "DST", Address)
    ∷ (FRA_SRC, codes "SRC", Address)
    ∷ (FRA_IIFNAME, codes "IIFNAME", Text)
    ∷ (FRA_GOTO, codes "GOTO", U32)
    ∷ (FRA_PRIORITY, codes "PRIORITY", U32)
    ∷ (FRA_FWMARK, codes "FWMARK", U32)
    ∷ (FRA_TABLE, codes "TABLE", U32)
    ∷ (FRA_FWMASK, codes "FWMASK", U32)
    ∷ (FRA_OIFNAME, codes "OIFNAME", Text) ∷ []

-- the line of a rule's head
unfoldable pub rule_line : RuleHead → List ℕ
rule_line h =
    codes "  rule family " ⨟ decimal h.family ⨟ codes " dst_len " ⨟ decimal h.dst_len ⨟ codes " src_len " ⨟ decimal h.src_len
    ⨟ codes " tos " ⨟ decimal h.tos ⨟ codes " table " ⨟ decimal h.table ⨟ codes " action " ⨟ decimal h.action
    ⨟ codes " flags 0x" ⨟ padded_hex 8 h.flags ⨟ codes "\n"

-- the fields of a rule's head
unfoldable pub rule_head_fields : RuleHead → List Field
rule_head_fields h =
    (codes "family", number h.family)
    ∷ (codes "dst_len", number h.dst_len)
    ∷ (codes "src_len", number h.src_len)
    ∷ (codes "tos", number h.tos)
    ∷ (codes "table", number h.table)
    ∷ (codes "action", number h.action)
    ∷ (codes "flags", number h.flags) ∷ []
