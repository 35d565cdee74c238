-- A routing rule: its head, fib_rule_hdr of linux/fib_rules.h, and the numbers of its attributes.
use Rattle.std.specs.Prelude.{ℕ, List, [], ◌∷◌}
use Rattle.nl_attr.specs.declared.order.Order.{Order}
use Rattle.nl_route.specs.declared.fib_rule_hdr.RuleHead.{RuleHead}
use Rattle.nl_route.specs.Fields.{Field, byte, number, pad, value_at, read_as}

-- the fields of fib_rule_hdr, 12 bytes
abbrev pub rule_fields : RuleHead → List Field
rule_fields h = byte h.family ∷ byte h.dst_len ∷ byte h.src_len ∷ byte h.tos ∷ byte h.table ∷ pad 1 ∷ pad 1 ∷ byte h.action ∷ number 4 h.flags ∷ []

-- a head of these fields
abbrev pub rule_with : List Field → RuleHead
rule_with fs = record { family = value_at fs 0; dst_len = value_at fs 1; src_len = value_at fs 2; tos = value_at fs 3; table = value_at fs 4; action = value_at fs 7; flags = value_at fs 8 }

-- what is read of the bytes of fib_rule_hdr
abbrev pub rule_of : Order → List ℕ → RuleHead
rule_of = read_as rule_fields rule_with

-- ---- the numbers of its attributes, of linux/fib_rules.h

-- its destination
abbrev pub FRA_DST : ℕ
FRA_DST = 1

-- its source
abbrev pub FRA_SRC : ℕ
FRA_SRC = 2

-- the name of the input interface
abbrev pub FRA_IIFNAME : ℕ
FRA_IIFNAME = 3

-- the priority of the rule to go on with
abbrev pub FRA_GOTO : ℕ
FRA_GOTO = 4

-- its priority
abbrev pub FRA_PRIORITY : ℕ
FRA_PRIORITY = 6

-- the firewall mark
abbrev pub FRA_FWMARK : ℕ
FRA_FWMARK = 10

-- the routing table, all 32 bits
abbrev pub FRA_TABLE : ℕ
FRA_TABLE = 15

-- the mask of the firewall mark
abbrev pub FRA_FWMASK : ℕ
FRA_FWMASK = 16

-- the name of the output interface
abbrev pub FRA_OIFNAME : ℕ
FRA_OIFNAME = 17
