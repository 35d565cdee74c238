-- The message of a rule's request: fib_rule_hdr and attributes of linux/fib_rules.h.
use Rattle.std.specs.Prelude.{ℕ, Bool, true, false, List, [], ◌∷◌}
use Rattle.nl_attr.specs.declared.order.Order.{Order}
use Rattle.nl_route.specs.declared.family.Family.TheVariants as family
use Rattle.nl_route.specs.declared.fib_rule_hdr.RuleHead.{RuleHead}
use Rattle.nl_route.specs.Families.{any}
use Rattle.nl_route.specs.Rule.{FRA_DST, FRA_SRC, FRA_IIFNAME, FRA_GOTO, FRA_PRIORITY, FRA_FWMARK, FRA_TABLE, FRA_FWMASK, FRA_OIFNAME}
use Rattle.nl_frame.specs.Message.{MessageVal}
use Rattle.nl_request.specs.declared.operation.Operation.{Operation}
use Rattle.nl_request.specs.declared.rule.RuleRequest.{RuleRequest}
use Rattle.nl_request.specs.Parts.{Part, text_part, number_part, request}
use Rattle.nl_request.specs.Prefixes.{prefix_part, prefix_length}
use Rattle.nl_request.specs.Tables.{head_table, table_part}

-- ---- the number of an attribute that nl_route has no name for

-- how many bits a route has at most that the rule passes over
abbrev pub FRA_SUPPRESS_PREFIXLEN : ℕ
FRA_SUPPRESS_PREFIXLEN = 14

-- ---- the message

-- FIB_RULE_INVERT, where the rule applies to what doesn't match
abbrev pub invert_bits : Bool → ℕ
invert_bits true = 2
invert_bits false = 0

-- its head
abbrev pub rule_head : RuleRequest → RuleHead
rule_head r = record {
  family = r.family;
  dst_len = prefix_length r.destination;
  src_len = prefix_length r.source;
  tos = r.tos;
  table = head_table r.table;
  action = r.action;
  flags = invert_bits r.invert;
}

-- its attributes
abbrev pub rule_parts : RuleRequest → Order → List Part
rule_parts r o =
    prefix_part FRA_SRC r.source
    ∷ prefix_part FRA_DST r.destination
    ∷ number_part FRA_FWMARK 4 o r.mark
    ∷ number_part FRA_FWMASK 4 o r.mask
    ∷ text_part FRA_IIFNAME r.iif
    ∷ text_part FRA_OIFNAME r.oif
    ∷ table_part FRA_TABLE o r.table
    ∷ number_part FRA_GOTO 4 o r.target
    ∷ number_part FRA_SUPPRESS_PREFIXLEN 4 o r.suppress_prefix_length
    ∷ number_part FRA_PRIORITY 4 o r.priority
    ∷ []

-- the whole message
abbrev pub rule_message : RuleRequest → Operation → ℕ → Order → MessageVal
rule_message r op seq o = request op seq (any family.Rule (rule_head r)) (rule_parts r o)
