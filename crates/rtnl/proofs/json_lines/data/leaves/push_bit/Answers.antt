use Rattle.rtnl.proofs.Common.{◌+◌, ◌∙◌, ap, sym, drop, map, option_map, eq-eqb, ne_eqb, IfOk-weaker, json_tokens, names_set}
use Rattle.nl_values.specs.Known.{bit_view, bits_of}
use Rattle.rtnl.specs.NamedBits.{BitName}
use Rattle.rtnl.specs.Json.{◌⊕◌, string, values_tokens}
use Rattle.rtnl.proofs.Json.{more}
use Rattle.rtnl.proofs.Payloads.{bit_set, bit_unset, got_some, none_behind}
use Rattle.rtnl.proofs.json_lines.data.leaves.push_bit.Goals as goal

pub returns-in_default : goal.returns-in_default
returns-in_default c =
    ap (λ bits. c.args.line.now ⊕ values_tokens (map string (names_set bits c.args.number)))
    (none_behind (bits_of c.args.names) c.args.index (sym c.bit.ensures ∙ ap (option_map bit_view) c.in_default.is))

pub returns-then-number-bit : goal.returns-then-number-bit
returns-then-number-bit c =
    let bits = bits_of c.args.names in
    let bit : BitName = (c.in-Some.name.now, c.in-Some.bit) in
    let here = got_some bits c.args.index bit (sym c.bit.ensures ∙ ap (option_map bit_view) c.in-Some.is) in
    ap (λ names. c.args.line.now ⊕ values_tokens (map string names))
    (sym (bit_unset bit (drop (c.args.index + 1) bits) c.args.number (ne_eqb _ _ c.if-number-bit.true)) ∙ sym (ap (λ bits. names_set bits c.args.number) here))

pub returns : goal.returns
returns c =
    let bits = bits_of c.args.names in
    let bit : BitName = (c.in-Some.name.now, c.in-Some.bit) in
    let n = c.args.number in
    let rest = drop (c.args.index + 1) bits in
    let here = got_some bits c.args.index bit (sym c.bit.ensures ∙ ap (option_map bit_view) c.in-Some.is) in
    IfOk-weaker c.string.result _ _
    (λ _ written. ap (λ l. l ⊕ values_tokens (map string (names_set rest n))) written
    ∙ more c.args.line.now (json_tokens (string bit.0)) (values_tokens (map string (names_set rest n)))
    ∙ sym (ap (λ names. c.args.line.now ⊕ values_tokens (map string names)) (ap (λ bits. names_set bits n) here ∙ bit_set bit rest n (eq-eqb _ _ c.if-number-bit.false)))) c.string.ensures
