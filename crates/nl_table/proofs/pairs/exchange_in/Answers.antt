use Rattle.std.proofs.Common.{◌≡◌, ◌+◌, nat_lt, bytes_eq, length, false, cond, is_some, sym, ap, ◌∙◌, arith}
use Rattle.std.proofs.lemmas.Bool.{ltb-false}
use Rattle.indexmap.specs.IndexMap.{index_map_len}
use Rattle.nl_table.proofs.Maps.{held-lookup, insert-held, insert-new}
use Rattle.nl_table.proofs.Written.{place-held}
use Rattle.nl_table.proofs.pairs.exchange_in.Goals as goal

pub returns-clause-held : goal.returns-clause-held
returns-clause-held g c = ap is_some c.in_ok-insert_full.ensures.old ∙ held-lookup (bytes_eq c.args.key) c.args.map.now.entries

pub returns-clause-replaced : goal.returns-clause-replaced
returns-clause-replaced g c =
    λ yes. c.in_ok-insert_full.ensures.entries ∙ insert-held c.args.key c.args.entry c.args.map.now.entries (sym (returns-clause-held g c) ∙ yes)

pub returns-clause-added : goal.returns-clause-added
returns-clause-added g c =
    λ no. c.in_ok-insert_full.ensures.entries ∙ insert-new c.args.key c.args.entry c.args.map.now.entries (sym (returns-clause-held g c) ∙ no)

pub returns-clause-last : goal.returns-clause-last
returns-clause-last g c =
    λ no.
    let es = c.args.map.now.entries in
    let place = c.in_ok-insert_full.field-0.0 in
    let behind : nat_lt place (length es) ≡ false = ap (λ n. nat_lt n (length es)) c.in_ok-insert_full.ensures.index ∙ place-held (bytes_eq c.args.key) es ∙ sym (returns-clause-held g c) ∙ no in
    omega (arith, ltb-false place (length es) behind, c.in_ok-insert_full.ensures.within, c.in_ok-insert_full.ensures.len ∙ ap (λ b. index_map_len c.args.map.now + cond b 0 1) no)
