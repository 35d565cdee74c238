use Rattle.nl_mirror.proofs.Common.{◌≡◌, ◌∙◌, ap, bytes_eq, length, subst, position_or_len, keys_of, lookup, of_now, mirror_key}
use Rattle.nl_mirror.proofs.Effects.{exchange_is}
use Rattle.nl_mirror.proofs.telling.put_now.Goals as goal

pub returns-clause-effect : goal.returns-clause-effect
returns-clause-effect g c =
    let t = c.args.table.now in
    let key : c.in_ok-key.key ≡ mirror_key t.order (g.T.FromBody.item c.args.entry) = c.in_ok-key.ensures.key ∙ ap (λ o. mirror_key o (g.T.FromBody.item c.args.entry)) c.order.ensures in
    subst (λ k. c.effect_of_exchange.result ≡ of_now (lookup (bytes_eq k) t.entries) (position_or_len (bytes_eq k) (keys_of t.entries)) (length t.entries) t.limit) key
    (c.effect_of_exchange.ensures ∙ exchange_is c.in_ok-key.key t c.mirror_key.new.self c.in_ok-exchanged.exchanged c.exchange.new.self c.in_ok-exchanged.ensures.exchanged)
