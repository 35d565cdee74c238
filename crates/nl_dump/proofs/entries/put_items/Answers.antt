use Rattle.nl_dump.proofs.Common.{◌≡◌, map, sym, ap, ◌∙◌, subst, List, AllByRecursion, Order, message_view, Content, Item, item_key, seen, brought, Puts}
use Rattle.nl_dump.proofs.Puts.{puts_reserved}
use Rattle.nl_dump.proofs.entries.put_items.Goals as goal

pub put_all-requires-clause-keyed : goal.put_all-requires-clause-keyed
put_all-requires-clause-keyed g c =
    subst (λ (o : Order). AllByRecursion (λ p. p.0 ≡ g.T.Entry.key_of o p.1) c.in_ok-entries.entries.items)
    (c.order.ensures ∙ sym (ap (λ (t : Content g.row.T.Denot). t.order) c.in_ok-reserve.ensures.kept)) c.in_ok-entries.ensures.keyed.keyed

pub returns-clause-puts : goal.returns-clause-puts
returns-clause-puts g c =
    let item = g.T.FromBody.item in
    let t = c.args.table.now in
    let ready = c.reserve.new.self in
    let after = c.put_all.new.table in
    let items = brought g.T.FromBody.family (map message_view c.args.messages.items) in
    let kept = c.in_ok-reserve.ensures.kept in
    let ordered = subst (λ (o : Order). Puts (item_key o) (seen item ready) (map (λ p. item p.1) c.in_ok-entries.entries.items) (seen item after)) (ap (λ (t : Content g.row.T.Denot). t.order) kept) c.put_all.ensures in
    puts_reserved (item_key t.order) (seen item t) (seen item ready) (seen item after) items (ap (seen item) kept)
    (subst (λ (l : List Item). Puts (item_key t.order) (seen item ready) l (seen item after)) c.in_ok-entries.ensures.keyed.items ordered)
