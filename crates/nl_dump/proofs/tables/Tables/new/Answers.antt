use Rattle.nl_dump.proofs.Common.{◌≡◌, ℕ, sym, ap, ◌∙◌, Order, Content, empty, Item, seen}
use Rattle.nl_route.specs.declared.family.Family.TheVariants.{Link, Addr, Route, Neigh, Rule}
use Rattle.nl_dump.proofs.tables.Tables.new.Goals as goal

-- an empty table is seen as one
seen_empty : {T : Type 0} (f : T → Item) (c : Content T) (o p : Order) (l m : ℕ) → o ≡ p → l ≡ m → c ≡ empty o l 0 → seen f c ≡ empty p m c.spare
seen_empty {T} f c o p l m order limit e =
    let none : 0 ≡ c.spare = sym (ap (λ (t : Content T). t.spare) e) in
    ap (seen f) e ∙ (λ i. empty (order i) (limit i) (none i))

pub returns : goal.returns
returns c Link = seen_empty _ c.in_ok-with_seed.field-0 _ _ _ _ c.order-order.ensures c.entries-entries.ensures.value c.in_ok-with_seed.ensures
returns c Addr = seen_empty _ c.in_ok-with_seed-2.field-0 _ _ _ _ c.order-order.ensures c.entries-entries.ensures.value c.in_ok-with_seed-2.ensures
returns c Route = seen_empty _ c.in_ok-with_seed-3.field-0 _ _ _ _ c.order-order.ensures c.entries-entries.ensures.value c.in_ok-with_seed-3.ensures
returns c Neigh = seen_empty _ c.in_ok-with_seed-4.field-0 _ _ _ _ c.order-order.ensures c.entries-entries.ensures.value c.in_ok-with_seed-4.ensures
returns c Rule = seen_empty _ c.in_ok-with_seed-5.field-0 _ _ _ _ c.order-order.ensures c.entries-entries.ensures.value c.in_ok-with_seed-5.ensures
