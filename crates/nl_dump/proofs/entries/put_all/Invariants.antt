use Rattle.nl_dump.proofs.Common.{◌≡◌, ◌≤◌, ◌-◌, ◌++◌, min, length, map, List, AllByRecursion, Item, item_key, seen, Puts}
use Rattle.nl_dump.proofs.entries.put_all.Given as goal

abbrev pub invariant-loop-key : goal.invariant-loop-key
invariant-loop-key g l =
    record {
      order : l.table.order ≡ l.fn.table.order;
      keyed : AllByRecursion (λ p. p.0 ≡ g.T.Entry.key_of l.fn.table.order p.1) l.key-iterator.rest.items;
      room : min (length l.key-iterator.rest.items) (l.table.limit - length l.table.entries) ≤ l.table.spare;
      puts : (done : List Item) × (done ++ map (λ p. g.T.FromBody.item p.1) l.key-iterator.rest.items ≡ map (λ p. g.T.FromBody.item p.1) l.fn.entries.items) × Puts (item_key l.fn.table.order) (seen g.T.FromBody.item l.fn.table) done (seen g.T.FromBody.item l.table);
    }
