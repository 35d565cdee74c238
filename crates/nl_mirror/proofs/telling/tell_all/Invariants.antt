use Rattle.nl_mirror.proofs.Common.{◌≡◌, ◌++◌, List, Change, held_of, tell_all, SameLimits, key_by}
use Rattle.nl_mirror.proofs.telling.tell_all.Given as goal

abbrev pub invariant-loop-change : goal.invariant-loop-change
invariant-loop-change g l =
    record {
      limits : SameLimits l.fn.table l.table;
      told : (done : List (Change g.row.T.Denot)) × (done ++ l.change-iterator.rest.items ≡ l.fn.changes.items)
          × (held_of l.table ≡ tell_all (key_by g.T.FromBody.item l.fn.table.order) l.fn.table.limit (held_of l.fn.table) done);
    }
