use Rattle.rtnl.proofs.Common.{◌≡◌, Some, None, held_of, held_seen, entry_at}
use Rattle.std.proofs.Common.{rules}
use Rattle.rtnl.proofs.Mirrors.{entry_seen}
use Rattle.rtnl.proofs.runs.mirroring.push_changed.Goals as goal

pub returns-in-Some : goal.returns-in-Some
returns-in-Some g c =
    let f = g.T.TableItem.item in
    let h = held_of c.args.table.now in
    let at : entry_at c.args.place (held_seen f h) ≡ Some (f c.in-Some.entry.now) = entry_seen f h c.args.place (Some c.in-Some.entry.now) c.in-Some.ensures in
    rw at (rw c.from.ensures at c.push_changed.ensures)

pub returns-in-None : goal.returns-in-None
returns-in-None g c =
    let f = g.T.TableItem.item in
    let h = held_of c.args.table.now in
    let at : entry_at c.args.place (held_seen f h) ≡ None = entry_seen f h c.args.place None c.in-None.ensures in
    rw at (search rules)
