use Rattle.rtnl_c.proofs.Common.{◌∙◌, ◌+◌, ap, List, ℕ, Some, None, refl, subst, slice_get, items_len, message_bytes, Order, IsPut, Object}
use Rattle.nl_route.specs.Views.{attrs_in}
use Rattle.rtnl_c.specs.Entries.{unwritten}
use Rattle.rtnl_c.proofs.Seen.{put_at}
use Rattle.rtnl_c.proofs.entry.put_message.Goals as goal

pub returns-in_default : goal.returns-in_default
returns-in_default g c =
    let t = c.args.table.now in
    put_at (λ (b : Object g.row.H.Denot). message_bytes t.order g.H.Head.family (g.H.Head.SIZE + items_len (attrs_in b)) (g.H.Head.fields b.head) (attrs_in b)) (slice_get t.entries c.args.index) None c.in_default.ensures (c.none.ensures, refl)

pub returns-in-Ok : goal.returns-in-Ok
returns-in-Ok g c =
    let t = c.args.table.now in let e = c.in-Some.entry.now in
    let image = λ (o : Order) (b : Object g.row.H.Denot). message_bytes o g.H.Head.family (g.H.Head.SIZE + items_len (attrs_in b)) (g.H.Head.fields b.head) (attrs_in b) in
    put_at (image t.order) (slice_get t.entries c.args.index) (Some e) c.in-Some.ensures
    (subst (λ (bs : List ℕ). IsPut bs c.args.out.now c.all.new.out c.all.result) (c.as_slice.ensures.value ∙ c.in-Ok.ensures ∙ ap (λ (o : Order). image o e) c.order.ensures) c.all.ensures)

pub returns-in-Err : goal.returns-in-Err
returns-in-Err g c = rw (c.none-in-Err.ensures, c.code.ensures) (unwritten c.in-Err.error)
