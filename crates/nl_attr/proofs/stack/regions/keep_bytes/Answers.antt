use Rattle.nl_attr.proofs.Common.{◌≡◌, ℕ, ◌∷◌, [], ◌++◌, List, map, subst, sym, arith, bytes, item, attr_view}
use Rattle.nl_attr.proofs.Lemmas.Elements.{so_many_elements}
use Rattle.nl_attr.proofs.stack.regions.keep_bytes.Goals as goal

pub returns-in-len4 : goal.returns-in-len4
returns-in-len4 c =
    let kept : List ℕ → Type 0 = λ bs. map attr_view c.keep_front-in-len4.new.list.items ≡ map attr_view c.args.list.now.items ++ item c.args.number c.args.flags (bytes bs) ∷ [] in
    subst kept (so_many_elements 4 c.args.payload.now (omega (arith, c.in-len4.len_at_least, c.in-len4.len_below))) (rw (sym c.reserve.ensures.items) c.keep_front-in-len4.ensures)

pub returns-in-len6 : goal.returns-in-len6
returns-in-len6 c =
    let kept : List ℕ → Type 0 = λ bs. map attr_view c.keep_front-in-len6.new.list.items ≡ map attr_view c.args.list.now.items ++ item c.args.number c.args.flags (bytes bs) ∷ [] in
    subst kept (so_many_elements 6 c.args.payload.now (omega (arith, c.in-len6.len_at_least, c.in-len6.len_below))) (rw (sym c.reserve.ensures.items) c.keep_front-in-len6.ensures)

pub returns-in-len8 : goal.returns-in-len8
returns-in-len8 c =
    let kept : List ℕ → Type 0 = λ bs. map attr_view c.keep_front-in-len8.new.list.items ≡ map attr_view c.args.list.now.items ++ item c.args.number c.args.flags (bytes bs) ∷ [] in
    subst kept (so_many_elements 8 c.args.payload.now (omega (arith, c.in-len8.len_at_least, c.in-len8.len_below))) (rw (sym c.reserve.ensures.items) c.keep_front-in-len8.ensures)

pub returns-in-len16 : goal.returns-in-len16
returns-in-len16 c =
    let kept : List ℕ → Type 0 = λ bs. map attr_view c.keep_front-in-len16.new.list.items ≡ map attr_view c.args.list.now.items ++ item c.args.number c.args.flags (bytes bs) ∷ [] in
    subst kept (so_many_elements 16 c.args.payload.now (omega (arith, c.in-len16.len_at_least, c.in-len16.len_below))) (rw (sym c.reserve.ensures.items) c.keep_front-in-len16.ensures)
