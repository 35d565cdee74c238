use Rattle.nl_frame.proofs.Common.{[], ℕ, List, sym, subst, ◌∙◌, Shape, shape_of, Event, Order, Taped, put_nowhere, whole, trail_of, IsTaped}
use Rattle.nl_frame.proofs.taping.scan_messages.Goals as goal

-- a buffer of no events is one afterwards
nothing : (S : Shape) (d : List ℕ) (new : List Event) (t : Taped) → IsTaped S (trail_of S (whole d)) 0 [] new t → IsTaped S (trail_of S (whole d)) 0 [] [] t
nothing S d new t is = subst (λ (xs : List Event). IsTaped S (trail_of S (whole d)) 0 [] xs t) (is.events ∙ put_nowhere 0 _) is

pub returns-in-Little-clause-taped : goal.returns-in-Little-clause-taped
returns-in-Little-clause-taped c =
    let a = c.args in
    subst (λ (o : Order). IsTaped (shape_of o a.depth) (trail_of (shape_of o a.depth) (whole a.bytes.now)) 0 [] [] c.tape_ordered.result) (sym c.in-Little.is) (nothing _ _ _ _ c.tape_ordered.ensures.taped)

pub returns-in-Big-clause-taped : goal.returns-in-Big-clause-taped
returns-in-Big-clause-taped c =
    let a = c.args in
    subst (λ (o : Order). IsTaped (shape_of o a.depth) (trail_of (shape_of o a.depth) (whole a.bytes.now)) 0 [] [] c.tape_big.result) (sym c.in-Big.is) (nothing _ _ _ _ c.tape_big.ensures.taped)
