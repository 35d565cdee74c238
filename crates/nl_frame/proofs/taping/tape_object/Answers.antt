use Rattle.nl_frame.proofs.Common.{◌≡◌, ℕ, ◌*◌, ◌+◌, ◌-◌, ◌≤◌, take, drop, length, subst, arith, shape_of, Head, room_on, context_of, head_size}
use Rattle.nl_attr.specs.Taped.{IsTaped, found}
use Rattle.nl_attr.proofs.Lemmas.Fronts.{rest_so}
use Rattle.nl_frame.proofs.Fronts.{length-from, whole_bound}
use Rattle.nl_frame.proofs.Tapes.{region_taped}
use Rattle.nl_frame.proofs.taping.tape_object.Goals as goal

pub returns-clause-head : goal.returns-clause-head
returns-clause-head c =
    let a = c.args in
    let S = shape_of a.order a.depth in
    let start = rest_so (context_of a.family) 0 a.place a.payload.now c.row-row.result.head_size (head_size a.family) c.row-row.ensures.size in
    (subst (λ (h : Head). IsTaped S h a.count a.out.now c.tape_attrs_in.new.out (found c.tape_attrs_in.new.broken c.tape_attrs_in.result)) start (rw (c.row-row.ensures.context) at c.tape_attrs_in.ensures.taped)).head

pub returns-clause-taped : goal.returns-clause-taped
returns-clause-taped c =
    let a = c.args in
    let S = shape_of a.order a.depth in
    let start = rest_so (context_of a.family) 0 a.place a.payload.now c.row-row.result.head_size (head_size a.family) c.row-row.ensures.size in
    region_taped S _ a.count a.out.now _ (found c.tape_attrs_in.new.broken c.tape_attrs_in.result) (subst (λ (h : Head). IsTaped S h a.count a.out.now c.tape_attrs_in.new.out (found c.tape_attrs_in.new.broken c.tape_attrs_in.result)) start (rw (c.row-row.ensures.context) at c.tape_attrs_in.ensures.taped))

-- a level more for each, above none
from_the_lowest : (v d n : ℕ) → v ≤ (d - 0 + 1) * n → v ≤ (d + 1) * n
from_the_lowest v d n h = let e : d - 0 + 1 ≡ d + 1 = omega arith in subst (λ (k : ℕ). v ≤ k * n) e h

pub returns-clause-bound : goal.returns-clause-bound
returns-clause-bound c =
    let a = c.args in
    let bytes = take (length a.payload.now - c.row-row.result.head_size) (drop c.row-row.result.head_size a.payload.now) in
    let v = c.tape_attrs_in.result.visits in
    whole_bound (a.depth + 1) v (length bytes) (length a.payload.now) (from_the_lowest v a.depth (length bytes) c.tape_attrs_in.ensures.bound)
    (omega (arith, length-from c.row-row.result.head_size a.payload.now))

pub tape_attrs_in-requires-clause-room : goal.tape_attrs_in-requires-clause-room
tape_attrs_in-requires-clause-room c = let a = c.args in room_on a.room a.count (length a.payload.now) a.count _ (length a.out.now) (omega (arith, length-from c.row-row.result.head_size a.payload.now)) c.requires.room

pub returns-clause-quarter : goal.returns-clause-quarter
returns-clause-quarter c = omega (arith, c.tape_attrs_in.ensures.quarter, length-from c.row-row.result.head_size c.args.payload.now)
