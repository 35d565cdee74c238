use Rattle.nl_attr.proofs.Common.{inl, inr, ℕ, Option, Some, None, arith, eq-or-lt_of_le, Reason, Shape, UpTo, Head, HeadAt, IsSound, heads, ComesBefore, IsEnd, trail_of}
use Rattle.nl_attr.proofs.Lemmas.Grammars.{all, counts_before, each, end_is, in_order}
use Rattle.nl_attr.proofs.Lemmas.Scan.{laws}
use Rattle.nl_attr.proofs.laws.heads_in_order.Goals as goal

pub returns-clause-each : goal.returns-clause-each
unfolding heads
returns-clause-each c = λ S. each (heads S) (laws S)

pub returns-clause-order : goal.returns-clause-order
unfolding heads
returns-clause-order c = λ S. in_order (heads S) (laws S)

pub returns-clause-end : goal.returns-clause-end
returns-clause-end c = λ S. end_is (heads S) (laws S)

-- what counts up to the end comes before it
comes : (S : Shape) (h : Head) (o : Option (ℕ × Reason)) → IsSound S h → UpTo o h.place → ComesBefore S o h
comes S h None e u = tt
comes S h (Some f) e u = elim (eq-or-lt_of_le u) [ inl at ↦ inr (at, e) | inr lt ↦ inl lt ]

-- and what comes before it counts
counts : (S : Shape) (s h : Head) (o : Option (ℕ × Reason)) → IsEnd S s o → HeadAt S s h → ComesBefore S o h → IsSound S h × UpTo o h.place
unfolding heads
counts S s h None is p b = (counts_before (heads S) (laws S) s h None is p (λ r. r), tt)
counts S s h (Some f) is p (inl lt) = (counts_before (heads S) (laws S) s h (Some f) is p (λ le. omega (arith, lt, le)), omega (arith, lt))
counts S s h (Some f) is p (inr at) = (at.1, omega (arith, at.0))

pub returns-clause-all : goal.returns-clause-all
unfolding heads
returns-clause-all c = λ S s h. let a = all (heads S) (laws S) s h in (
  λ x. let y = a.0 x in (y.0.0, comes S h (trail_of S s).1 y.0.1 y.1),
  λ x. let y = counts S s h (trail_of S s).1 (end_is (heads S) (laws S) s) x.0 x.1 in a.1 ((x.0, y.0), y.1),
)
