-- What a builder of the standard limits makes of a buffer with one message.
use Rattle.rtnl_c.proofs.Common.{◌≡◌, ℕ, ◌≤◌, List, ◌++◌, length, take, Option, None, OnOk, Result, refl, sym, ap, subst, ◌∙◌, lit≤, length-take-le, take-append-drop, Order, BuildError, Built, answer, finish, finish_refusal, nothing_built, or_next, order_of, AreLimits, Bounds, MessageVal, Parts, new_parts, over, put_of}
use Rattle.nl_frame.specs.Calls.{and_message, with_message}
use Rattle.nl_frame.specs.Draft.{Draft, Holds, nothing_put}
use Rattle.nl_frame.proofs.Ends.{finishes}
use Rattle.nl_frame.proofs.Puts.{neither}
use Rattle.rtnl_c.specs.ChangeRequests.{IsAlone, PutsAlone, alone, finished, standard_in}

are_limits : (o : Order) → AreLimits (standard_in o)
are_limits o = (lit≤ tt, refl, lit≤ tt, lit≤ tt, lit≤ tt, lit≤ tt)

nothing_holds : (o : Order) (out : List ℕ) → Holds (standard_in o) (nothing_built (standard_in o) out) nothing_put
nothing_holds o out = record {
  bounds = refl;
  front = refl;
  heads = refl;
  layers = tt;
  matched = λ x. x;
  shallow = λ x. x;
  short = λ x. x;
  ranged = tt;
  limits = are_limits o;
  size = lit≤ tt;
}

-- the message is put by these parts, which are new ones first
module _ (message : Order → MessageVal) (o : Order) (old : List ℕ) (q : Parts) (start : q ≡ new_parts (standard_in o)) (p : Parts) (new : List ℕ)
    (built : over p new ≡ with_message (over q old) (message (order_of (over q old)))) (fits : p.len ≤ length new) where
  made : over p new ≡ alone (message o) o old
  made = subst (λ (x : Parts). over p new ≡ with_message (over x old) (message (order_of (over x old)))) start built

  accepted : length (take p.len new) ≡ p.len
  accepted = length-take-le p.len new fits

  -- the answer that finishing gives
  pub puts_alone : (e : Option BuildError) → or_next p.refusal (finish_refusal p.heads) ≡ e → PutsAlone (message o) o old new (finished p.len e)
  puts_alone e is = subst (λ (b : Built). (new ≡ b.front ++ b.free) × (finished p.len e ≡ finished (length b.front) (finish b))) made (
    sym (take-append-drop p.len new),
    ap (finished p.len) (sym is) ∙ ap (λ n. finished n (finish (over p new))) (sym accepted),
  )

  -- what was put is held
  pub is_alone : (r : Result (Unit {0}) BuildError) → r ≡ answer p.refusal
      → OnOk r ((d : Draft) (L : Bounds) → Holds L (over q old) d → Holds L (over p new) (and_message d (message (order_of (over q old)))))
      → or_next p.refusal (finish_refusal p.heads) ≡ None → IsAlone (message o) o new (put_of p.len 0)
  is_alone r answered puts none zero =
      let L = standard_in o in
      let ok : r ≡ answer None = answered ∙ ap answer (neither p.refusal (finish_refusal p.heads) none).0 in
      let put = subst (λ (s : Result (Unit {0}) BuildError). OnOk s ((d : Draft) (M : Bounds) → Holds M (over q old) d → Holds M (over p new) (and_message d (message (order_of (over q old)))))) ok puts in
      let held = subst (λ (x : Parts). (d : Draft) (M : Bounds) → Holds M (over x old) d → Holds M (over p new) (and_message d (message (order_of (over x old))))) start put in
      finishes (over p new) (and_message nothing_put (message o)) L none (held nothing_put L (nothing_holds o old))
