-- What all calls of a builder make together.
use Rattle.nl_frame.proofs.Common.{◌≡◌, ℕ, List, [], ◌∷◌, Option, Some, None, Result, Ok, Err, refl, sym, ap, ◌∙◌, AllByRecursion, num, Content, Bounds, BuildError, OpenHead, Built, order_of, settled, or_next, open_refusal, content_or_bytes, ended, head_ended, length_from, Draft, Holds, body_written, Call, begin, put, open_attr, open_hop, close, end, put_message, IsCall, called, put_by, run, put_by_all}
use Rattle.nl_frame.proofs.Puts.{neither, put_holds}
use Rattle.nl_frame.proofs.Begins.{goes_on, open_holds, hop_holds, begin_holds}
use Rattle.nl_frame.proofs.Closes.{close_holds}
use Rattle.nl_frame.proofs.Ends.{end_holds}
use Rattle.nl_frame.proofs.Wholes.{message_holds}

-- ---- a call that is refused

module _ (b next : Built) where
  -- it has done what it does where there is no refusal after it
  pub not_refused : (r : Option BuildError) → (settled b r next).refusal ≡ None → r ≡ None
  not_refused None e = refl
  not_refused (Some x) e = absurd (cc)

  sticks_at : (r s : Option BuildError) (e : BuildError) → r ≡ Some e → b.refusal ≡ Some e → settled b (or_next r s) next ≡ b
  sticks_at None s e h g = absurd (cc)
  sticks_at (Some x) s e h g =
      let same : Some x ≡ b.refusal = h ∙ sym g in
      ap (λ (y : Option BuildError). record b { refusal = y }) same

  refused_at : (r : Option BuildError) (e : BuildError) → next.refusal ≡ b.refusal → (r ≡ None → b.refusal ≡ None) → (settled b r next).refusal ≡ Some e → settled b r next ≡ record b { refusal = Some e }
  refused_at (Some x) e s n h = ap (λ (y : Option BuildError). record b { refusal = y }) h
  refused_at None e s n h = let z = n refl in absurd (cc)

none_before : (r s : Option BuildError) → or_next r s ≡ None → r ≡ None
none_before r s e = (neither r s e).0

pub same_refusal : (b : Built) (w : ℕ) → (ended b w).refusal ≡ b.refusal
same_refusal b w = of_heads b.heads where
  of_heads : (hs : List OpenHead) → (head_ended b hs (num (length_from b hs) w (order_of b))).refusal ≡ b.refusal
  of_heads [] = refl
  of_heads (h ∷ hs) = refl

-- the limits stay as they are
settled_bounds : (b next : Built) (r : Option BuildError) → next.bounds ≡ b.bounds → (settled b r next).bounds ≡ b.bounds
settled_bounds b next None e = e
settled_bounds b next (Some x) e = refl

pub ended_bounds : (b : Built) (w : ℕ) → (ended b w).bounds ≡ b.bounds
ended_bounds b w = of_heads b.heads where
  of_heads : (hs : List OpenHead) → (head_ended b hs (num (length_from b hs) w (order_of b))).bounds ≡ b.bounds
  of_heads [] = refl
  of_heads (h ∷ hs) = refl

pub called_bounds : (b : Built) (c : Call) → (called b c).bounds ≡ b.bounds
called_bounds b (begin kind flags seq port h) = settled_bounds b _ _ refl
called_bounds b (put n f bs) = settled_bounds b _ _ refl
called_bounds b (open_attr n f) = settled_bounds b _ _ refl
called_bounds b (open_hop f c i) = settled_bounds b _ _ refl
called_bounds b close = settled_bounds b _ _ (ended_bounds b 2)
called_bounds b end = settled_bounds b _ _ (ended_bounds b 4)
called_bounds b (put_message kind flags seq port v) = settled_bounds b _ _ refl

pub same_bounds : (b : Built) (cs : List Call) → (run b cs).bounds ≡ b.bounds
same_bounds b [] = refl
same_bounds b (c ∷ cs) = same_bounds (called b c) cs ∙ called_bounds b c

-- a refusal sticks
stays : (b : Built) (c : Call) (e : BuildError) → b.refusal ≡ Some e → called b c ≡ b
stays b (begin kind flags seq port h) e g = sticks_at b _ b.refusal _ e g g
stays b (put n f bs) e g = sticks_at b _ b.refusal _ e g g
stays b (open_attr n f) e g = sticks_at b _ b.refusal _ e g g
stays b (open_hop f c i) e g = sticks_at b _ b.refusal _ e g g
stays b close e g = sticks_at b _ b.refusal _ e g g
stays b end e g = sticks_at b _ b.refusal _ e g g
stays b (put_message kind flags seq port v) e g = sticks_at b _ b.refusal _ e g g

pub sticks : (b : Built) (cs : List Call) (e : BuildError) → b.refusal ≡ Some e → run b cs ≡ b
sticks b [] e g = refl
sticks b (c ∷ cs) e g = ap (λ (x : Built). run x cs) (stays b c e g) ∙ sticks b cs e g

-- a call that is refused changes nothing else
pub refused : (b : Built) (c : Call) (e : BuildError) → (called b c).refusal ≡ Some e → called b c ≡ record b { refusal = Some e }
refused b (begin kind flags seq port h) e g = refused_at b _ _ e refl (none_before b.refusal _) g
refused b (put n f bs) e g = refused_at b _ _ e refl (none_before b.refusal _) g
refused b (open_attr n f) e g = refused_at b _ _ e refl (none_before b.refusal _) g
refused b (open_hop f c i) e g = refused_at b _ _ e refl (none_before b.refusal _) g
refused b close e g = refused_at b _ _ e (same_refusal b 2) (none_before b.refusal _) g
refused b end e g = refused_at b _ _ e (same_refusal b 4) (none_before b.refusal _) g
refused b (put_message kind flags seq port v) e g = refused_at b _ _ e refl (none_before b.refusal _) g

-- ---- a call that isn't

-- what an attribute holds that opens
holds_what : (b : Built) (r : Result Content BuildError) → or_next b.refusal (open_refusal b r) ≡ None → r ≡ Ok (content_or_bytes r)
holds_what b (Ok c) e = refl
holds_what b (Err x) e = let z = (neither b.refusal (Some x) e).1 in absurd (cc)

pub called_holds : {L : Bounds} (b : Built) (d : Draft) (c : Call) → IsCall c → Holds L b d → (called b c).refusal ≡ None → Holds L (called b c) (put_by d c)
called_holds b d (begin kind flags seq port h) r holds e = begin_holds b _ d kind flags seq port h (not_refused b _ _ e) r refl holds
called_holds b d (put n f bs) r holds e = let none = not_refused b _ _ e in put_holds b _ d n f bs none (goes_on b _ _ _ none refl) holds
called_holds b d (open_attr n f) r holds e =
    let none = not_refused b _ _ e in
    open_holds b _ d n f _ _ none (holds_what b _ none) refl (goes_on b _ _ _ none refl) holds
called_holds b d (open_hop f c i) r holds e = hop_holds b _ d f c i (not_refused b _ _ e) r refl holds
called_holds b d close r holds e = let none = not_refused b _ _ e in close_holds b _ d none (goes_on b _ _ _ none refl) holds
called_holds b d end r holds e = let none = not_refused b _ _ e in end_holds b _ d none (goes_on b _ _ _ none refl) holds
called_holds b d (put_message kind flags seq port v) r holds e =
    message_holds b _ d (record { kind = kind; flags = flags; seq = seq; port = port; body = v }) (body_written (order_of b) v) (not_refused b _ _ e) refl r.5 (r.0, r.1, r.2, r.3, r.4, tt) refl holds

-- there was no refusal before these calls
pub before : (b : Built) (cs : List Call) → (run b cs).refusal ≡ None → b.refusal ≡ None
before b cs e = at b.refusal refl where
  at : (r : Option BuildError) → b.refusal ≡ r → b.refusal ≡ None
  at None g = g
  at (Some x) g = let z = sym (ap (λ (y : Built). y.refusal) (sticks b cs x g)) ∙ e in z

pub runs_hold : (b : Built) (d : Draft) (L : Bounds) (cs : List Call) → AllByRecursion IsCall cs → Holds L b d → (run b cs).refusal ≡ None → Holds L (run b cs) (put_by_all d cs)
runs_hold b d L [] r h e = h
runs_hold b d L (c ∷ cs) r h e = runs_hold (called b c) (put_by d c) L cs r.1 (called_holds b d c r.0 h (before (called b c) cs e)) e
