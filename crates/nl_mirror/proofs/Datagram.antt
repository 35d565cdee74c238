-- What is heard, of one message after another.
use Rattle.nl_mirror.proofs.Common.{◌≡◌, ◌<◌, ◌≤◌, ◌==◌, nat_lt, ℕ, ◌&&◌, not, Bool, true, false, cond, List, [], ◌∷◌, ◌++◌, length, None, refl, sym, ap, ◌∙◌, subst, arith, length-append, Order, Item, tell, Replicated, settled, Event, begins, brings, ends, tells, overflows, loses, fails, Moves, MovesAll, Events, mirror_key, Heard, Follows, Result, Ok, Err, Short, IsHeardAs, IsHeardBy, Mirrored, MessageVal, EachHearsBy, Family, follower_at, hears}
use Rattle.std.proofs.lemmas.Bool.{eqb-false, ltb-false, ltb-true}
use Rattle.nl_mirror.specs.Datagrams.{onto, all_heard, RunOf, RunsEndInMirror, RunsKeepLimits}
use Rattle.nl_mirror.proofs.Pasts.{events_end, events_hold}

-- no more than these, and not as many
below : (a b : ℕ) → (a == b) ≡ false → a ≤ b → a < b
below a b other most = by (nat_lt a b) refl
  where
    by : (c : Bool) → nat_lt a b ≡ c → a < b
    by true e = ltb-true a b e
    by false e = absurd (eqb-false a b other (omega (arith, ltb-false a b e, most)))

module _ {T : Type 0} (key : T → List ℕ) where
  -- the byte order stays
  moves_order : (m : Replicated T) (e : Event T) (n : Replicated T) → Moves key m e n → n.order ≡ m.order
  moves_order m begins n s = ap (λ (x : Replicated T). x.order) s.1
  moves_order m (brings x) n s = ap (λ (x : Replicated T). x.order) s.1
  moves_order m (ends whole) n s = ap (λ (x : Replicated T). x.order) s.1 ∙ by (whole && not m.lost)
    where
      by : (b : Bool) → (settled key (cond b (record m { table = m.coming; why = None }) m)).order ≡ m.order
      by true = refl
      by false = refl
  moves_order m (tells c) n s = ap (λ (x : Replicated T). x.order) s.1 ∙ by m.dumps
    where
      by : (b : Bool) → (cond b (record m { since = m.since ++ c ∷ [] }) (record m { table = tell key m.limit m.table c })).order ≡ m.order
      by true = refl
      by false = refl
  moves_order m overflows n s = ap (λ (x : Replicated T). x.order) s.1
  moves_order m (loses why) n s = ap (λ (x : Replicated T). x.order) s
  moves_order m fails n s = ap (λ (x : Replicated T). x.order) s.1

  moves_all_order : (es : List (Event T)) (m n : Replicated T) → MovesAll key m es n → n.order ≡ m.order
  moves_all_order [] m n s = ap (λ (x : Replicated T). x.order) s
  moves_all_order (e ∷ es) m n s = moves_all_order es s.0 n s.2 ∙ moves_order m e s.0 s.1

  -- no more wait than may
  abbrev Waits : ℕ → Replicated T → Type 0
  Waits waiting m = (m.waiting ≡ waiting) × (length m.since ≤ waiting)

  moves_waits : (waiting : ℕ) (m : Replicated T) (e : Event T) (n : Replicated T) → Moves key m e n → Waits waiting m → Waits waiting n
  moves_waits waiting m begins n s w = subst (Waits waiting) (sym s.1) w
  moves_waits waiting m (brings x) n s w = subst (Waits waiting) (sym s.1) w
  moves_waits waiting m (ends whole) n s w = subst (Waits waiting) (sym s.1) (by (whole && not m.lost), omega arith)
    where
      by : (b : Bool) → (settled key (cond b (record m { table = m.coming; why = None }) m)).waiting ≡ waiting
      by true = w.0
      by false = w.0
  moves_waits waiting m (tells c) n s w = subst (Waits waiting) (sym s.1) (by m.dumps s.0)
    where
      by : (b : Bool) → (b && (length m.since == m.waiting)) ≡ false → Waits waiting (cond b (record m { since = m.since ++ c ∷ [] }) (record m { table = tell key m.limit m.table c }))
      by true room = (w.0, omega (arith, below (length m.since) m.waiting room (omega (arith, w.0, w.1)), w.0, length-append m.since (c ∷ [])))
      by false room = w
  moves_waits waiting m overflows n s w = subst (Waits waiting) (sym s.1) w
  moves_waits waiting m (loses why) n s w = subst (Waits waiting) (sym s) w
  moves_waits waiting m fails n s w = subst (Waits waiting) (sym s.1) (w.0, omega arith)

  events_waits : (order : Order) (limit waiting : ℕ) (es : List (Event T)) (m : Replicated T) → Events key order limit waiting es m → Waits waiting m
  events_waits order limit waiting [] m e = subst (Waits waiting) (sym e) (refl, omega arith)
  events_waits order limit waiting (e ∷ es) n run = moves_waits waiting run.0 e n run.2 (events_waits order limit waiting es run.0 run.1)

events_order : {T : Type 0} (key : T → List ℕ) (order : Order) (limit waiting : ℕ) (es : List (Event T)) (m : Replicated T) → Events key order limit waiting es m → m.order ≡ order
events_order {T} key order limit waiting [] m e = ap (λ (x : Replicated T). x.order) e
events_order key order limit waiting (e ∷ es) n run = moves_order key run.0 e n run.2 ∙ events_order key order limit waiting es run.0 run.1

onto_events : (key : Item → List ℕ) (order : Order) (limit waiting : ℕ) (old : List (Event Item)) (m : Replicated Item) (es : List (Event Item)) (n : Replicated Item)
    → Events key order limit waiting old m → MovesAll key m es n → Events key order limit waiting (onto es old) n
onto_events key order limit waiting old m [] n e s = subst (Events key order limit waiting old) (sym s) e
onto_events key order limit waiting old m (x ∷ es) n e s = onto_events key order limit waiting (x ∷ old) s.0 es n (m, e, s.1) s.2

run_events : (order : Order) (limit waiting : ℕ) (hs : List Heard) (f : Follows) → RunOf order limit waiting hs f → Events (mirror_key order) order limit waiting (all_heard hs) f.replica
run_events order limit waiting [] f r = r
run_events order limit waiting (h ∷ hs) g r =
    let before = run_events order limit waiting hs r.0 r.1 in
    let same = events_order (mirror_key order) order limit waiting (all_heard hs) r.0.replica before in
    onto_events (mirror_key order) order limit waiting (all_heard hs) r.0.replica h.events g.replica before
    (subst (λ (o : Order). MovesAll (mirror_key o) r.0.replica h.events g.replica) same r.2.2)

pub runs_end : RunsEndInMirror
runs_end order limit waiting hs f r = events_end mirror_key order limit waiting (all_heard hs) f.replica (run_events order limit waiting hs f r)

pub runs_keep : RunsKeepLimits
runs_keep order limit waiting hs f r =
    let run = run_events order limit waiting hs f r in
    let waits = events_waits (mirror_key order) order limit waiting (all_heard hs) f.replica run in (
      (events_hold (mirror_key order) order limit waiting (all_heard hs) f.replica run).1,
      events_order (mirror_key order) order limit waiting (all_heard hs) f.replica run,
      waits.0,
      waits.1,
    )

heard_as_order : (f : Follows) (h : Heard) (g : Follows) → IsHeardAs f h g → g.replica.order ≡ f.replica.order
heard_as_order f h g s = moves_all_order (mirror_key f.replica.order) h.events f.replica g.replica s.2

heard_order : {A : Type 0} (r : Result A Short) (f : Follows) (h : Heard) (g : Follows) → IsHeardBy r f h g → g.replica.order ≡ f.replica.order
heard_order (Ok x) f h g s = heard_as_order f h g s
heard_order (Err e) f h g s = heard_as_order f (record h { events = s.0 }) g s.2

-- each table of a mirror keeps its byte order
pub each_order : {A : Type 0} (r : Result A Short) (f : Mirrored) (m : MessageVal) (g : Mirrored) → EachHearsBy r f m g → (k : Family) → (follower_at k g).replica.order ≡ (follower_at k f).replica.order
each_order r f m g s k = heard_order r (follower_at k f) (hears (follower_at k f).kind (follower_at k f).listening m) (follower_at k g) (s.1 k)
