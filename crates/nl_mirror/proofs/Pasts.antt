-- A replica stays what its events make it.
use Rattle.nl_mirror.proofs.Common.{◌≡◌, ℕ, ◌&&◌, not, Bool, true, false, cond, List, [], ◌∷◌, ◌++◌, Option, Some, None, is_some, ◌==◌, refl, sym, ap, ◌∙◌, subst, true≢false, arith, Order, Change, Now, Stale, Held, nothing, put, tell, tell_all, Replicated, new_replica, first_of, stale_of, begun, with_loss, renewed, settled, Event, begins, brings, ends, tells, overflows, loses, fails, Past, with_event, past, Moves, Events, EventsEndInMirror}
use Rattle.std.proofs.lemmas.Grind.{common_steps}
use Rattle.nl_mirror.specs.declared.stale.Stale.TheVariants.{Full, Waiting}

-- nothing isn't something
none_is_some : {A : Type 0} {x : A} → None ≡ Some x → ⊥
none_is_some e = true≢false (sym (ap is_some e))

-- what is true isn't false
clash : {A : Type 0} (b : Bool) → b ≡ true → b ≡ false → A
clash b t f = absurd (true≢false (sym t ∙ f))

both : (a b : Bool) → (a && not b) ≡ true → b ≡ false
both true true h = sym h
both true false h = refl
both false b h = absurd (true≢false (sym h))

module _ {T : Type 0} (key : T → List ℕ) where
  pub tell_all-append : (limit : ℕ) (h : Held T) (cs ds : List (Change T)) → tell_all key limit h (cs ++ ds) ≡ tell_all key limit (tell_all key limit h cs) ds
  tell_all-append limit h [] ds = refl
  tell_all-append limit h (c ∷ cs) ds = tell_all-append limit (tell key limit h c) cs ds

  -- a replica is that of this past
  pub record Holds (p : Past T) (m : Replicated T) : Type 0 where
    pub good : m.why ≡ None → tell_all key m.limit m.table m.since ≡ tell_all key m.limit nothing p.good
    pub coming : m.dumps ≡ true → m.lost ≡ false → m.coming ≡ tell_all key m.limit nothing p.items
    pub told : m.dumps ≡ true → m.lost ≡ false → m.since ≡ p.told
    pub idle : m.dumps ≡ false → m.since ≡ []
    pub lost : m.lost ≡ p.lost

  none_holds : (order : Order) (limit waiting : ℕ) → Holds (past []) (new_replica order limit waiting)
  none_holds order limit waiting =
      record {
        good = λ s. absurd (none_is_some (sym s));
        coming = λ d. absurd (true≢false (sym d));
        told = λ d. absurd (true≢false (sym d));
        idle = λ d. refl;
        lost = refl;
      }

  module _ (p : Past T) (m : Replicated T) (h : Holds p m) where
    begun_holds : m.dumps ≡ false → Holds (with_event begins p) (begun m)
    begun_holds d = record { good = h.good; coming = λ a b. refl; told = λ a b. h.idle d; idle = λ a. absurd (true≢false a); lost = refl }

    brought_holds : (x : T) → m.dumps ≡ true → Holds (with_event (brings x) p) (record m { coming = put m.limit m.coming (key x) x })
    brought_holds x d =
        record {
          good = h.good;
          coming = λ a l. ap (λ (c : Held T). put m.limit c (key x) x) (h.coming d l) ∙ sym (tell_all-append m.limit nothing p.items (Now x ∷ []));
          told = h.told;
          idle = h.idle;
          lost = h.lost;
        }

    -- what the dump's own table is behind its end says nothing
    ended : (whole : Bool) (other : Held T) → m.dumps ≡ true → (b : Bool) → (whole && not m.lost) ≡ b
        → Holds (cond b (record p { good = p.items ++ p.told }) p) (record (settled key (cond b (record m { table = m.coming; why = None }) m)) { coming = other })
    ended whole other d true q =
        let l : m.lost ≡ false = both whole m.lost q in
        record {
          good = λ s. ap (λ (c : Held T). tell_all key m.limit c m.since) (h.coming d l) ∙ ap (tell_all key m.limit (tell_all key m.limit nothing p.items)) (h.told d l)
              ∙ sym (tell_all-append m.limit nothing p.items p.told);
          coming = λ a. absurd (true≢false (sym a));
          told = λ a. absurd (true≢false (sym a));
          idle = λ a. refl;
          lost = h.lost;
        }
    ended whole other d false q =
        record {
          good = h.good;
          coming = λ a. absurd (true≢false (sym a));
          told = λ a. absurd (true≢false (sym a));
          idle = λ a. refl;
          lost = h.lost;
        }

    ended_holds : (whole : Bool) (other : Held T) → m.dumps ≡ true → Holds (with_event (ends whole) p) (record (settled key (renewed m whole)) { coming = other })
    ended_holds whole other d =
        subst (λ l. Holds (cond (whole && not l) (record p { good = p.items ++ p.told }) p) (record (settled key (renewed m whole)) { coming = other })) h.lost
        (ended whole other d (whole && not m.lost) refl)

    told_holds : (c : Change T) (b : Bool) → m.dumps ≡ b
        → Holds (with_event (tells c) p) (cond b (record m { since = m.since ++ c ∷ [] }) (record m { table = tell key m.limit m.table c }))
    told_holds c true d =
        record {
          good = λ s. tell_all-append m.limit m.table m.since (c ∷ []) ∙ ap (λ (k : Held T). tell key m.limit k c) (h.good s) ∙ sym (tell_all-append m.limit nothing p.good (c ∷ []));
          coming = h.coming;
          told = λ a l. ap (λ (s : List (Change T)). s ++ c ∷ []) (h.told a l);
          idle = λ a. clash m.dumps d a;
          lost = h.lost;
        }
    told_holds c false d =
        let none = h.idle d in
        record {
          good = λ s. ap (tell_all key m.limit (tell key m.limit m.table c)) none
              ∙ ap (λ (k : Held T). tell key m.limit k c) (sym (ap (tell_all key m.limit m.table) none) ∙ h.good s) ∙ sym (tell_all-append m.limit nothing p.good (c ∷ []));
          coming = h.coming;
          told = λ a l. clash m.dumps a d;
          idle = h.idle;
          lost = h.lost;
        }

    lost_holds : (why : Stale) → Holds (with_event (loses why) p) (with_loss why m)
    lost_holds why =
        record {
          good = λ s. absurd (none_is_some (sym s));
          coming = λ a l. absurd (true≢false l);
          told = λ a l. absurd (true≢false l);
          idle = h.idle;
          lost = refl;
        }

    failed_holds : (why : Option Stale) (table other : Held T) → is_some why ≡ true
        → Holds (with_event fails p) (record m { table = table; coming = other; since = []; dumps = false; lost = true; why = why })
    failed_holds why table other some =
        record {
          good = λ s. absurd (true≢false (sym some ∙ ap is_some s));
          coming = λ a. absurd (true≢false (sym a));
          told = λ a. absurd (true≢false (sym a));
          idle = λ a. refl;
          lost = refl;
        }

    pub moved_holds : (e : Event T) (n : Replicated T) → Moves key m e n → Holds (with_event e p) n × (n.limit ≡ m.limit)
    moved_holds begins n s = subst (λ (n : Replicated T). Holds (with_event begins p) n × (n.limit ≡ m.limit)) (sym s.1) (begun_holds s.0, refl)
    moved_holds (brings x) n s = subst (λ (n : Replicated T). Holds (with_event (brings x) p) n × (n.limit ≡ m.limit)) (sym s.1) (brought_holds x s.0, refl)
    moved_holds (ends whole) n s =
        subst (λ (n : Replicated T). Holds (with_event (ends whole) p) n × (n.limit ≡ m.limit)) (sym s.1) (ended_holds whole n.coming s.0, same (whole && not m.lost))
      where
        same : (b : Bool) → (settled key (cond b (record m { table = m.coming; why = None }) m)).limit ≡ m.limit
        same true = refl
        same false = refl
    moved_holds (tells c) n s =
        subst (λ (n : Replicated T). Holds (with_event (tells c) p) n × (n.limit ≡ m.limit)) (sym s.1) (told_holds c m.dumps refl, same m.dumps)
      where
        same : (b : Bool) → (cond b (record m { since = m.since ++ c ∷ [] }) (record m { table = tell key m.limit m.table c })).limit ≡ m.limit
        same true = refl
        same false = refl
    moved_holds overflows n s = subst (λ (n : Replicated T). Holds (with_event overflows p) n × (n.limit ≡ m.limit)) (sym s.1) (lost_holds Waiting, refl)
    moved_holds (loses why) n s = subst (λ (n : Replicated T). Holds (with_event (loses why) p) n × (n.limit ≡ m.limit)) (sym s) (lost_holds why, refl)
    moved_holds fails n s = subst (λ (n : Replicated T). Holds (with_event fails p) n × (n.limit ≡ m.limit)) (sym s.1) (failed_holds n.why n.table n.coming s.2, refl)

  pub events_hold : (order : Order) (limit waiting : ℕ) (es : List (Event T)) (m : Replicated T) → Events key order limit waiting es m → Holds (past es) m × (m.limit ≡ limit)
  events_hold order limit waiting [] m e = subst (λ (m : Replicated T). Holds (past []) m × (m.limit ≡ limit)) (sym e) (none_holds order limit waiting, refl)
  events_hold order limit waiting (e ∷ es) n run =
      let before = events_hold order limit waiting es run.0 run.1 in
      let after = moved_holds (past es) run.0 before.0 e n run.2 in
      (after.0, after.1 ∙ before.1)

-- a table that isn't stale lost nothing, and missed nothing
current : {T : Type 0} (m : Replicated T) → stale_of m ≡ None → (m.why ≡ None) × (m.table.missed ≡ 0)
current {T} m s = by (m.table.missed == 0) refl s
  where
    by : (b : Bool) → (m.table.missed == 0) ≡ b → cond b m.why (Some (first_of m.why Full)) ≡ None → (m.why ≡ None) × (m.table.missed ≡ 0)
    by true e s = (s, grind (arith, common_steps))
    by false e s = absurd (none_is_some (sym s))

pub events_end : {T : Type 0} (key_of : Order → T → List ℕ) → EventsEndInMirror key_of
events_end {T} key_of order limit waiting es m run =
    let h = events_hold (key_of order) order limit waiting es m run in
    λ s.
    let c = current m s in
    (subst (λ n. tell_all (key_of order) n m.table m.since ≡ tell_all (key_of order) n (nothing {T = T}) (past es).good) h.1 (h.0.good c.0), c.1)
