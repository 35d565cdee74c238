-- What the answer of a scan says in the words of the layout.
use Rattle.nl_attr.proofs.Common.{◌≡◌, ℕ, ◌+◌, List, length, Option, Some, None, Result, Ok, Err, IfOk, IfErr, refl, sym, ap, subst, ◌∙◌, arith, Fault, Reason, Event, Ctx, Shape, AreBytes, Items, Fits, fault_in, IsFirstFault, start_of, heads, Outcome, items_of_region, IsTaped}
use Rattle.nl_attr.specs.declared.taping.Taped.{Taped}
use Rattle.nl_attr.specs.HeadOrder.{trail_of, visits_of, fault_of}
use Rattle.nl_attr.specs.Scanned.{HasEnd, SeesUpTo, Ends, without}
use Rattle.nl_attr.proofs.Lemmas.First.{end_of, agrees_so, reads, read_first, read_visits, read_all_visits}
use Rattle.nl_attr.proofs.Lemmas.Fitting.{items_fit}
use Rattle.nl_attr.proofs.Lemmas.Sound.{items_sound}

says : {X Y : Type 0} (r : Result X Fault) (v : ℕ) (e : Option (ℕ × Reason)) (n : ℕ) (o : Outcome Y) → without o ≡ (end_of e, n) → Ends (fault_of e) r → v ≡ n → HasEnd r v o
says (Ok x) v None n o w i k = w ∙ ap (λ (m : ℕ). (Ok tt, m)) (sym k)
says (Ok x) v (Some f) n o w i k = absurd i
says (Err d) v None n o w i k = absurd i
says (Err d) v (Some f) n o w i k = w ∙ rw (i, k) refl

-- an outcome that is this one without what was read
module _ {Y : Type 0} where
  pub was_ok : (o : Outcome Y) (v : ℕ) → without o ≡ (Ok tt, v) → (y : Y) × (o ≡ (Ok y, v))
  was_ok (Ok y, n) v w = (y, ap (λ (k : ℕ). (Ok y, k)) (ap (λ (p : Outcome (Unit {0})). p.1) w))
  was_ok (Err f, n) v w = absurd (let x : ◌≡◌ {A = Result (Unit {0}) Fault} (Err f) (Ok tt) = ap (λ (p : Outcome (Unit {0})). p.0) w in cc)

  pub was_err : (o : Outcome Y) (f : Fault) (v : ℕ) → without o ≡ (Err f, v) → o ≡ (Err f, v)
  was_err (Ok y, n) f v w = absurd (let x : ◌≡◌ {A = Result (Unit {0}) Fault} (Ok tt) (Err f) = ap (λ (p : Outcome (Unit {0})). p.0) w in cc)
  was_err (Err g, n) f v w =
      let x : ◌≡◌ {A = Result (Unit {0}) Fault} (Err g) (Err f) = ap (λ (p : Outcome (Unit {0})). p.0) w in
      let same : g ≡ f = cc in
      rw (same, ap (λ (p : Outcome (Unit {0})). p.1) w) refl

module _ (S : Shape) (ctx : Ctx) (l place : ℕ) (left : List ℕ) where
  -- an answer of the events of the heads ends as a reading does
  pub scans_so : {X : Type 0} (count : ℕ) (old new : List Event) (t : Taped) (r : Result X Fault) → IsTaped S (start_of ctx l place left) count old new t → Ends (fault_in t.broken) r → HasEnd r t.visits (items_of_region S ctx l place left)
  scans_so count old new t r is ends = says r t.visits (trail_of S (start_of ctx l place left)).1 (visits_of S (trail_of S (start_of ctx l place left)).0) (items_of_region S ctx l place left) (agrees_so (heads S) (items_of_region S ctx l place left) (trail_of S (start_of ctx l place left)) (reads S ctx l place left)) (subst (λ f. Ends f r) is.fault ends) is.visits

  module _ {X : Type 0} where
    -- some list fits
    pub fits_of : (r : Result X Fault) (v : ℕ) → AreBytes left → HasEnd r v (items_of_region S ctx l place left) → IfOk r (λ _. (is : Items) × Fits S is left ctx l)
    fits_of (Err f) v b w = tt
    fits_of (Ok x) v b w = let o = was_ok (items_of_region S ctx l place left) v w in (o.0, items_sound (length left) S ctx l place left o.0 v (omega arith) b o.1)

    -- the fault is the first
    pub first_of : (r : Result X Fault) (v : ℕ) → HasEnd r v (items_of_region S ctx l place left) → IfErr r (λ f. IsFirstFault S (start_of ctx l place left) f.place f.reason)
    first_of (Ok x) v w = tt
    first_of (Err f) v w = read_first S ctx l place left f v (was_err (items_of_region S ctx l place left) f v w)

    -- no list fits
    pub none_of : (r : Result X Fault) (v : ℕ) → HasEnd r v (items_of_region S ctx l place left) → IfErr r (λ _. (is : Items) → Fits S is left ctx l → ⊥)
    none_of (Ok x) v w = tt
    none_of (Err f) v w = λ is g.
        let read = (items_fit is S ctx l place left g).1 in
        absurd (let x : ◌≡◌ {A = Result Items Fault} (Ok is) (Err f) = ap (λ (o : Outcome Items). o.0) (sym read ∙ was_err (items_of_region S ctx l place left) f v w) in cc)

    -- the visits are those up to the end
    pub visits_of_scan : (r : Result X Fault) (v : ℕ) → HasEnd r v (items_of_region S ctx l place left) → SeesUpTo S (start_of ctx l place left) (place + length left) r v
    visits_of_scan (Ok x) v w = let o = was_ok (items_of_region S ctx l place left) v w in read_all_visits S ctx l place left o.0 v o.1
    visits_of_scan (Err f) v w = read_visits S ctx l place left f v (was_err (items_of_region S ctx l place left) f v w)
