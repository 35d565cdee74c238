-- What a scan finds, by what it answered.
use Rattle.nl_attr.specs.declared.events.Event.{Event}
use Rattle.nl_attr.specs.HeadOrder.{put_from}
use Rattle.nl_frame.specs.declared.scanning.ScanError.TheVariants.{TooLarge, Layout as Fails}
use Rattle.nl_frame.specs.Heads.{IsFirstFault, whole}
use Rattle.rtnl_c.proofs.Common.{Bounds, MessageVal, IfFault, VisitsUpTo, ◌≡◌, ◌≢◌, ◌≤◌, ◌<◌, ◌↔◌, ℕ, List, length, Result, Ok, Err, IfOk, IfErr, refl, subst, sym, arith, ScanError, Layout, as_read}
use Rattle.nl_frame.specs.HeadOrder.{events_of}
use Rattle.rtnl_c.specs.Scanned.{Scans, Tapes, refusal_of, refused, untaped}
use Rattle.rtnl_c.specs.Scanned as found

-- what is not refused for its size is within the limit
pub within : {X : Type 0} (r : Result X ScanError) (n m : ℕ) → r ≡ Err TooLarge ↔ n < m → r ≢ Err TooLarge → m ≤ n
within r n m large other = let f : n < m → ⊥ = λ h. other (large.1 h) in omega (arith, f)

abbrev Scan : Type 0
Scan = Result (Unit {0}) ScanError

module _ (b : Bounds) (d : List ℕ) where
  -- what a scan answers of a datagram
  abbrev pub IsScan : Scan → ℕ → Type 0
  IsScan r v = (r ≡ Err TooLarge ↔ b.datagram < length d)
      × IfOk r (λ _. (ms : List MessageVal) × Layout b.shape ms d)
      × IfErr (as_read r) (λ e. IfFault e (λ f. IsFirstFault b.shape (whole d) f.place f.reason))
      × VisitsUpTo b.shape d (as_read r) v

  pub scans_so : (r : Scan) (v : ℕ) → IsScan r v → Scans b d (refused v (refusal_of r).0 (refusal_of r).1)
  scans_so (Ok u) v s = found.accepted (within (Ok u) b.datagram (length d) s.0 (λ e. cc)) s.1.0 s.1.1 v s.3
  scans_so (Err TooLarge) v s = subst (λ n. Scans b d (refused n 0 6)) (sym s.3) (found.too_large (s.0.0 refl))
  scans_so (Err (Fails h)) v s = found.faulty (within {X = Unit {0}} (Err (Fails h)) b.datagram (length d) s.0 (λ e. cc)) h.fault.place h.fault.reason s.2 v s.3

  module _ (old new : List Event) (n : ℕ) (untouched : b.datagram < length d → (n ≡ 0) × (new ≡ old))
      (events : length d ≤ b.datagram → new ≡ put_from 0 (events_of b.shape (whole d)) old) (count : length d ≤ b.datagram → n ≡ length (events_of b.shape (whole d))) where
    pub tapes_so : (r : Scan) (v : ℕ) → IsScan r v → Tapes b d old new (untaped n v (refusal_of r).0 (refusal_of r).1)
    tapes_so (Ok u) v s =
        let small = within (Ok u) b.datagram (length d) s.0 (λ e. cc) in
        rw (events small, count small) (found.accepted small s.1.0 s.1.1 v s.3)
    tapes_so (Err TooLarge) v s = let large = untouched (s.0.0 refl) in rw (large.0, large.1, s.3) (found.too_large (s.0.0 refl))
    tapes_so (Err (Fails h)) v s =
        let small = within {X = Unit {0}} (Err (Fails h)) b.datagram (length d) s.0 (λ e. cc) in
        rw (events small, count small) (found.faulty small h.fault.place h.fault.reason s.2 v s.3)
