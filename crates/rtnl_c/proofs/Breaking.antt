-- The header that breaks a rule, by what a scan answered.
use Rattle.nl_frame.specs.declared.scanning.ScanError.TheVariants.{TooLarge, Layout as Fails}
use Rattle.nl_frame.specs.Broken.{IsBrokenHead}
use Rattle.nl_frame.specs.Heads.{IsFirstFault, whole}
use Rattle.rtnl_c.proofs.Common.{Bounds, MessageVal, IfFault, ◌≡◌, ◌<◌, ◌↔◌, ℕ, List, length, Result, Ok, Err, IfOk, IfErr, refl, ScanError, Layout, IfBroken, as_read}
use Rattle.rtnl_c.specs.Broken.{Breaks, accepted, answered, faulty, large}
use Rattle.rtnl_c.proofs.Scans.{within}

abbrev Scanned : Type 0
Scanned = Result (Unit {0}) ScanError

module _ (b : Bounds) (d : List ℕ) where
  -- what a scan answers of a datagram
  abbrev pub IsEnd : Scanned → Type 0
  IsEnd r = (r ≡ Err TooLarge ↔ b.datagram < length d)
      × IfOk r (λ _. (ms : List MessageVal) × Layout b.shape ms d)
      × IfErr (as_read r) (λ e. IfFault e (λ f. IsFirstFault b.shape (whole d) f.place f.reason))
      × IfErr r (λ e. IfBroken e (IsBrokenHead b.shape (whole d)))

  pub breaks_so : (r : Scanned) → IsEnd r → Breaks b d (answered r)
  breaks_so (Ok u) s = accepted (within (Ok u) b.datagram (length d) s.0 (λ e. cc)) s.1.0 s.1.1
  breaks_so (Err TooLarge) s = large (s.0.0 refl)
  breaks_so (Err (Fails h)) s = faulty (within {X = Unit {0}} (Err (Fails h)) b.datagram (length d) s.0 (λ e. cc)) h s.2 s.3
