-- What a check finds, by what it answered.
use Rattle.nl_frame.specs.declared.reading.ReadError.TheVariants.{TooLarge, Layout as Fails, Memory}
use Rattle.nl_frame.specs.Heads.{IsFirstFault, whole}
use Rattle.rtnl_c.proofs.Common.{Bounds, MessageVal, IfFault, written, ◌≡◌, ◌<◌, ◌↔◌, ℕ, IsTrue, Bool, List, length, Result, Ok, Err, IfOk, IfErr, refl, ReadError, Layout}
use Rattle.nl_frame.proofs.Within.{within}
use Rattle.rtnl_c.specs.Checked.{Checks, finds, no_memory, found}

module _ (b : Bounds) (d : List ℕ) where
  abbrev IsWritten : Bool → Type 0
  IsWritten canonical = (ms : List MessageVal) × Layout b.shape ms d × (IsTrue canonical ↔ written b.shape.order ms ≡ d)

  -- what a check answers of a datagram
  abbrev pub IsCheck : Result Bool ReadError → Type 0
  IsCheck r = (r ≡ Err TooLarge ↔ b.datagram < length d)
      × IfOk r IsWritten
      × IfErr r (λ e. IfFault e (λ f. IsFirstFault b.shape (whole d) f.place f.reason))

  pub checks_so : (r : Result Bool ReadError) → IsCheck r → Checks b d (found r)
  checks_so (Ok canonical) s = finds (Ok canonical) (within (Ok canonical) b.datagram (length d) s.0 (λ e. cc), s.1)
  checks_so (Err TooLarge) s = finds (Err TooLarge) (s.0.0 refl)
  checks_so (Err (Fails f)) s = finds (Err (Fails f)) (within (Err (Fails f)) b.datagram (length d) s.0 (λ e. cc), s.2)
  checks_so (Err Memory) s = no_memory
