-- What a scan finds of a datagram, in the words of its answer.
use Rattle.rtnl.proofs.Common.{◌≡◌, ◌<◌, ◌≤◌, ◌⊎◌, inl, inr, ℕ, ◌+◌, ◌-◌, ◌*◌, ◌/◌, ◌∙◌, ◌++◌, List, length, take, drop, ap, arith, Option, Some, None, Result, Ok, Err, IfOk, IfErr, refl, sym, subst, cases_lt, take-append_seam, Event, IsFirstFault, whole, Layout, Bounds, MessageVal, Answer, Answers, AreEvents, IsAboutItsHead, IsRefusalOf, refusal_in}
use Rattle.std.proofs.lemmas.List.{take_all}
use Rattle.nl_attr.specs.HeadOrder.{put_from}
use Rattle.nl_attr.specs.declared.fault.Tally.{Tally}
use Rattle.nl_frame.specs.declared.scanning.ScanError.{ScanError}
use Rattle.nl_frame.specs.declared.scanning.ScanError.TheVariants.{TooLarge, Layout as Fails}
use Rattle.nl_frame.specs.declared.reading.ReadError.TheVariants as unread
use Rattle.nl_frame.specs.Broken.{IsBrokenHead}
use Rattle.nl_frame.specs.HeadOrder.{events_of}
use Rattle.nl_frame.specs.Outcomes.{IfFault}
use Rattle.nl_frame.specs.Scans.{ScansDatagram}
use Rattle.nl_frame.specs.Taped.{IfBroken, as_read}

module _ {X : Type 0} (b : Bounds) (d : List ℕ) (t : Tally X ScanError) (scans : ScansDatagram b d t) where
  -- what is not refused for its size is within the limit
  small : (r : Result X ScanError) → t.result ≡ r → (r ≡ Err TooLarge → ⊥) → length d ≤ b.datagram
  small r is other = by_case (cases_lt b.datagram (length d)) where
    by_case : (b.datagram < length d) ⊎ (length d ≤ b.datagram) → length d ≤ b.datagram
    by_case (inl less) = absurd (other (subst (λ (q : Result X ScanError). q ≡ Err TooLarge) is (scans.large.1 less)))
    by_case (inr fits) = fits

  -- accepted, it has a layout
  taped_ok : (x : X) → t.result ≡ Ok x → (a : Answer) × Answers b d a × IsRefusalOf a None
  taped_ok x is =
      let fits : (ms : List MessageVal) × Layout b.shape ms d = subst (λ (q : Result X ScanError). IfOk q (λ _. (ms : List MessageVal) × Layout b.shape ms d)) is scans.fits in
      (Ok fits.0, (small (Ok x) is (λ e. cc), fits.1), tt)

  -- refused, its first fault is that of the head
  taped_err : (e : ScanError) → t.result ≡ Err e → (a : Answer) × Answers b d a × IsRefusalOf a (Some e)
  taped_err TooLarge is = (Err unread.TooLarge, scans.large.0 is, refl)
  taped_err (Fails h) is =
      let first : IsFirstFault b.shape (whole d) h.fault.place h.fault.reason = subst (λ (q : Result X ScanError). IfErr (as_read q) (λ e. IfFault e (λ f. IsFirstFault b.shape (whole d) f.place f.reason))) is scans.first in
      (Err (unread.Layout h.fault), (small (Err (Fails h)) is (λ e. cc), first), refl)

  taped_by : (r : Result X ScanError) → t.result ≡ r → (a : Answer) × Answers b d a × IsRefusalOf a (refusal_in r)
  taped_by (Ok x) is = taped_ok x is
  taped_by (Err e) is = taped_err e is

  pub taped : (r : Result X ScanError) (o : Option ScanError) → r ≡ t.result → o ≡ refusal_in r → (a : Answer) × Answers b d a × IsRefusalOf a o
  taped r o same is = subst (λ (p : Option ScanError). (a : Answer) × Answers b d a × IsRefusalOf a p) (sym is) (taped_by r (sym same))

  head_by : (r : Result X ScanError) → t.result ≡ r → IsAboutItsHead b d (refusal_in r)
  head_by (Ok x) is = tt
  head_by (Err e) is = subst (λ (q : Result X ScanError). IfErr q (λ x. IfBroken x (IsBrokenHead b.shape (whole d)))) is scans.head

  pub head_of : (r : Result X ScanError) (o : Option ScanError) → r ≡ t.result → o ≡ refusal_in r → IsAboutItsHead b d o
  head_of r o same is = subst (IsAboutItsHead b d) (sym is) (head_by r (sym same))

-- ---- the events that a buffer has

-- a slice of a whole vector, once it is given back
pub given_back : (n : ℕ) (xs ys : List Event) → n ≡ length xs → take n (xs ++ ys) ≡ xs
given_back n xs ys e = ap (λ (m : ℕ). take m (xs ++ ys)) e ∙ take-append_seam xs ys

-- the events in a buffer that had room for all
all_put : (es old : List Event) → length es ≤ length old → take (length es) (put_from 0 es old) ≡ es
all_put es old room = ap (λ (xs : List Event). take (length es) (xs ++ drop (0 + length es) old)) (take_all (length old - 0) es (omega (arith, room))) ∙ take-append_seam es (drop (0 + length es) old)

-- what is kept, behind a scan that counted the events, of a buffer with a place for each four bytes
module _ (b : Bounds) (d : List ℕ) (count : ℕ) (old buffer kept : List Event) (size : length old ≡ length d / 4 + 1) (few : 4 * count ≤ length d) (cut : kept ≡ take count buffer) where
  pub events_kept : (b.datagram < length d → (count ≡ 0) × (buffer ≡ old)) → (length d ≤ b.datagram → buffer ≡ put_from 0 (events_of b.shape (whole d)) old) → (length d ≤ b.datagram → count ≡ length (events_of b.shape (whole d)))
      → AreEvents b d kept
  events_kept untouched put counted = (
    λ fits.
        let es = events_of b.shape (whole d) in
        cut ∙ ap (λ (n : ℕ). take n buffer) (counted fits) ∙ ap (λ (xs : List Event). take (length es) xs) (put fits) ∙ all_put es old (omega (arith, counted fits, size, few)),
    λ large. cut ∙ ap (λ (n : ℕ). take n buffer) (untouched large).0,
  )
