-- What the exact outcome of a reading and the answer of a scan say in the words of the layout.
use Rattle.nl_frame.proofs.Common.{◌≡◌, ◌≤◌, ℕ, List, length, map, Result, Ok, Err, IfOk, IfErr, sym, subst, arith, ◌<◌, ◌+◌, ◌*◌, ◌↔◌, Option, Some, None, IfSome, refl, ap, ◌∙◌, length-map, IsErrAnd, MatchResult, Fault, Reason, Event, BrokenHead, Taped, Shape, AreBytes, IsOutcome, Outcome, read_result, message_view, MessageVal, IsFirstFault, whole, events_of, event_of, trail_of, visits_of, Layout, Bounds, messages_of, IsBrokenHead, IsTaped, Ends, HasEnd, IfBroken, as_read}
use Rattle.std.specs.Global.{Vec}
use Rattle.nl_attr.specs.declared.fault.ListError.{ListError}
use Rattle.nl_attr.specs.declared.fault.ListError.TheVariants as unlisted
use Rattle.nl_attr.specs.declared.fault.Tally.{Tally}
use Rattle.nl_attr.specs.Scanned.{without}
use Rattle.nl_attr.specs.Broken.{fault_in}
use Rattle.nl_attr.specs.HeadOrder.{fault_of}
use Rattle.nl_attr.proofs.Lemmas.First.{end_of}
use Rattle.nl_attr.proofs.Lemmas.Scanned.{was_ok, was_err}
use Rattle.nl_frame.specs.declared.body.Message.{Message}
use Rattle.nl_frame.specs.declared.reading.ReadError.{ReadError}
use Rattle.nl_frame.specs.declared.reading.ReadError.TheVariants as read
use Rattle.nl_frame.specs.declared.scanning.ScanError.{ScanError}
use Rattle.nl_frame.specs.declared.scanning.ScanError.TheVariants.{TooLarge, Layout as Fails}
use Rattle.nl_frame.specs.Kept.{kept}
use Rattle.nl_frame.specs.Outcomes.{IfFault, VisitsUpTo, read_error}
use Rattle.nl_frame.specs.Scans.{ScansDatagram}
use Rattle.nl_frame.proofs.Firsts.{err_first, err_visits, ok_visits, reads}
use Rattle.nl_frame.proofs.Layouts.{messages_fit, messages_sound}
use Rattle.nl_frame.proofs.ProperLayouts.{layout_kept}

module _ (S : Shape) (d : List ℕ) where
  -- the answer of a call, where the datagram isn't too large, is this outcome
  abbrev pub Answers : Result (Vec Message) ReadError → ℕ → Type 0
  Answers (Ok list) v = messages_of S 0 d ≡ (Ok (map message_view list.items), v)
  Answers (Err read.TooLarge) v = ⊥
  Answers (Err (read.Layout f)) v = messages_of S 0 d ≡ (Err f, v)
  Answers (Err read.Memory) v = Unit {0}

  -- each refusal is made into one of a datagram
  pub answers : (r : Result (Vec Message) ListError) (s : Result (Vec Message) ReadError) (v w : ℕ) → MatchResult r (λ x. s ≡ Ok x) (λ e. IsErrAnd s (λ f. f ≡ read_error e)) → w ≡ v
      → IsOutcome (λ (x : Vec Message). map message_view x.items) r v (messages_of S 0 d) → Answers s w
  answers (Ok x) s v w m e o = subst (λ y. Answers y w) (sym m) (subst (Answers (Ok x)) (sym e) o)
  answers (Err g) (Ok y) v w m e o = absurd m
  answers (Err (unlisted.Layout g)) (Err f) v w m e o = subst (λ y. Answers (Err y) w) (sym m) (subst (Answers (Err (read.Layout g))) (sym e) o)
  answers (Err unlisted.Memory) (Err f) v w m e o = subst (λ y. Answers (Err y) w) (sym m) tt

  pub ok_fits : (ms : List MessageVal) (v : ℕ) → AreBytes d → messages_of S 0 d ≡ (Ok ms, v) → Layout S ms d
  ok_fits ms v fits e = messages_sound S (length d) 0 d ms v (omega arith) fits e

  pub err_none : (f : Fault) (v : ℕ) → messages_of S 0 d ≡ (Err f, v) → (ms : List MessageVal) → Layout S ms d → ⊥
  err_none f v e ms l = let same = read_result _ ms _ v (messages_fit S ms 0 d l) e in cc

  -- what it says of the layout
  pub record IsAnswer (r : Result (Vec Message) ReadError) (v : ℕ) : Type 0 where
    pub fits : IfOk r (λ x. Layout S (map message_view x.items) d)
    pub only : IfOk r (λ x. (ms : List MessageVal) → Layout S ms d → ms ≡ map message_view x.items)
    pub first : IfErr r (λ e. IfFault e (λ f. IsFirstFault S (whole d) f.place f.reason))
    pub none : IfErr r (λ e. IfFault e (λ _. (ms : List MessageVal) → Layout S ms d → ⊥))
    pub visits : VisitsUpTo S d r v
    pub kept : IfOk r (λ x. kept (map message_view x.items) ≤ length d)

  pub answered : (r : Result (Vec Message) ReadError) (v : ℕ) → AreBytes d → Answers r v → IsAnswer r v
  answered (Ok x) v fits e =
      let f = ok_fits (map message_view x.items) v fits e in
      record {
        fits = f;
        only = λ ms l. let same = read_result _ ms _ v (messages_fit S ms 0 d l) e in cc;
        first = tt;
        none = tt;
        visits = ok_visits S d (map message_view x.items) v e;
        kept = layout_kept S (map message_view x.items) d f;
      }
  answered (Err (read.Layout f)) v fits e = record {
    fits = tt;
    only = tt;
    first = err_first S d f v e;
    none = err_none f v e;
    visits = err_visits S d f v e;
    kept = tt;
  }
  answered (Err read.TooLarge) v fits e = absurd e
  answered (Err read.Memory) v fits e = record { fits = tt; only = tt; first = tt; none = tt; visits = tt; kept = tt }

-- ---- a scan

-- how a reading ends that meets this fault, or none
abbrev ends_with : Option Fault → Result (Unit {0}) Fault
ends_with None = Ok tt
ends_with (Some f) = Err f

end_is : (e : Option (ℕ × Reason)) → end_of e ≡ ends_with (fault_of e)
end_is None = refl
end_is (Some f) = refl

says : {Y : Type 0} (r : Result (Unit {0}) ScanError) (v m : ℕ) (x : Option BrokenHead) (o : Outcome Y) → without o ≡ (ends_with (fault_in x), m) → Ends x r → v ≡ m → HasEnd r v o
says (Ok y) v m None o w i j = w ∙ ap (λ (k : ℕ). (Ok tt, k)) (sym j)
says (Ok y) v m (Some b) o w i j = absurd i
says (Err y) v m None o w i j = absurd i
says (Err TooLarge) v m (Some b) o w i j = absurd (let y : TooLarge ≡ Fails b = i in cc)
says (Err (Fails c)) v m (Some b) o w i j = let y : Fails c ≡ Fails b = i in let z : c ≡ b = cc in w ∙ rw (z, j) refl

-- what holds of the head at which a scan ended, holds of the head that it answers
pub head_is : (r : Result (Unit {0}) ScanError) (x : Option BrokenHead) (P : BrokenHead → Type 0) → Ends x r → IfSome x P → IfErr r (λ e. IfBroken e P)
head_is (Ok u) x P i h = tt
head_is (Err y) None P i h = absurd i
head_is (Err TooLarge) (Some b) P i h = tt
head_is (Err (Fails c)) (Some b) P i h = let y : Fails c ≡ Fails b = i in let z : c ≡ b = cc in subst P (sym z) h

module _ (S : Shape) (d : List ℕ) where
  -- an answer of the events of the heads ends as a reading does
  pub says_so : (old new : List Event) (t : Taped) (r : Result (Unit {0}) ScanError) → IsTaped S (trail_of S (whole d)) 0 old new t → Ends t.broken r → HasEnd r t.visits (messages_of S 0 d)
  says_so old new t r is ends =
      let o = trail_of S (whole d) in
      says r t.visits (visits_of S o.0) t.broken (messages_of S 0 d)
      (reads S d ∙ ap (λ (e : Result (Unit {0}) Fault). (e, visits_of S o.0)) (end_is o.1 ∙ ap ends_with (sym is.fault))) ends is.visits

  -- and so many heads are counted
  pub count_of : (old new : List Event) (t : Taped) → IsTaped S (trail_of S (whole d)) 0 old new t → t.count ≡ length (events_of S (whole d))
  count_of old new t is = omega (arith, is.counted, length-map (trail_of S (whole d)).0 (event_of S.order))

  module _ {X : Type 0} where
    -- some list is the layout
    pub fits_of : (r : Result X ScanError) (v : ℕ) → AreBytes d → HasEnd r v (messages_of S 0 d) → IfOk r (λ _. (ms : List MessageVal) × Layout S ms d)
    fits_of (Err f) v b w = tt
    fits_of (Ok x) v b w = let o = was_ok (messages_of S 0 d) v w in (o.0, ok_fits S d o.0 v b o.1)

    -- the fault is the first
    pub first_of : (r : Result X ScanError) (v : ℕ) → HasEnd r v (messages_of S 0 d) → IfErr (as_read r) (λ e. IfFault e (λ f. IsFirstFault S (whole d) f.place f.reason))
    first_of (Ok x) v w = tt
    first_of (Err TooLarge) v w = tt
    first_of (Err (Fails b)) v w = err_first S d b.fault v (was_err (messages_of S 0 d) b.fault v w)

    -- no list is the layout
    pub none_of : (r : Result X ScanError) (v : ℕ) → HasEnd r v (messages_of S 0 d) → IfErr (as_read r) (λ e. IfFault e (λ _. (ms : List MessageVal) → Layout S ms d → ⊥))
    none_of (Ok x) v w = tt
    none_of (Err TooLarge) v w = tt
    none_of (Err (Fails b)) v w = err_none S d b.fault v (was_err (messages_of S 0 d) b.fault v w)

    -- the visits are those up to the end
    pub visits_of_scan : (r : Result X ScanError) (v : ℕ) → HasEnd r v (messages_of S 0 d) → VisitsUpTo S d (as_read r) v
    visits_of_scan (Ok x) v w = let o = was_ok (messages_of S 0 d) v w in ok_visits S d o.0 v o.1
    visits_of_scan (Err TooLarge) v w = absurd w
    visits_of_scan (Err (Fails b)) v w = err_visits S d b.fault v (was_err (messages_of S 0 d) b.fault v w)

    -- it isn't refused for its size
    not_large : (r : Result X ScanError) (v : ℕ) → HasEnd r v (messages_of S 0 d) → r ≡ Err TooLarge → ⊥
    not_large r v w e = subst (λ (x : Result X ScanError). HasEnd x v (messages_of S 0 d)) e w

    pub large_of : (r : Result X ScanError) (v n : ℕ) → HasEnd r v (messages_of S 0 d) → (n < length d → ⊥) → r ≡ Err TooLarge ↔ n < length d
    large_of r v n w f = (λ e. absurd (not_large r v w e), λ h. absurd (f h))

module _ (b : Bounds) (d : List ℕ) where
  -- what a scan answers of a datagram within the limit that ends as a reading does
  pub scans : {X : Type 0} (t : Tally X ScanError) → AreBytes d → (b.datagram < length d → ⊥) → HasEnd t.result t.visits (messages_of b.shape 0 d) → IfErr t.result (λ e. IfBroken e (IsBrokenHead b.shape (whole d))) → t.visits ≤ (b.shape.depth + 1) * length d → ScansDatagram b d t
  scans t fits small e head bound = record {
    large = large_of b.shape d t.result t.visits b.datagram e small;
    outcome = λ _. e;
    fits = fits_of b.shape d t.result t.visits fits e;
    first = first_of b.shape d t.result t.visits e;
    head = head;
    none = none_of b.shape d t.result t.visits e;
    visits = visits_of_scan b.shape d t.result t.visits e;
    bound = bound;
  }
