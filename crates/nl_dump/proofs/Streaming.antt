-- One datagram of a stream, from what a scan finds of it to what the stream becomes.
use Rattle.nl_dump.proofs.Common.{◌≡◌, ◌↔◌, ℕ, ◌+◌, ◌*◌, ◌-◌, ◌<◌, ◌≤◌, ◌||◌, Bool, true, false, cond, ℤ, pos, List, [], ◌∷◌, ◌++◌, length, take, drop, Option, Some, None, is_some, Result, Ok, Err, IfOk, IfErr, refl, sym, ap, ◌∙◌, subst, arith, length-append, take_all, take-append_seam, mul-add, AreBytes, Event, Shape, put_from, IsFirstFault, Visits, whole, Layout, Bounds, AreLimits, BodyVal, error, done, MessageVal, IfFault, VisitsUpTo, the_list, within, Dump, End, Error, Waiting, Taken, Counts, Standing, belongs, body_end, end_in, end_of, or_later, state_by, no_counts, counts_of, kept, IsRealEnd, IsReached, IsPossible, CanLook, all_events, IsSummaryOf, AreCounts, ReadsEvents, scan_refusal, is_room, taken_by, taken_of, IsStreamed, StreamFed, StaysAnswer, IsStreamAnswered, EveryStreamed, refused_by}
use Rattle.std.specs.Ordering.{int_eq}
use Rattle.nl_frame.specs.declared.scanning.ScanError.{ScanError}
use Rattle.nl_frame.specs.declared.scanning.ScanError.TheVariants as scan
use Rattle.nl_frame.specs.Taped.{as_read}
use Rattle.nl_frame.specs.HeadOrder.{events_of}
use Rattle.nl_dump.specs.declared.dump.State.{State}
use Rattle.nl_dump.specs.declared.dump.Streamed.{Streamed}
use Rattle.nl_dump.specs.declared.errors.StreamError.{StreamError}
use Rattle.nl_dump.specs.declared.errors.StreamError.TheVariants.{NotWaiting, Total, TooLarge, Layout as Fault, Room}
use Rattle.nl_dump.specs.Handed.{item_events}
use Rattle.nl_dump.proofs.Feeding.{waits}
use Rattle.nl_dump.proofs.Sieve.{counts-events}
use Rattle.nl_dump.proofs.Walked.{look, counts_all}

-- each message has a byte or more
pub messages_few : (S : Shape) (ms : List MessageVal) (d : List ℕ) → Layout S ms d → length ms ≤ length d
messages_few S [] d f = omega arith
messages_few S (m ∷ ms) d f = omega (arith, messages_few S ms f.2 f.6, f.3.least, ap (length {A = ℕ}) f.3.parts, length-append f.0 (f.1 ++ f.2), length-append f.1 f.2)

-- what was put into a buffer that is long enough stands there
taken_back : (es old : List Event) → length es ≤ length old → take (length es) (put_from 0 es old) ≡ es
taken_back es old h =
    ap (λ n. take (length es) (take n es ++ drop (0 + length es) old)) (less (length old))
    ∙ ap (λ l. take (length es) (l ++ drop (0 + length es) old)) (take_all (length old) es h)
    ∙ take-append_seam es (drop (0 + length es) old)
  where
    less : (n : ℕ) → n - 0 ≡ n
    less n = omega arith

-- what was found of all messages is their summary
pub summary : (d : Dump) (ms : List MessageVal) (s : Counts) → AreCounts d ms s → IsSummaryOf d ms (taken_of s)
summary d ms s so = (
  (so.items, omega (arith, so.sums.ignored_is), ap is_some so.sums.end_is),
  so.sums.interrupted_is,
  so.sums.end_is,
)

-- no more items or others than messages
pub few_found : (d : Dump) (ms : List MessageVal) (s : Counts) → AreCounts d ms s → (s.items ≤ length ms) × (s.ignored ≤ length ms)
few_found d ms s so = (omega (arith, so.items, so.sums.ignored_is), omega (arith, so.sums.ignored_is))

-- ---- what is left in the buffer

module _ (b : Bounds) (d : Dump) (bytes : List ℕ) (old : List Event) where
  -- what a scan found, and what was sifted of it
  pub record IsSifted (s : Counts) (visits : ℕ) (new : List Event) : Type 0 where
    pub within : length bytes ≤ b.datagram
    pub messages : List MessageVal
    pub layout : Layout b.shape messages bytes
    pub visited : Visits b.shape (whole bytes) (length bytes) visits
    pub counts : AreCounts d messages s
    pub room : length (all_events b d bytes old) ≤ length old
    pub events : new ≡ put_from 0 (item_events b.shape d messages bytes) (put_from 0 (all_events b d bytes old) old)
    pub count : s.events ≡ length (item_events b.shape d messages bytes)

  pub is_sifted : (r : Result (Unit {0}) ScanError) (n visits : ℕ) (s : Counts) (mid new : List Event) → r ≡ Ok tt → (r ≡ Err scan.TooLarge) ↔ (b.datagram < length bytes)
      → IfOk r (λ _. (ms : List MessageVal) × Layout b.shape ms bytes) → VisitsUpTo b.shape bytes (as_read r) visits → (length bytes ≤ b.datagram → n ≡ length (events_of b.shape (whole bytes)))
      → (length bytes ≤ b.datagram → mid ≡ put_from 0 (events_of b.shape (whole bytes)) old) → length mid ≡ length old → n ≤ length mid
      → s ≡ counts_of (look b.shape d bytes) no_counts (take n mid) → new ≡ put_from 0 (kept (look b.shape d bytes) no_counts (take n mid)) mid → IsSifted s visits new
  is_sifted r n visits s mid new is large fits visited counts put len room found events =
      let fit = subst (λ r. IfOk r (λ _. (ms : List MessageVal) × Layout b.shape ms bytes)) is fits in
      let es = events_of b.shape (whole bytes) in
      let low : length bytes ≤ b.datagram = within r b.datagram (length bytes) large (λ e. let k = is in cc) in
      let many : n ≡ length es = counts low in
      let enough : length es ≤ length old = omega (arith, many, len, room) in
      let all : take n mid ≡ es = ap (λ k. take k mid) many ∙ ap (take (length es)) (put low) ∙ taken_back es old enough in
      let so = counts_all b.shape d bytes fit.0 fit.1 in
      let here : s ≡ counts_of (look b.shape d bytes) no_counts es = found ∙ ap (counts_of (look b.shape d bytes) no_counts) all in
      record {
        within = low;
        messages = fit.0;
        layout = fit.1;
        visited = subst (λ r. VisitsUpTo b.shape bytes (as_read r) visits) is visited;
        counts = subst (AreCounts d fit.0) (sym here) so.0;
        room = enough;
        events = events ∙ ap (λ l. put_from 0 (kept (look b.shape d bytes) no_counts l) mid) all ∙ ap (λ l. put_from 0 l mid) so.1 ∙ ap (put_from 0 (item_events b.shape d fit.0 bytes)) (put low);
        count = ap (λ (x : Counts). x.events) here ∙ counts-events (look b.shape d bytes) no_counts es ∙ omega (arith, ap (length {A = Event}) so.1);
      }

  module _ (s : Counts) (visits : ℕ) (new : List Event) (is : IsSifted s visits new) where
    -- no more items or others than bytes
    pub few_items : s.items ≤ length bytes
    few_items = omega (arith, (few_found d is.messages s is.counts).0, messages_few b.shape is.messages bytes is.layout)

    pub few_ignored : s.ignored ≤ length bytes
    few_ignored = omega (arith, (few_found d is.messages s is.counts).1, messages_few b.shape is.messages bytes is.layout)

    pub reads_ok : ReadsEvents b d bytes old (Ok (record { taken = taken_of s; events = s.events })) visits new
    reads_ok = (
      is.within,
      (
        is.messages,
        is.layout,
        is.visited,
        summary d is.messages s is.counts,
        is.room,
        is.events,
        is.count,
      ),
    )

  pub reads_err : (r : Result (Unit {0}) ScanError) (e : ScanError) (visits : ℕ) (new : List Event) → r ≡ Err e → (r ≡ Err scan.TooLarge) ↔ (b.datagram < length bytes)
      → IfErr (as_read r) (λ e. IfFault e (λ f. IsFirstFault b.shape (whole bytes) f.place f.reason)) → VisitsUpTo b.shape bytes (as_read r) visits
      → (b.datagram < length bytes → new ≡ old) → (length bytes ≤ b.datagram → new ≡ put_from 0 (events_of b.shape (whole bytes)) old) → ReadsEvents b d bytes old (Err (scan_refusal e)) visits new
  reads_err r scan.TooLarge visits new is large first visited untouched put =
      let low = large.0 is in
      (low, subst (λ r. VisitsUpTo b.shape bytes (as_read r) visits) is visited, untouched low)
  reads_err r (scan.Layout f) visits new is large first visited untouched put =
      let low : length bytes ≤ b.datagram = within r b.datagram (length bytes) large (λ e. let k = is in cc) in (
        low,
        subst (λ r. IfErr (as_read r) (λ e. IfFault e (λ f. IsFirstFault b.shape (whole bytes) f.place f.reason))) is first,
        subst (λ r. VisitsUpTo b.shape bytes (as_read r) visits) is visited,
        put low,
      )

-- ---- what the stream becomes

-- the end of messages is a real one
abbrev pub IsReal : Option End → Type 0
IsReal None = Unit {0}
IsReal (Some e) = IsRealEnd e

error_real : (z : ℤ) → IsReal (cond (int_eq z (pos 0)) None (Some (Error z)))
error_real z = by (int_eq z (pos 0)) refl
  where
    by : (b : Bool) → int_eq z (pos 0) ≡ b → IsReal (cond b None (Some (Error z)))
    by true e = tt
    by false e = λ h. let x : true ≡ false = sym (ap (λ y. int_eq y (pos 0)) h) ∙ e in cc

body_real : (c : BodyVal) → IsReal (body_end c)
body_real (error code h tail) = error_real code
body_real (done None tail) = tt
body_real (done (Some z) tail) = tt
body_real c = tt

end_real : (d : Dump) (ms : List MessageVal) → IsReal (end_of d ms)
end_real d [] = tt
end_real d (m ∷ ms) = later (end_in d m) (one (belongs d m)) (end_real d ms)
  where
    one : (b : Bool) → IsReal (cond b (body_end m.body) None)
    one true = body_real m.body
    one false = tt

    later : (x : Option End) → IsReal x → IsReal (end_of d ms) → IsReal (or_later x (end_of d ms))
    later (Some e) h k = h
    later None h k = k

reached_by : (d : Dump) (e : Option End) (s : Standing) → IsReal e → IsReached (state_by d e) s
reached_by d None s h = tt
reached_by d (Some e) s h = h

-- a stream waits, and a datagram is within its total limit
pub record Admits (d : Dump) (bytes : List ℕ) (s : Standing) : Type 0 where
  pub waiting : s.state ≡ Waiting d
  pub total : s.received + length bytes ≤ s.limits.total
  pub possible : IsPossible s

pub admits : (d : Dump) (bytes : List ℕ) (s t : Standing) → t ≡ s → s.state ≡ Waiting d → s.received + length bytes ≤ s.limits.total → IsPossible s → Admits d bytes t
admits d bytes s t same waiting total possible = subst (Admits d bytes) (sym same) (record { waiting = waiting; total = total; possible = possible })

module _ (s : Standing) (bytes : List ℕ) (d : Dump) (state : s.state ≡ Waiting d) (total : s.received + length bytes ≤ s.limits.total) where
  pub can : length bytes ≤ s.limits.datagram → CanLook s bytes
  can h = record { waiting = waits s.state d state; total = total; datagram = h }

  -- what the stream becomes by what it takes
  pub streams : (t : Taken) (n : ℕ) (ms : List MessageVal) → Layout s.limits.shape ms bytes → Visits s.limits.shape (whole bytes) (length bytes) n → IsSummaryOf d ms t → IsStreamed d bytes ms n s (taken_by s d (length bytes) n t)
  streams t n ms layout visited is = record {
    waiting = state;
    layout = layout;
    visited = visited;
    rest = λ i. record s { state = state_by d (is.2 i); ignored = s.ignored + is.0.1 i; visits = s.visits + n; received = s.received + length bytes; interrupted = s.interrupted || is.1 i };
  }

  module _ (p : IsPossible s) (n : ℕ) (few : n ≤ (s.limits.shape.depth + 1) * length bytes) where
    visits_low : s.visits + n ≤ (s.limits.shape.depth + 1) * (s.received + length bytes)
    visits_low = omega (arith, mul-add (s.limits.shape.depth + 1) s.received (length bytes), p.visits, few)

    pub possible_taken : (t : Taken) (ms : List MessageVal) → t.progress.ignored ≤ length bytes → IsSummaryOf d ms t → IsPossible (taken_by s d (length bytes) n t)
    possible_taken t ms low is =
        record {
          limits = p.limits;
          visits = visits_low;
          received = total;
          ignored = omega (arith, p.ignored, low);
          reached = reached_by d t.end _ (subst IsReal (sym is.2) (end_real d ms));
        }

    pub possible_refused : IsPossible (refused_by s (length bytes) n)
    possible_refused = record { limits = p.limits; visits = visits_low; received = total; ignored = omega (arith, p.ignored); reached = reached_waiting s.state state }
      where
        reached_waiting : (x : State) → x ≡ Waiting d → IsReached x (refused_by s (length bytes) n)
        reached_waiting x e = subst (λ x. IsReached x (refused_by s (length bytes) n)) (sym e) tt

  module _ (old : List Event) where
    pub fed_err : (e : StreamError) (n : ℕ) (new : List Event) → is_room e ≡ false → ReadsEvents s.limits d bytes old (Err e) n new
        → StreamFed s bytes old (Err e) (refused_by s (length bytes) n) new
    fed_err TooLarge n new r h = (waits s.state d state, total, h.0, λ i. refused_by s (length bytes) (h.1 i), h.2)
    fed_err (Fault f) n new r h = (can h.0, h.1, (n, h.2, refl), h.3)
    fed_err (Room m) n new r h = cc
    fed_err e n new r h = absurd h

-- ---- every datagram

pub stays : (s t u : Standing) (bytes : List ℕ) (old : List Event) → t ≡ u → StaysAnswer s bytes old u → StaysAnswer s bytes old t
stays s t u bytes old e h = subst (StaysAnswer s bytes old) (sym e) h

answered : (r : Result Streamed StreamError) (s t : Standing) (bytes : List ℕ) (old new : List Event) → AreLimits s.limits → AreBytes bytes → StreamFed s bytes old r t new → IsStreamAnswered s bytes old r t
answered (Ok x) s t bytes old new limits fit h = (h.1.1, the_list s.limits bytes h.1.1 limits fit h.0.datagram h.1.3.layout)
answered (Err NotWaiting) s t bytes old new limits fit h = h.1
answered (Err Total) s t bytes old new limits fit h = stays s t _ bytes old h.2 (record { state = refl; ignored = refl; interrupted = refl })
answered (Err TooLarge) s t bytes old new limits fit h = stays s t _ bytes old h.3 (record { state = refl; ignored = refl; interrupted = refl })
answered (Err (Fault f)) s t bytes old new limits fit h = (h.1, stays s t _ bytes old h.2.2 (record { state = refl; ignored = refl; interrupted = refl }))
answered (Err (Room n)) s t bytes old new limits fit h = h.4

pub every : (r : Result Streamed StreamError) (s t : Standing) (bytes : List ℕ) (old new : List Event) → t.limits ≡ s.limits → AreBytes bytes → IsPossible t → StreamFed s bytes old r t new → EveryStreamed s bytes old r t
every r s t bytes old new same fit p h = record { visits = p.visits; answer = answered r s t bytes old new (subst AreLimits same p.limits) fit h }
