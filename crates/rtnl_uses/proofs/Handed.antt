-- The events that a stream hands out stand at the front of the buffer.
use Rattle.std.proofs.Common.{◌≡◌, ◌==◌, ◌&&◌, nat_eq, if◌then◌else◌, Some, None, ◌+◌, ◌-◌, ◌≤◌, ℕ, zero, suc, Bool, true, false, List, [], ◌∷◌, ◌++◌, length, take, drop, count_by, get_or, ap, ◌∙◌, arith, length-append, length-drop, length-take}
use Rattle.std.specs.Option.{option_eq}
use Rattle.std.proofs.Math.Seq.{take-length, take-append_seam}
use Rattle.std.proofs.lemmas.List.{take_all, take_more}
use Rattle.nl_attr.specs.declared.events.Event.{Event}
use Rattle.nl_attr.specs.Shape.{Shape}
use Rattle.nl_attr.specs.HeadOrder.{put_from}
use Rattle.nl_attr.specs.Views.{first_number}
use Rattle.nl_attr.specs.declared.order.Order.{Order}
use Rattle.nl_route.specs.Route.{RTA_OIF}
use Rattle.nl_frame.specs.HeadOrder.{events_of}
use Rattle.nl_frame.specs.Heads.{whole}
use Rattle.nl_frame.specs.Layout.{Layout}
use Rattle.nl_frame.specs.Message.{MessageVal}
use Rattle.nl_dump.specs.declared.dump.Dump.{Dump}
use Rattle.nl_dump.specs.declared.standing.Standing.{Standing}
use Rattle.nl_dump.specs.Handed.{item_events}
use Rattle.nl_dump.specs.Events.{no_counts, step, counts_of, keeping, kept}
use Rattle.nl_dump.specs.Streams.{AreHanded}
use Rattle.nl_dump.proofs.Sieve.{no_event, kept-append}
use Rattle.nl_dump.proofs.Walked.{look, counts_all}

-- ---- they are no more than all heads

keeping_low : (b : Bool) (e : Event) → length (keeping b e []) ≤ 1
keeping_low true e = omega arith
keeping_low false e = omega arith

module _ (S : Shape) (d : Dump) (bytes : List ℕ) (es : List Event) where
  -- of so many events no more are kept
  kept_low : (i : ℕ) → i ≤ length es → length (kept (look S d bytes) no_counts (take i es)) ≤ i
  kept_low zero low = omega arith
  kept_low (suc i) low =
      let e = get_or es i no_event in
      let some = take i es in
      let before = counts_of (look S d bytes) no_counts some in
      let more : take (suc i) es ≡ some ++ e ∷ [] = ap (λ n. take n es) {x = suc i} {y = i + 1} (omega arith) ∙ take_more es i no_event (omega (arith, low)) in
      let all = ap (kept (look S d bytes) no_counts) more ∙ kept-append (look S d bytes) no_counts some (e ∷ []) in
      let one = keeping_low (step (look S d bytes) before e).keeps e in
      let many = length-append (kept (look S d bytes) no_counts some) (kept (look S d bytes) before (e ∷ [])) in
      omega (arith, ap (length {A = Event}) all, many, one, kept_low i (omega (arith, low)))

handed_low : (S : Shape) (d : Dump) (ms : List MessageVal) (bytes : List ℕ) → Layout S ms bytes → length (item_events S d ms bytes) ≤ length (events_of S (whole bytes))
handed_low S d ms bytes f =
    let es = events_of S (whole bytes) in
    let low = kept_low S d bytes es (length es) (omega arith) in
    let all = ap (kept (look S d bytes) no_counts) (take-length es) ∙ (counts_all S d bytes ms f).1 in
    omega (arith, low, ap (length {A = Event}) all)

-- ---- where they stand

put_length : (es old : List Event) → length (put_from 0 es old) ≡ length old
put_length es old =
    omega (arith, length-append (take (length old - 0) es) (drop (0 + length es) old), length-take (length old - 0) es, length-drop (0 + length es) old)

-- what was put into a buffer that is long enough stands there
taken_back : (es old : List Event) → length es ≤ length old → take (length es) (put_from 0 es old) ≡ es
taken_back es old h =
    ap (λ l. take (length es) (l ++ drop (0 + length es) old)) (take_all (length old - 0) es (omega (arith, h)))
    ∙ take-append_seam es (drop (0 + length es) old)

module _ (s : Standing) (d : Dump) (bytes : List ℕ) (ms : List MessageVal) (old new : List Event) (n : ℕ) (fits : Layout s.limits.shape ms bytes) (handed : AreHanded d bytes ms s old new n) where
  short : length (item_events s.limits.shape d ms bytes) ≤ length old
  short = omega (arith, handed_low s.limits.shape d ms bytes fits, handed.room)

  pub within : n ≤ length new
  within =
      let all = events_of s.limits.shape (whole bytes) in
      omega (arith, short, handed.count, ap (length {A = Event}) handed.events, put_length (item_events s.limits.shape d ms bytes) (put_from 0 all old), put_length all old)

  -- so many at the front of the buffer are those of the items
  pub stand : take n new ≡ item_events s.limits.shape d ms bytes
  stand =
      let es = item_events s.limits.shape d ms bytes in
      let mid = put_from 0 (events_of s.limits.shape (whole bytes)) old in
      ap (λ m. take m new) handed.count ∙ ap (take (length es)) handed.events
      ∙ taken_back es mid (omega (arith, short, put_length (events_of s.limits.shape (whole bytes)) old))

-- ---- what is counted

-- the attribute of a route that names this interface
abbrev pub names : List ℕ → ℕ → Order → Event → Bool
names bytes interface o e = option_eq nat_eq (if (e.level == 0) && (e.number == RTA_OIF) then first_number o 4 (Some (take e.len (drop (e.place + 4) bytes))) else None) (Some interface)

-- all events were gone over, in the order of the stream
pub counted_all : (bytes : List ℕ) (interface : ℕ) (o p : Order) (i count : ℕ) (es fs : List Event) → count ≡ count_by (names bytes interface o) (take i es) → length es ≤ i → es ≡ fs → o ≡ p
    → count ≡ count_by (names bytes interface p) fs
counted_all bytes interface o p i count es fs so all same order =
    so ∙ ap (count_by (names bytes interface o)) (take_all i es all ∙ same) ∙ ap (λ q. count_by (names bytes interface q) fs) order
