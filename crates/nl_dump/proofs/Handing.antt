-- The items of a datagram that is read, from its messages to what the stream becomes.
use Rattle.nl_dump.proofs.Common.{◌≡◌, ◌↔◌, ℕ, ◌+◌, ◌*◌, ◌<◌, ◌≤◌, Bool, true, false, cond, if◌then◌else◌, List, [], ◌∷◌, ◌++◌, length, map, filter_map, take, drop, get_or, set, Option, Some, None, is_some, Result, Ok, Err, refl, sym, ap, ◌∙◌, subst, arith, filter, SwappedAt, filter-append, AreBytes, IsFirstFault, whole, Bounds, AreLimits, MessageVal, IfFault, VisitsUpTo, the_list, within, Dump, End, Waiting, FeedError, Counts, Standing, item_in, end_in, end_of, up_to_end, one_if, Picks, AreCounts, is_marked, role_of, role_for, Item, item_messages, MessagesBringItems, StreamRead, IsReadAnswered, EveryRead, judge, IsPossible, refused_by}
use Rattle.std.proofs.lemmas.List.{append-nil, length-set, map-append, take_more, take_all, drop_more, take-set-le, drop-set-lt}
use Rattle.std.proofs.lemmas.List.Sums.{count_by-le-length, length-filter}
use Rattle.nl_frame.specs.declared.reading.ReadError.{ReadError}
use Rattle.nl_frame.specs.declared.reading.ReadError.TheVariants as read
use Rattle.nl_dump.specs.declared.dump.ItemsRead.{ItemsRead}
use Rattle.nl_dump.specs.declared.errors.FeedError.TheVariants as feed
use Rattle.nl_dump.specs.Codes.{read_error}
use Rattle.nl_dump.proofs.Counting.{up_to_end-more, up_to_end-behind, up_to_end-one}
use Rattle.nl_dump.proofs.Courses.{end_no_item}
use Rattle.nl_dump.proofs.Feeding.{waits}
use Rattle.nl_dump.proofs.Streaming.{can, stays}
use Rattle.nl_dump.proofs.Walked.{judge_counts}

-- ---- the messages that are items

-- each brings one
bring : (d : Dump) (ms : List MessageVal) → map (item_in d) (filter (λ m. is_some (item_in d m)) ms) ≡ map Some (filter_map (item_in d) ms)
bring d [] = refl
bring d (m ∷ ms) = by (item_in d m) refl (bring d ms)
  where
    by : (o : Option Item) → item_in d m ≡ o → map (item_in d) (filter (λ m. is_some (item_in d m)) ms) ≡ map Some (filter_map (item_in d) ms)
        → map (item_in d) (filter (λ m. is_some (item_in d m)) (m ∷ ms)) ≡ map Some (filter_map (item_in d) (m ∷ ms))
    by None e h = rw e h
    by (Some x) e h = rw e (rw e (ap (λ l. Some x ∷ l) h))

pub bring_items : MessagesBringItems
bring_items d ms = bring d (up_to_end d ms)

-- one more message
module _ (d : Dump) (ms : List MessageVal) (m : MessageVal) where
  messages_behind : is_some (end_of d ms) ≡ true → item_messages d (ms ++ m ∷ []) ≡ item_messages d ms
  messages_behind closed = ap (filter (λ m. is_some (item_in d m))) (up_to_end-behind d ms (m ∷ []) closed)

  messages_more : is_some (end_of d ms) ≡ false → item_messages d (ms ++ m ∷ []) ≡ item_messages d ms ++ cond (is_some (item_in d m)) (m ∷ []) []
  messages_more open_ =
      ap (filter (λ m. is_some (item_in d m))) (up_to_end-more d ms (m ∷ []) open_)
      ∙ filter-append (λ m. is_some (item_in d m)) (up_to_end d ms) (up_to_end d (m ∷ []))
      ∙ ap (λ l. item_messages d ms ++ filter (λ m. is_some (item_in d m)) l) (up_to_end-one d m)

  module _ (s : Counts) (so : AreCounts d ms s) where
    abbrev judged : Counts
    judged = judge s.end (role_for d m) (is_marked m.flags) s

    -- it is kept where it is an item before the end, and counted then
    abbrev IsKept : Counts → Type 0
    IsKept t = (item_messages d (ms ++ m ∷ []) ≡ item_messages d ms ++ cond t.keeps (m ∷ []) []) × (t.items ≡ s.items + one_if t.keeps)

    pub kept_so : IsKept judged
    kept_so = by s.end refl
      where
        apart : (x : Option End) (y : Option Item) → end_in d m ≡ x → item_in d m ≡ y → is_some (end_of d ms) ≡ false → IsKept (judge None (role_of x (is_some y)) (is_marked m.flags) s)
        apart (Some f) y e i h = (messages_more h ∙ rw (end_no_item d m (ap is_some e)) refl, omega arith)
        apart None (Some x) e i h = (messages_more h ∙ rw i refl, omega arith)
        apart None None e i h = (messages_more h ∙ rw i refl, omega arith)

        by : (o : Option End) → s.end ≡ o → IsKept (judge o (role_for d m) (is_marked m.flags) s)
        by (Some f) e = (messages_behind (ap is_some (sym so.sums.end_is ∙ e)) ∙ sym (append-nil (item_messages d ms)), omega arith)
        by None e = apart (end_in d m) (item_in d m) refl refl (ap is_some (sym so.sums.end_is ∙ e))

-- ---- messages, picked in place

-- Of the first `at` of the messages that were there, those that are items stand at the front; from there on they are as they were.
pub record IsPicking {X : Type 0} (view : X → MessageVal) (d : Dump) (old new : List X) (at : ℕ) (s : Counts) : Type 0 where
  pub counts : AreCounts d (map view (take at old)) s
  pub front : map view (take s.items new) ≡ item_messages d (map view (take at old))
  pub rest : drop at new ≡ drop at old
  pub low : s.items ≤ at
  pub long : length new ≡ length old

module _ {X : Type 0} (view : X → MessageVal) (d : Dump) (old : List X) where
  module _ (new : List X) (at : ℕ) (s : Counts) (x : X) (is : IsPicking view d old new at s) (here : at < length new) (x_is : x ≡ get_or new at x) where
    m : MessageVal
    m = view x

    both : x ∷ drop (at + 1) new ≡ get_or old at x ∷ drop (at + 1) old
    both = ap (λ y. y ∷ drop (at + 1) new) x_is ∙ sym (drop_more new at x here) ∙ is.rest ∙ drop_more old at x (omega (arith, is.long))

    more : map view (take (at + 1) old) ≡ map view (take at old) ++ view x ∷ []
    more =
        let read : get_or old at x ≡ x = sym (ap (λ l. get_or l 0 x) both) in
        ap (map view) (take_more old at x (omega (arith, is.long)) ∙ ap (λ y. take at old ++ y ∷ []) read) ∙ map-append view (take at old) (x ∷ [])

    module _ (t : Counts) (t_is : t ≡ judge s.end (role_for d (view x)) (is_marked (view x).flags) s) where
      counted : AreCounts d (map view (take (at + 1) old)) t
      counted = subst (λ l. AreCounts d l t) (sym more) (subst (AreCounts d (map view (take at old) ++ view x ∷ [])) (sym t_is) (judge_counts d (map view (take at old)) (view x) s is.counts))

      keeps : IsKept d (map view (take at old)) (view x) s is.counts t
      keeps = subst (IsKept d (map view (take at old)) (view x) s is.counts) (sym t_is) (kept_so d (map view (take at old)) (view x) s is.counts)

      -- it is no item
      pub picks_other : t.keeps ≡ false → IsPicking view d old new (at + 1) t
      picks_other out =
          let same : t.items ≡ s.items = keeps.1 ∙ ap (λ b. s.items + one_if b) out ∙ omega arith in
          record {
            counts = counted;
            front = ap (λ n. map view (take n new)) same ∙ is.front ∙ sym (append-nil (item_messages d (map view (take at old)))) ∙ ap (λ b. item_messages d (map view (take at old)) ++ cond b (view x ∷ []) []) (sym out) ∙ sym keeps.0 ∙ ap (item_messages d) (sym more);
            rest = ap (drop 1) both;
            low = omega (arith, same, is.low);
            long = is.long;
          }

      -- it is one, and stands behind the items
      picks_kept : (zs : List X) → t.keeps ≡ true → get_or zs s.items x ≡ x → length zs ≡ length new → take s.items zs ≡ take s.items new → drop (at + 1) zs ≡ drop (at + 1) new → IsPicking view d old zs (at + 1) t
      picks_kept zs kept there long front rest =
          let k = s.items in
          let low : k ≤ at = is.low in
          let next : t.items ≡ k + 1 = keeps.1 ∙ ap (λ b. k + one_if b) kept in
          let taken : take (k + 1) zs ≡ take k new ++ x ∷ [] = take_more zs k x (omega arith) ∙ (λ i. front i ++ there i ∷ []) in
          record {
            counts = counted;
            front = ap (λ n. map view (take n zs)) next ∙ ap (map view) taken ∙ map-append view (take k new) (x ∷ []) ∙ ap (λ l. l ++ view x ∷ []) is.front
                ∙ ap (λ b. item_messages d (map view (take at old)) ++ cond b (view x ∷ []) []) (sym kept) ∙ sym keeps.0 ∙ ap (item_messages d) (sym more);
            rest = rest ∙ ap (drop 1) both;
            low = omega (arith, next);
            long = long ∙ is.long;
          }

      pub picks_here : t.keeps ≡ true → s.items ≡ at → IsPicking view d old new (at + 1) t
      picks_here kept here = picks_kept new kept (ap (λ k. get_or new k x) here ∙ sym x_is) refl refl refl

      -- it changes places with what stands there
      pub picks_item : (zs : List X) → t.keeps ≡ true → SwappedAt new zs s.items at → IsPicking view d old zs (at + 1) t
      picks_item zs kept swapped =
          let k = s.items in
          let sets = swapped.3 x in
          let mid = set new k (get_or new at x) in
          picks_kept zs kept (swapped.0 x ∙ sym x_is) (ap length sets ∙ length-set mid at (get_or new k x) ∙ length-set new k (get_or new at x))
          (ap (take k) sets ∙ take-set-le k mid at (get_or new k x) is.low ∙ take-set-le k new k (get_or new at x) (omega arith))
          (ap (drop (at + 1)) sets ∙ drop-set-lt (at + 1) mid at (get_or new k x) (omega arith) ∙ drop-set-lt (at + 1) new k (get_or new at x) (omega (arith, is.low)))

  -- all are picked
  pub picked : (new : List X) (at : ℕ) (s : Counts) → IsPicking view d old new at s → length old ≤ at → AreCounts d (map view old) s × (map view (take s.items new) ≡ item_messages d (map view old))
  picked new at s is all =
      let whole : take at old ≡ old = take_all at old all in
      (subst (λ l. AreCounts d (map view l) s) whole is.counts, is.front ∙ ap (λ l. item_messages d (map view l)) whole)

-- a refused reading
pub picks_err : {X : Type 0} (b : Bounds) (d : Dump) (bytes : List ℕ) (r : Result X ReadError) (e : ReadError) (v : ℕ) → r ≡ Err e → (r ≡ Err read.TooLarge) ↔ (b.datagram < length bytes)
    → IfFault e (λ f. IsFirstFault b.shape (whole bytes) f.place f.reason) → VisitsUpTo {X = X} b.shape bytes (Err e) v → Picks b d bytes (Err (read_error e)) v
picks_err b d bytes r read.TooLarge v is large first visits = (large.0 is, visits)
picks_err b d bytes r (read.Layout f) v is large first visits = (within r b.datagram (length bytes) large (λ h. let k = is in cc), first, visits)
picks_err b d bytes r read.Memory v is large first visits = within r b.datagram (length bytes) large (λ h. let k = is in cc)

-- ---- what the stream becomes

module _ (s : Standing) (bytes : List ℕ) (d : Dump) (state : s.state ≡ Waiting d) (total : s.received + length bytes ≤ s.limits.total) where
  pub read_err : (e : FeedError) (n : ℕ) → n ≤ (s.limits.shape.depth + 1) * length bytes → Picks s.limits d bytes (Err e) n → StreamRead s bytes (Err e) (refused_by s (length bytes) n)
  read_err feed.TooLarge n low h = (waits s.state d state, total, h.0, λ i. refused_by s (length bytes) (h.1 i))
  read_err (feed.Layout f) n low h = (can s bytes d state total h.0, h.1, (n, h.2, refl))
  read_err feed.Memory n low h = (can s bytes d state total h, (n, low, refl))
  read_err e n low h = absurd h

-- ---- every datagram

answered : (r : Result ItemsRead FeedError) (s t : Standing) (bytes : List ℕ) → AreLimits s.limits → AreBytes bytes → StreamRead s bytes r t → IsReadAnswered s bytes r t
answered (Ok x) s t bytes limits fit h = (h.1.1, the_list s.limits bytes h.1.1 limits fit h.0.datagram h.1.3.layout)
answered (Err feed.NotWaiting) s t bytes limits fit h = h.1
answered (Err feed.Total) s t bytes limits fit h = stays s t _ bytes [] h.2 (record { state = refl; ignored = refl; interrupted = refl })
answered (Err feed.TooLarge) s t bytes limits fit h = stays s t _ bytes [] h.3 (record { state = refl; ignored = refl; interrupted = refl })
answered (Err (feed.Layout f)) s t bytes limits fit h = (h.1, stays s t _ bytes [] h.2.2 (record { state = refl; ignored = refl; interrupted = refl }))
answered (Err feed.Memory) s t bytes limits fit h = stays s t _ bytes [] h.1.2 (record { state = refl; ignored = refl; interrupted = refl })

pub every : (r : Result ItemsRead FeedError) (s t : Standing) (bytes : List ℕ) → t.limits ≡ s.limits → AreBytes bytes → IsPossible t → StreamRead s bytes r t → EveryRead s bytes r t
every r s t bytes same fit p h = record { visits = p.visits; answer = answered r s t bytes (subst AreLimits same p.limits) fit h }

-- ---- how many items there are

fewer_up_to_end : (d : Dump) (ms : List MessageVal) → length (up_to_end d ms) ≤ length ms
fewer_up_to_end d [] = omega arith
fewer_up_to_end d (m ∷ ms) = by_case (is_some (end_in d m)) (fewer_up_to_end d ms) where
  by_case : (b : Bool) → length (up_to_end d ms) ≤ length ms → length (if b then m ∷ [] else m ∷ up_to_end d ms) ≤ length (m ∷ ms)
  by_case true rest = omega arith
  by_case false rest = omega (arith, rest)

-- no more than messages
pub fewer_items : (d : Dump) (ms : List MessageVal) → length (item_messages d ms) ≤ length ms
fewer_items d ms = omega (arith, length-filter (λ m. is_some (item_in d m)) (up_to_end d ms), count_by-le-length (λ m. is_some (item_in d m)) (up_to_end d ms), fewer_up_to_end d ms)
