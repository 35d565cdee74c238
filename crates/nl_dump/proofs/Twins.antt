-- A stream and a session that are asked the same answer the same.
use Rattle.nl_dump.proofs.Common.{◌≡◌, ℕ, Bool, true, false, List, [], ◌∷◌, length, Result, Ok, Err, refl, sym, ap, ◌∙◌, subst, arith, rules, Event, Shape, IsFirstFault, Visits, whole, Layout, Bounds, MessageVal, one_first_fault, one_sum, Dump, Abandoned, Progress, Waiting, Ended, FeedError, Standing, StreamRead, standing_of, Began, Fed, Abandons, IsStreamed, IsProgressOf, StreamBegan, StreamFed, StreamAbandons, refused_by, View, Call, begins, feeds, abandons, Step, Calls}
use Rattle.std.specs.Global.{Vec}
use Rattle.nl_attr.specs.declared.fault.Fault.{Fault}
use Rattle.nl_frame.proofs.Firsts.{ok_sound, one_layout}
use Rattle.nl_frame.proofs.Layouts.{messages_fit}
use Rattle.nl_dump.specs.declared.dump.ItemsRead.{ItemsRead}
use Rattle.nl_dump.specs.declared.dump.Streamed.{Streamed}
use Rattle.nl_dump.specs.declared.errors.BeginError.{BeginError}
use Rattle.nl_dump.specs.declared.errors.BeginError.TheVariants as begin
use Rattle.nl_dump.specs.declared.errors.FeedError.TheVariants as feed
use Rattle.nl_dump.specs.declared.errors.NotWaiting.{NotWaiting}
use Rattle.nl_dump.specs.declared.errors.StreamError.{StreamError}
use Rattle.nl_dump.specs.declared.errors.StreamError.TheVariants as stream
use Rattle.nl_dump.specs.Twins.{StreamCall, stream_begins, stream_feeds, stream_reads, stream_abandons, StreamStep, lacked, lacked_by, either, with_first, Beside, BeginsWithMemory, FeedsWithMemory, ReadsWithMemory, AsksTheSame, AnswersTheSame, begun, fed, progress_read, StreamIsSession}
use Rattle.nl_dump.proofs.Feeding.{waits}

-- ---- a feed

-- where some messages are the layout of a datagram, no fault is its first
no_layout : (S : Shape) (bytes : List ℕ) (ms : List MessageVal) (f : Fault) → Layout S ms bytes → IsFirstFault S (whole bytes) f.place f.reason → ⊥
no_layout S bytes ms f l h = let m = messages_fit S ms 0 bytes l in ok_sound S bytes ms m.0 m.1 f.place f.reason h.0

-- a datagram that both took, in the one way that there is
taken_same : (s t w : Standing) (bytes : List ℕ) (d e : Dump) (ms ns : List MessageVal) (n m : ℕ) (p q : Progress)
    → IsStreamed d bytes ms n s t → IsProgressOf d ms p → IsStreamed e bytes ns m s w → IsProgressOf e ns q → (p ≡ q) × (t ≡ w)
taken_same s t w bytes d e ms ns n m p q x a y b =
    let S = s.limits.shape in
    let state : Waiting d ≡ Waiting e = sym x.waiting ∙ y.waiting in
    let de : d ≡ e = cc in
    let mn : ms ≡ ns = one_layout S bytes ms ns x.layout y.layout in
    let nm : n ≡ m = one_sum S (whole bytes) (length bytes) n m x.visited y.visited in
    let c = rw (de, mn) at a in
    (λ i. record { items = (c.0 ∙ sym b.0) i; ignored = (c.1 ∙ sym b.1) i; ended = (c.2 ∙ sym b.2) i }, rw (de, mn, nm) at x.rest ∙ sym y.rest)

-- a datagram that both refused, at its first fault
refused_same : (s t w : Standing) (bytes : List ℕ) (f g : Fault) (n m : ℕ) → IsFirstFault s.limits.shape (whole bytes) f.place f.reason → Visits s.limits.shape (whole bytes) f.place n → t ≡ refused_by s (length bytes) n
    → IsFirstFault s.limits.shape (whole bytes) g.place g.reason → Visits s.limits.shape (whole bytes) g.place m → w ≡ refused_by s (length bytes) m → (f ≡ g) × (t ≡ w)
refused_same s t w bytes f g n m first visits is other others so =
    let S = s.limits.shape in
    let e = one_first_fault S (whole bytes) f.place g.place f.reason g.reason first other in
    let same = one_sum S (whole bytes) g.place n m (subst (λ p. Visits S (whole bytes) p n) e.0 visits) others in
    (λ i. record { place = e.0 i; reason = e.1 i }, is ∙ ap (refused_by s (length bytes)) same ∙ sym so)

module _ (u v : View) (bytes : List ℕ) (w : Standing) where
  read_same : (r : Result Progress FeedError) (q : Result ItemsRead FeedError) → ReadsWithMemory q → FeedsWithMemory r → Fed u bytes r v → StreamRead (standing_of u) bytes q w → (progress_read q ≡ r) × (w ≡ standing_of v)
  read_same (Err feed.NotWaiting) (Err feed.NotWaiting) l m h k = (refl, k.1 ∙ sym (ap standing_of h.1))
  read_same (Err feed.Total) (Err feed.Total) l m h k = (refl, k.2 ∙ sym (ap standing_of h.2))
  read_same (Err feed.TooLarge) (Err feed.TooLarge) l m h k = (refl, k.3 ∙ sym (ap standing_of h.3))
  read_same (Err (feed.Layout f)) (Err (feed.Layout g)) l m h k =
      let same = refused_same (standing_of u) w (standing_of v) bytes g f k.2.0 h.2.0 k.1 k.2.1 k.2.2 h.1 h.2.1 (ap standing_of h.2.2) in
      (ap (λ (x : Fault). Err (feed.Layout x)) same.0, same.1)
  read_same (Ok p) (Ok q) l m h k =
      let same = taken_same (standing_of u) w (standing_of v) bytes k.1.0 h.1.0 k.1.1 h.1.1 k.1.2 h.1.2 q.progress p k.1.3 k.1.4 h.1.3.streamed h.1.4 in
      (ap Ok same.0, same.1)
  read_same (Err (feed.Layout f)) (Ok q) l m h k = absurd (no_layout u.limits.shape bytes k.1.1 f k.1.3.layout h.1)
  read_same (Ok p) (Err (feed.Layout g)) l m h k = absurd (no_layout u.limits.shape bytes h.1.1 g h.1.3.streamed.layout k.1)
  read_same (Err feed.Memory) q l m h k = absurd m
  read_same r (Err feed.Memory) l m h k = absurd l
  -- one has no dump that waits
  read_same (Err feed.NotWaiting) q l m h k = absurd (search rules)
  read_same r (Err feed.NotWaiting) l m h k = absurd (search rules)
  -- they differ in a limit
  read_same r q l m h k = absurd (omega arith)

module _ (u v : View) (bytes : List ℕ) (old new : List Event) (w : Standing) where
  feed_same : (r : Result Progress FeedError) (q : Result Streamed StreamError) → FeedsWithMemory r → lacked_by q ≡ false → Fed u bytes r v → StreamFed (standing_of u) bytes old q w new → (fed q ≡ r) × (w ≡ standing_of v)
  feed_same (Err feed.NotWaiting) (Err stream.NotWaiting) m l h k = (refl, k.1 ∙ sym (ap standing_of h.1))
  feed_same (Err feed.Total) (Err stream.Total) m l h k = (refl, k.2 ∙ sym (ap standing_of h.2))
  feed_same (Err feed.TooLarge) (Err stream.TooLarge) m l h k = (refl, k.3 ∙ sym (ap standing_of h.3))
  feed_same (Err (feed.Layout f)) (Err (stream.Layout g)) m l h k =
      let same = refused_same (standing_of u) w (standing_of v) bytes g f k.2.0 h.2.0 k.1 k.2.1 k.2.2 h.1 h.2.1 (ap standing_of h.2.2) in
      (ap (λ (x : Fault). Err (feed.Layout x)) same.0, same.1)
  feed_same (Ok p) (Ok q) m l h k =
      let same = taken_same (standing_of u) w (standing_of v) bytes k.1.0 h.1.0 k.1.1 h.1.1 k.1.2 h.1.2 q.progress p k.1.3 k.1.4 h.1.3.streamed h.1.4 in
      (ap Ok same.0, same.1)
  feed_same (Err (feed.Layout f)) (Ok q) m l h k = absurd (no_layout u.limits.shape bytes k.1.1 f k.1.3.layout h.1)
  feed_same (Ok p) (Err (stream.Layout g)) m l h k = absurd (no_layout u.limits.shape bytes h.1.1 g h.1.3.streamed.layout k.1)
  feed_same (Err feed.Memory) q m l h k = absurd m
  feed_same r (Err (stream.Room n)) m l h k = cc
  -- one has no dump that waits
  feed_same (Err feed.NotWaiting) q m l h k = absurd (search rules)
  feed_same r (Err stream.NotWaiting) m l h k = absurd (search rules)
  -- they differ in a limit
  feed_same r q m l h k = absurd (omega arith)

-- what lacked room left the stream as it was
lacked_step : (c : StreamCall) (s t : Standing) → lacked c ≡ true → StreamStep s c t → t ≡ s
lacked_step (stream_feeds bytes old (Err (stream.Room n)) new) s t l h = h.4
lacked_step c s t l h = cc

-- ---- one call

-- both answer the same, and both come to the same
abbrev Meet : StreamCall → Call → Standing → View → Type 0
Meet t c s v = AnswersTheSame t c × (s ≡ standing_of v)

begin_same : (d : Dump) (u v : View) (r : Result (Vec ℕ) BeginError) (q : Result (Unit {0}) BeginError) (t : Standing) → BeginsWithMemory r → Began u d r v → StreamBegan (standing_of u) d q t
    → (q ≡ begun r) × (t ≡ standing_of v)
begin_same d u v (Ok x) (Ok y) t m h k = (refl, k.2 ∙ sym (ap standing_of h.3.rest))
begin_same d u v (Err begin.Busy) (Err begin.Busy) t m h k = (refl, k.1 ∙ sym (ap standing_of h.1))
begin_same d u v (Err begin.SameSeq) (Err begin.SameSeq) t m h k = (refl, k.2 ∙ sym (ap standing_of h.2))
begin_same d u v (Err begin.Memory) q t m h k = absurd m
begin_same d u v r q t m h k = absurd (search rules)

abandon_same : (u v : View) (r q : Result (Unit {0}) NotWaiting) (t : Standing) → Abandons u r v → StreamAbandons (standing_of u) q t → (q ≡ r) × (t ≡ standing_of v)
abandon_same u v (Ok x) (Ok y) t h k =
    let e : Waiting h.0 ≡ Waiting k.0 = sym h.1 ∙ k.1 in
    let d : h.0 ≡ k.0 = cc in
    (refl, k.2 ∙ ap (λ (x : Dump). record (standing_of u) { state = Ended x Abandoned }) (sym d) ∙ sym (ap standing_of h.2))
abandon_same u v (Ok x) (Err e) t h k = absurd (k.0 (waits u.state h.0 h.1))
abandon_same u v (Err e) (Ok y) t h k = absurd (h.0 (waits u.state k.0 k.1))
abandon_same u v (Err e) (Err f) t h k = (refl, k.1 ∙ sym (ap standing_of h.1))

step_same : (t : StreamCall) (c : Call) (u v : View) (s w : Standing) → s ≡ standing_of u → lacked t ≡ false → AsksTheSame t c → Step u c v → StreamStep s t w → Meet t c w v
step_same (stream_begins d q) (begins e r) u v s w is l asks h k =
    begin_same d u v r q w asks.1 (subst (λ x. Began u x r v) (sym asks.0) h) (subst (λ x. StreamBegan x d q w) is k)
step_same (stream_feeds bytes old q new) (feeds other r) u v s w is l asks h k =
    feed_same u v bytes old new w r q asks.1 l (subst (λ x. Fed u x r v) (sym asks.0) h) (subst (λ x. StreamFed x bytes old q w new) is k)
step_same (stream_reads bytes q) (feeds other r) u v s w is l asks h k =
    read_same u v bytes w r q asks.1 asks.2 (subst (λ x. Fed u x r v) (sym asks.0) h) (subst (λ x. StreamRead x bytes q w) is k)
step_same (stream_abandons q) (abandons r) u v s w is l asks h k = abandon_same u v r q w h (subst (λ x. StreamAbandons x q w) is k)
step_same t c u v s w is l asks h k = absurd asks

-- ---- all calls

-- one more call of the stream, where the calls before it are so
turn : (b : Bounds) (t : StreamCall) (ts : List StreamCall) (w s : Standing) → StreamStep w t s
    → ((cs : List Call) (v : View) → Calls b cs v → Beside AsksTheSame ts cs → Beside AnswersTheSame ts cs × (w ≡ standing_of v))
    → (cs : List Call) (v : View) → Calls b cs v → (x : Bool) → lacked t ≡ x
    → either x (Beside AsksTheSame ts cs) (with_first (AsksTheSame t) (Beside AsksTheSame ts) cs)
    → either x (Beside AnswersTheSame ts cs) (with_first (AnswersTheSame t) (Beside AnswersTheSame ts) cs) × (s ≡ standing_of v)
turn b t ts w s step before cs v calls true l h =
    let old = before cs v calls h in
    (old.0, lacked_step t w s l step ∙ old.1)
turn b t ts w s step before [] v calls false l h = absurd h
turn b t ts w s step before (c ∷ cs) v calls false l h =
    let old = before cs calls.0 calls.1 h.1 in
    let new = step_same t c calls.0 v w s old.1 l h.0 calls.2 step in
    ((new.0, old.0), new.1)

pub twins : StreamIsSession
twins b [] v [] s calls stream beside = (refl, stream ∙ sym (ap standing_of calls.rest))
twins b (c ∷ cs) v [] s calls stream beside = absurd (let x : ◌≡◌ {A = List Call} (c ∷ cs) [] = beside in cc)
twins b cs v (t ∷ ts) s calls stream beside = turn b t ts stream.0 s stream.2 (λ cs v calls beside. twins b cs v ts stream.0 calls stream.1 beside) cs v calls (lacked t) refl beside
