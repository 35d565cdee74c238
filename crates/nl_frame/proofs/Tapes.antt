-- The loop that scans the messages of a datagram.
use Rattle.nl_frame.proofs.Common.{◌≡◌, ◌≢◌, ℕ, ◌+◌, ◌*◌, ◌≤◌, List, [], ◌∷◌, ◌++◌, length, map, slice_set, Option, Some, None, refl, sym, ap, subst, ◌∙◌, IfSome, arith, length-append, Event, Fault, Reason, BrokenHead, Taped, Shape, Head, and_on, first, next, inside, front, front_front, weigh-append, behind_then, inside_then, put_none, put_on, put_one, or_else_none, Frame, broken_message, IsFrame, IsBrokenHead, IsBrokenIn, message_facts, IsTaped, IsFrameTaped, Trail, region_trail, trail_of, visits_of, event_of, header_event}
use Rattle.std.proofs.lemmas.List.{append-nil, length-map, map-append}
use Rattle.nl_attr.specs.Broken.{fault_in}
use Rattle.nl_attr.specs.Grammar as grammar
use Rattle.nl_attr.specs.HeadOrder.{fault_of, put_from}
use Rattle.nl_attr.specs.HeadOrder as region
use Rattle.nl_attr.specs.Heads as regions
use Rattle.nl_attr.specs.Taped as taped_regions
use Rattle.nl_frame.specs.Heads.{AnyHead, header, inner, Rest, HeadAt, some_inner, behind, region_in, region_of, heads, whole}
use Rattle.nl_frame.proofs.Fronts.{Reaches, reaches_on}
use Rattle.nl_frame.proofs.Firsts.{any_visits}
use Rattle.nl_frame.proofs.Scan.{laws, trail_ends, trail_stops, trail_goes}

module _ (S : Shape) where
  -- ---- a body

  -- a head of a region stands in it as one of a datagram does
  any_head : (s h : Head) → regions.HeadAt S s h → grammar.HeadAt (heads S) (inner s) (inner h)
  unfolding heads regions.heads
  any_head s h (first e) = first e
  any_head s h (next k p a some) = next (inner k) (any_head s k p) a some
  any_head s h (inside k j p b is some) = inside (inner k) (inner j) (any_head s k p) b (ap some_inner is) some

  -- the heads of a region, as those of a datagram
  pub region_events : (hs : List Head) → map (region.event_of S.order) hs ≡ map (event_of S.order) (map inner hs)
  region_events [] = refl
  region_events (h ∷ hs) = ap (λ (es : List Event). region.event_of S.order h ∷ es) (region_events hs)

  pub region_taped : (h : Head) (count : ℕ) (old new : List Event) (t : Taped) → taped_regions.IsTaped S h count old new t → IsTaped S (region_trail S (Some h)) count old new t
  region_taped h count old new t is = record {
    fault = is.fault;
    visits = is.visits ∙ sym (any_visits S (region.trail_of S h).0);
    counted = is.counted ∙ ap (λ (n : ℕ). count + n) (sym (length-map (region.trail_of S h).0 inner));
    events = is.events ∙ ap (λ (es : List Event). put_from count es old) (region_events (region.trail_of S h).0);
  }

  -- ---- the state of the loop

  -- these heads were found, and this is left
  pub record IsTaping (d : List ℕ) (old : List Event) (count visits place : ℕ) (left : List ℕ) (out : List Event) : Type 0 where
    pub hs : List AnyHead
    pub same : trail_of S (whole d) ≡ front hs (trail_of S (record { place = place; left = left }))
    pub counted : count ≡ length hs
    pub seen : visits ≡ visits_of S hs
    pub events : out ≡ put_from 0 (map (event_of S.order) hs) old
    pub reach : (h : AnyHead) → HeadAt S (record { place = place; left = left }) h → HeadAt S (whole d) h
    pub at : Reaches S d visits place left
    pub few : count ≤ place + visits

  -- the whole datagram is left
  pub begins : (d : List ℕ) (old : List Event) → IsTaping d old 0 0 0 d old
  begins d old = record { hs = []; same = refl; counted = refl; seen = refl; events = sym (put_none 0 old); reach = λ m p. p; at = record { size = omega arith; bound = omega arith }; few = omega arith }

module _ {S : Shape} {d : List ℕ} {old : List Event} {count visits place : ℕ} {left : List ℕ} {out : List Event} (now : IsTaping S d old count visits place left out) where
  rest : Rest
  rest = record { place = place; left = left }

  -- these are all heads, and this is what ends them
  ends_so : (hs : List AnyHead) (o : Option (ℕ × Reason)) (x : Option BrokenHead) (n v : ℕ) (new : List Event) → trail_of S (whole d) ≡ (hs, o) → fault_in x ≡ fault_of o → n ≡ length hs → v ≡ visits_of S hs → new ≡ put_from 0 (map (event_of S.order) hs) old
      → IsTaped S (trail_of S (whole d)) 0 old new (record { broken = x; count = n; visits = v })
  unfolding heads
  ends_so hs o x n v new e f c s p = record {
    fault = f ∙ ap (λ (t : Trail). fault_of t.1) (sym e);
    visits = s ∙ ap (λ (t : Trail). visits_of S t.0) (sym e);
    counted = omega (arith, c, ap (λ (t : Trail). length t.0) e);
    events = p ∙ ap (λ (t : Trail). put_from 0 (map (event_of S.order) t.0) old) (sym e);
  }

  -- nothing is left
  pub tells_none : left ≡ [] → IsTaped S (trail_of S (whole d)) 0 old out (record { broken = None; count = count; visits = visits })
  unfolding rest heads
  tells_none e = ends_so now.hs None None count visits out
      (now.same ∙ ap (front now.hs) (trail_ends S rest e) ∙ ap (λ (l : List AnyHead). (l, None)) (append-nil now.hs)) refl now.counted now.seen now.events

  -- the header of what is left breaks a rule
  pub tells_broken : (why : Reason) (x : BrokenHead) → left ≢ [] → broken_message S.order left ≡ Some why → x ≡ message_facts S.order why (record { place = place; left = left })
      → IsTaped S (trail_of S (whole d)) 0 old out (record { broken = Some x; count = count; visits = visits })
  unfolding rest
  tells_broken why x some e is = ends_so now.hs (Some (place, why)) (Some x) count visits out
      (now.same ∙ ap (front now.hs) (trail_stops S rest why some e) ∙ ap (λ (l : List AnyHead). (l, Some (place, why))) (append-nil now.hs)) (ap (λ (y : BrokenHead). Some y.fault) is) now.counted now.seen now.events

  -- and is the head that does
  pub header_breaks : (why : Reason) (x : BrokenHead) → left ≢ [] → broken_message S.order left ≡ Some why → x ≡ message_facts S.order why (record { place = place; left = left }) → IsBrokenHead S (whole d) x
  unfolding rest heads
  header_breaks why x some e is = subst (IsBrokenHead S (whole d)) (sym is) (header rest, now.reach (header rest) (first some), e, refl)

  -- ---- a message

  module _ (f : Frame) (some : left ≢ []) (is : IsFrame S.order left f) where
    -- the heads in its body, and what is behind it
    body : Trail
    body = region_trail S (region_in f.form (place + 16) f.payload.now)

    onward : Rest
    onward = record { place = place + f.span; left = f.rest.now }

    outcome : Event
    outcome = header_event place f.header.kind (length f.payload.now)

    outcome_is : outcome ≡ event_of S.order (header rest)
    unfolding outcome rest
    outcome_is = rw (is.header, is.payload) refl

    -- the heads that were found, and the header
    found : List AnyHead
    found = now.hs ++ header rest ∷ []

    goes : trail_of S (whole d) ≡ front found (and_on body (trail_of S onward))
    unfolding rest body onward found
    goes = now.same ∙ ap (front now.hs) (trail_goes S rest some is.sound) ∙ front_front now.hs (header rest ∷ []) _
        ∙ rw (is.form, is.payload, is.span, is.rest) refl

    found_length : length found ≡ count + 1
    unfolding found
    found_length = omega (arith, now.counted, length-append now.hs (header rest ∷ []))

    -- the buffer, once the event of the header stands in it
    put_is : slice_set out count outcome ≡ put_from 0 (map (event_of S.order) found) old
    unfolding found
    put_is =
        let e = event_of S.order in
        sym (put_one count outcome out)
        ∙ ap (λ (x : Event). put_from count (x ∷ []) out) outcome_is
        ∙ ap (put_from count (e (header rest) ∷ [])) now.events
        ∙ ap (λ (n : ℕ). put_from n (e (header rest) ∷ []) (put_from 0 (map e now.hs) old)) (omega (arith, now.counted, length-map now.hs e))
        ∙ put_on 0 (map e now.hs) (e (header rest) ∷ []) old
        ∙ ap (λ (es : List Event). put_from 0 es old) (sym (map-append e now.hs (header rest ∷ [])))

    -- and once these were
    put_more : (hs : List AnyHead) → put_from (count + 1) (map (event_of S.order) hs) (slice_set out count outcome) ≡ put_from 0 (map (event_of S.order) (found ++ hs)) old
    put_more hs =
        let e = event_of S.order in
        ap (put_from (count + 1) (map e hs)) put_is
        ∙ ap (λ (n : ℕ). put_from n (map e hs) (put_from 0 (map e found) old)) (omega (arith, found_length, length-map found e))
        ∙ put_on 0 (map e found) (map e hs) old
        ∙ ap (λ (es : List Event). put_from 0 es old) (sym (map-append e found hs))

    counts : (hs : List AnyHead) → length (found ++ hs) ≡ count + 1 + length hs
    counts hs = omega (arith, found_length, length-append found hs)

    sees : (hs : List AnyHead) → visits_of S (found ++ hs) ≡ visits + visits_of S hs
    unfolding found heads
    sees hs = omega (arith, now.seen, weigh-append (heads S) (heads S).visited found hs, weigh-append (heads S) (heads S).visited now.hs (header rest ∷ []))

    stops_at : (i t : Trail) (g : Fault) → Some g ≡ fault_of i.1 → and_on i t ≡ (i.0, Some (g.place, g.reason))
    stops_at (hs, None) t g e = absurd (let x : ◌≡◌ {A = Option Fault} (Some g) None = e in cc)
    stops_at (hs, Some k) t g e =
        let x : ◌≡◌ {A = Option Fault} (Some g) (Some (record { place = k.0; reason = k.1 })) = e in
        let y : g ≡ record { place = k.0; reason = k.1 } = cc in
        ap (λ (h : Fault). (hs, Some (h.place, h.reason))) (sym y)

    passes_at : (i t : Trail) → None ≡ fault_of i.1 → and_on i t ≡ front i.0 t
    passes_at (hs, None) t e = refl
    passes_at (hs, Some k) t e = absurd (let x : ◌≡◌ {A = Option Fault} None (Some (record { place = k.0; reason = k.1 })) = e in cc)

    -- the region in its body
    region_is : region_of S rest ≡ region_in f.form (place + 16) f.payload.now
    unfolding rest
    region_is = rw (is.form, is.payload) refl

    -- a head in the body stands in the datagram
    breaks_inside : (o : Option Head) (b : BrokenHead) → region_of S rest ≡ o → IsBrokenIn S o b → IsBrokenHead S (whole d) b
    unfolding rest heads
    breaks_inside None b e x = absurd x
    breaks_inside (Some h) b e x = (inner x.0, now.reach (inner x.0) (inside_then (heads S) (laws S) (header rest) (inner h) (inner x.0) some is.sound (ap some_inner e) (any_head S h x.0 x.1)), x.2, x.3)

    pub inner_breaks : (o : Option BrokenHead) (b : BrokenHead) → o ≡ Some b → IfSome o (IsBrokenIn S (region_in f.form (place + 16) f.payload.now)) → IsBrokenHead S (whole d) b
    inner_breaks o b e x = breaks_inside (region_in f.form (place + 16) f.payload.now) b region_is (subst (λ (y : Option BrokenHead). IfSome y (IsBrokenIn S (region_in f.form (place + 16) f.payload.now))) e x)

    -- what is behind it stands in the datagram
    onward_is : onward ≡ behind S rest
    unfolding rest onward
    onward_is = rw (is.span, is.rest) refl

    onward_reach : (h : AnyHead) → HeadAt S onward h → HeadAt S (whole d) h
    unfolding rest onward heads
    onward_reach h p = now.reach h (behind_then (heads S) (laws S) (header rest) h some (or_else_none _ _ is.sound).0 (subst (λ (r : Rest). HeadAt S r h) onward_is p))

    module _ (new : List Event) (t : Taped) (taped : IsFrameTaped S f place count out new t) where
      -- a head in it breaks a rule
      pub tells_fault : (b : BrokenHead) → t.broken ≡ Some b → IsTaped S (trail_of S (whole d)) 0 old new (record { broken = Some b; count = t.count; visits = visits + t.visits })
      unfolding outcome body
      tells_fault b e =
          ends_so (found ++ body.0) (Some (b.fault.place, b.fault.reason)) (Some b) t.count (visits + t.visits) new
          (goes ∙ ap (front found) (stops_at body (trail_of S onward) b.fault (sym (ap fault_in e) ∙ taped.fault)))
          refl
          (omega (arith, taped.counted, counts body.0))
          (omega (arith, taped.visits, sees body.0))
          (taped.events ∙ put_more body.0)

      -- none does
      pub goes_on : t.broken ≡ None → t.visits ≤ (S.depth + 1) * length f.payload.now → t.count ≤ count + 1 + t.visits → IsTaping S d old t.count (visits + t.visits) (place + f.span) f.rest.now new
      unfolding outcome body onward
      goes_on e b c = record {
        hs = found ++ body.0;
        same = goes ∙ ap (front found) (passes_at body (trail_of S onward) (sym (ap fault_in e) ∙ taped.fault)) ∙ front_front found body.0 (trail_of S onward);
        counted = omega (arith, taped.counted, counts body.0);
        seen = omega (arith, taped.visits, sees body.0);
        events = taped.events ∙ put_more body.0;
        reach = onward_reach;
        at = reaches_on now.at f is t.visits b;
        few = omega (arith, c, now.few, is.inside);
      }
