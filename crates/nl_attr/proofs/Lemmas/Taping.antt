-- The loop over a stack of open regions.
use Rattle.nl_attr.proofs.Common.{◌≡◌, ◌≢◌, ℕ, suc, ◌+◌, ◌-◌, ◌*◌, ◌≤◌, ◌<◌, true, false, List, [], ◌∷◌, ◌++◌, length, drop, map, Option, Some, None, is_some, refl, sym, ap, subst, ◌∙◌, arith, length-append, eqb, eqb-true, All, append-nil, length-map, map-append, nil_from_length, FARTHEST_END, LONGEST_REGION, MOST_VISITS, Reason, Event, Room, Counts, OpenRegion, Ctx, Shape, span_of, facts_of, fault_in, and_on, first, inner_trail, Sort, attr_head, hop_head, Head, MayStand, HeadAt, IsSound, broken, follower, inner_of, start_of, heads, head_of, Adds, HasRoom, HoldsNone, IsTaped, Leads, LeadsTo, MayScan, Passes, Skips, found}
use Rattle.std.specs.Option.{IfSome}
use Rattle.std.proofs.lemmas.List.Elements.{All-head, All-tail}
use Rattle.std.proofs.lemmas.Option.{IfSome_then}
use Rattle.nl_attr.specs.declared.broken.BrokenHead.{BrokenHead}
use Rattle.nl_attr.specs.declared.taping.Taped.{Taped}
use Rattle.nl_attr.specs.declared.taping.steps.Advance.{Advance}
use Rattle.nl_attr.specs.declared.taping.steps.Lead.{Lead}
use Rattle.nl_attr.specs.declared.taping.steps.Lead.TheVariants as lead
use Rattle.nl_attr.specs.HeadOrder.{Trail, counted, trail_of, event_of, put_from, visits_of, fault_of}
use Rattle.nl_attr.proofs.Lemmas.Grammars.{front, front_on, front_front, weigh-append, behind_then, inside_then, each, trail_ends, trail_stops, trail_goes, walk_bound, weigh}
use Rattle.nl_attr.proofs.Lemmas.Scan.{room, sound_of, inner_is, inner_fills, fills, visits_cost, few_cost, laws}
use Rattle.nl_attr.proofs.Lemmas.First.{walk_low}
use Rattle.nl_attr.proofs.Lemmas.Nested.{whole_fits}
use Rattle.nl_attr.proofs.Lemmas.Putting.{put_length, put_none, put_on, put_untouched, room_on}

module _ (S : Shape) where
  -- the heads of the regions that wait, the last of the list first
  abbrev pub resume : List Head → Trail → Trail
  resume [] t = t
  resume (f ∷ fs) t = and_on (resume fs t) (trail_of S f)

  resume_push : (fs : List Head) (f : Head) (t : Trail) → resume (fs ++ f ∷ []) t ≡ resume fs (and_on t (trail_of S f))
  resume_push [] f t = refl
  resume_push (g ∷ fs) f t = ap (λ (x : Trail). and_on x (trail_of S g)) (resume_push fs f t)

  resume_front : (fs : List Head) (hs : List Head) (t : Trail) → resume fs (front hs t) ≡ front hs (resume fs t)
  resume_front [] hs t = refl
  resume_front (g ∷ fs) hs t = ap (λ (x : Trail). and_on x (trail_of S g)) (resume_front fs hs t) ∙ front_on hs (resume fs t) (trail_of S g)

  resume_fault : (fs : List Head) (hs : List Head) (f : ℕ × Reason) → resume fs (hs, Some f) ≡ (hs, Some f)
  resume_fault [] hs f = refl
  resume_fault (g ∷ fs) hs f = ap (λ (x : Trail). and_on x (trail_of S g)) (resume_fault fs hs f)

  -- ---- heads that are passed

  -- a head that has none in its item
  goes_on : (h : Head) → h.left ≢ [] → broken S h ≡ None → HoldsNone S h → trail_of S h ≡ front (h ∷ []) (trail_of S (follower S h))
  unfolding heads
  goes_on h some b none = trail_goes (heads S) (laws S) h (inner_of S h) some b refl ∙ ap (λ (x : Trail). front (h ∷ []) (and_on x (trail_of S (follower S h)))) (nothing (inner_of S h) none) where
    nothing : (o : Option Head) → IfSome o (λ k. k.left ≡ []) → inner_trail o (trail_of S) ≡ ([], None)
    nothing None e = refl
    nothing (Some k) e = trail_ends (heads S) (laws S) k e

  pub holds_none : (h : Head) → inner_of S h ≡ None → HoldsNone S h
  holds_none h e = subst (λ (o : Option Head). IfSome o (λ k. k.left ≡ [])) (sym e) tt

  pub holds_empty : (h k : Head) → inner_of S h ≡ Some k → k.left ≡ [] → HoldsNone S h
  holds_empty h k e none = subst (λ (o : Option Head). IfSome o (λ j. j.left ≡ [])) (sym e) none

  passes_trail : (h : Head) (hs : List Head) (g : Head) → Passes S h hs g → trail_of S h ≡ front hs (trail_of S g)
  unfolding heads
  passes_trail h [] g p = ap (trail_of S) p
  passes_trail h (k ∷ ks) g p =
      goes_on h p.1 p.2 p.3 ∙ ap (front (h ∷ [])) (passes_trail (follower S h) ks g p.4) ∙ front_front (h ∷ []) ks (trail_of S g)
      ∙ ap (λ (x : Head). front (x ∷ ks) (trail_of S g)) (sym p.0)

  -- one more
  pub passes_push : (h : Head) (hs : List Head) (g : Head) → Passes S h hs g → g.left ≢ [] → broken S g ≡ None → HoldsNone S g → Passes S h (hs ++ g ∷ []) (follower S g)
  passes_push h [] g p some b i = subst (λ (x : Head). Passes S x (g ∷ []) (follower S g)) (sym p) (refl, some, b, i, refl)
  passes_push h (k ∷ ks) g p some b i = (p.0, p.1, p.2, p.3, passes_push (follower S h) ks g p.4 some b i)

  -- they occupy what is less behind them, and each four bytes at least
  pub passes_sum : (h : Head) (hs : List Head) (g : Head) → Passes S h hs g → (visits_of S hs + length g.left ≡ length h.left) × (4 * length hs ≤ visits_of S hs)
  unfolding heads
  passes_sum h [] g p = (omega (arith, ap (λ (x : Head). length x.left) p), omega arith)
  passes_sum h (k ∷ ks) g p =
      let f = fills S h (sound_of S h p.2) in
      let r = passes_sum (follower S h) ks g p.4 in
      let same = ap (λ (x : Head). span_of S.order 2 x.left) p.0 in
      (omega (arith, same, f.rest, r.0), omega (arith, same, f.some, f.low, f.high, r.1))

  -- what stands from the last on stands from the first on
  passes_reach : (h : Head) (hs : List Head) (g : Head) → Passes S h hs g → (k : Head) → HeadAt S g k → HeadAt S h k
  unfolding heads
  passes_reach h [] g p k at = subst (λ (x : Head). HeadAt S x k) (sym p) at
  passes_reach h (j ∷ js) g p k at = behind_then (heads S) (laws S) h k p.1 (sound_of S h p.2) (passes_reach (follower S h) js g p.4 k at)

  -- ---- where regions stand

  -- what stands from it on stands in the region, its level, and that its places are within the greatest
  pub record IsAtLevel (start : Head) (l : ℕ) (h : Head) : Type 0 where
    pub reach : (k : Head) → HeadAt S h k → HeadAt S start k
    pub level : h.level ≡ l
    pub low : MayStand S.depth h.sort h.level
    pub size : length h.left ≤ LONGEST_REGION
    pub place : h.place + length h.left ≤ FARTHEST_END

  -- each of these is a level above the one before it
  abbrev pub AllAtLevels : Head → ℕ → List Head → Type 0
  AllAtLevels start l [] = Unit {0}
  AllAtLevels start l (h ∷ hs) = IsAtLevel start l h × AllAtLevels start (l + 1) hs

  levels_push : (start : Head) (l : ℕ) (fs : List Head) (f : Head) → AllAtLevels start l fs → IsAtLevel start (l + length fs) f → AllAtLevels start l (fs ++ f ∷ [])
  levels_push start l [] f a s = (subst (λ (n : ℕ). IsAtLevel start n f) (omega arith) s, tt)
  levels_push start l (g ∷ fs) f a s = (a.0, levels_push start (l + 1) fs f a.1 (subst (λ (n : ℕ). IsAtLevel start n f) (omega arith) s))

  levels_pop : (start : Head) (l : ℕ) (fs : List Head) (f : Head) → AllAtLevels start l (fs ++ f ∷ []) → AllAtLevels start l fs × IsAtLevel start (l + length fs) f
  levels_pop start l [] f a = (tt, subst (λ (n : ℕ). IsAtLevel start n f) (omega arith) a.0)
  levels_pop start l (g ∷ fs) f a = let p = levels_pop start (l + 1) fs f a.1 in ((a.0, p.0), subst (λ (n : ℕ). IsAtLevel start n f) (omega arith) p.1)

  follower_level : (start : Head) (l : ℕ) (h : Head) → h.left ≢ [] → broken S h ≡ None → IsAtLevel start l h → IsAtLevel start l (follower S h)
  unfolding heads
  follower_level start l h some e s =
      let f = fills S h (sound_of S h e) in
      record {
        reach = λ k p. s.reach k (behind_then (heads S) (laws S) h k some (sound_of S h e) p);
        level = s.level;
        low = s.low;
        size = omega (arith, f.rest, s.size);
        place = omega (arith, f.rest, s.place);
      }

  passes_level : (start : Head) (l : ℕ) (h : Head) (hs : List Head) (g : Head) → Passes S h hs g → IsAtLevel start l h → IsAtLevel start l g
  passes_level start l h [] g p s = subst (IsAtLevel start l) p s
  passes_level start l h (k ∷ ks) g p s = passes_level start l (follower S h) ks g p.4 (follower_level start l h p.1 p.2 s)

  -- what is left behind a head is less, together with what is in it
  pub inner_less : (h k : Head) → broken S h ≡ None → inner_of S h ≡ Some k → length (follower S h).left + (length k.left + 4) ≤ length h.left
  inner_less h k e is = let f = fills S h (sound_of S h e) in omega (arith, f.rest, f.high, f.some, (inner_fills S h k e is).1)

  inner_level : (start : Head) (l : ℕ) (h k : Head) → h.left ≢ [] → broken S h ≡ None → inner_of S h ≡ Some k → IsAtLevel start l h → IsAtLevel start (l + 1) k × (l + 1 ≤ S.depth)
  unfolding heads
  inner_level start l h k some e is s =
      let i = inner_is S h k e is in
      let low = i.low s.low in
      let f = fills S h (sound_of S h e) in
      let n = inner_fills S h k e is in
      (record { reach = λ j p. s.reach j (inside_then (heads S) (laws S) h k j some e is p); level = omega (arith, i.level, s.level); low = low.0; size = omega (arith, n.1, f.high, f.rest, s.size); place = omega (arith, n.0, n.1, f.high, f.rest, s.place) }, omega (arith, low.1, s.level))

  -- ---- what is added

  -- some, and then others
  adds_then : (hs gs : List Head) (a b c : Counts) (old mid new : List Event) → Adds S hs a b old mid → Adds S gs b c mid new → Adds S (hs ++ gs) a c old new
  adds_then hs gs a b c old mid new x y = record {
    count = omega (arith, x.count, y.count, length-append hs gs);
    visits = omega (arith, x.visits, y.visits, weigh-append (heads S) (heads S).visited hs gs);
    events = y.events
        ∙ ap (λ (xs : List Event). put_from b.count (map (event_of S.order) gs) xs) x.events
        ∙ ap (λ (n : ℕ). put_from n (map (event_of S.order) gs) (put_from a.count (map (event_of S.order) hs) old)) (x.count ∙ ap (λ (n : ℕ). a.count + n) (sym (length-map hs (event_of S.order))))
        ∙ put_on a.count (map (event_of S.order) hs) (map (event_of S.order) gs) old
        ∙ ap (λ (es : List Event). put_from a.count es old) (sym (map-append (event_of S.order) hs gs));
  }

-- the bytes that are left in the regions that wait, and one for each
abbrev pub work : List Head → ℕ
work [] = 0
work (h ∷ hs) = suc (length h.left) + work hs

pub work_push : (fs : List Head) (f : Head) → work (fs ++ f ∷ []) ≡ work fs + suc (length f.left)
work_push [] f = omega arith
work_push (g ∷ fs) f = omega (arith, work_push fs f)

-- the bytes alone
abbrev pub left_in : List Head → ℕ
left_in [] = 0
left_in (h ∷ hs) = length h.left + left_in hs

left_push : (fs : List Head) (f : Head) → left_in (fs ++ f ∷ []) ≡ left_in fs + length f.left
left_push [] f = omega arith
left_push (g ∷ fs) f = omega (arith, left_push fs f)

-- each head occupies a byte and more
few : (S : Shape) (start : Head) (hs : List Head) → All (λ h. HeadAt S start h × IsSound S h) hs → length hs ≤ visits_of S hs
unfolding heads
few S start [] a = omega arith
few S start (h ∷ hs) a = let f = fills S h (All-head (λ h. HeadAt S start h × IsSound S h) h hs a).1 in omega (arith, few S start hs (All-tail (λ h. HeadAt S start h × IsSound S h) h hs a), f.some, f.low, f.high)

trail_few : (S : Shape) (start : Head) → length (trail_of S start).0 ≤ visits_of S (trail_of S start).0
unfolding heads
trail_few S start = few S start (trail_of S start).0 (each (heads S) (laws S) start)

-- each head has four bytes of its own at least
fours : (S : Shape) (hs : List Head) → weigh (heads S) (λ h. 4) hs ≡ 4 * length hs
fours S [] = omega arith
fours S (h ∷ hs) = omega (arith, fours S hs)

trail_quarter : (S : Shape) (start : Head) → 4 * length (trail_of S start).0 ≤ length start.left
unfolding heads
trail_quarter S start = omega (arith, walk_bound (heads S) (laws S) start (λ h. 4) (λ h. 1) (few_cost S), fours S (trail_of S start).0)

-- the visits of a region are few
trail_fits : (S : Shape) (start : Head) → S.depth ≤ 32 → length start.left ≤ LONGEST_REGION → visits_of S (trail_of S start).0 ≤ MOST_VISITS
unfolding heads
trail_fits S start d size = whole_fits (room S.depth start.sort start.level) (length start.left) (visits_of S (trail_of S start).0) (levels start.sort start.level) size (walk_bound (heads S) (laws S) start (heads S).visited (λ h. room S.depth h.sort h.level) (visits_cost S)) where
  levels : (s : Sort) (l : ℕ) → room S.depth s l ≤ 33
  levels attr_head l = omega (arith, d)
  levels hop_head l = omega (arith, d)

-- what is behind an answer of no fault, and of one
no_fault : (o : Option (ℕ × Reason)) → fault_of o ≡ None → o ≡ None
no_fault None e = refl
no_fault (Some f) e = absurd cc

pub none_in : {A : Type 0} (o : Option A) → false ≡ is_some o → o ≡ None
none_in None e = refl
none_in (Some x) e = absurd cc

some_in : {A : Type 0} (o : Option A) → true ≡ is_some o → (x : A) × (o ≡ Some x)
some_in None e = absurd cc
some_in (Some x) e = (x, refl)

some_fault : (o : Option (ℕ × Reason)) (x : BrokenHead) → fault_of o ≡ fault_in (Some x) → (f : ℕ × Reason) × (o ≡ Some f)
some_fault None x e = absurd cc
some_fault (Some f) x e = (f, refl)

-- ---- the state of the loop

-- nothing is found yet
abbrev pub begun : ℕ → Counts
begun count = record { count = count; visits = 0 }

-- these regions wait, the last of the list first, and this is left of the one at hand
pub record IsTaping (S : Shape) (start : Head) (count : ℕ) (old : List Event) (fs : List Head) (top : Head) (t : Counts) (out : List Event) : Type 0 where
  pub hs : List Head
  pub same : trail_of S start ≡ front hs (resume S fs (trail_of S top))
  pub adds : Adds S hs (begun count) t old out
  pub below : AllAtLevels S start start.level fs
  pub stands : IsAtLevel S start (start.level + length fs) top
  pub quarter : 4 * t.count + (left_in fs + length top.left) ≤ 4 * count + length start.left

-- the whole region is left, and none waits
pub begins : {room : Room} (S : Shape) (start : Head) (count : ℕ) (old : List Event) (fs : List Head) → fs ≡ [] → MayScan S.depth room count (length old) start → IsTaping S start count old fs start (begun count) old
begins S start count old fs none fits = subst (λ (xs : List Head). IsTaping S start count old xs start (begun count) old) (sym none) (record {
  hs = [];
  same = refl;
  adds = record { count = omega arith; visits = omega arith; events = sym (put_none count old) };
  below = tt;
  stands = record { reach = λ k p. p; level = omega arith; low = fits.level; size = fits.size; place = fits.place };
  quarter = omega arith;
})

module _ {S : Shape} {start : Head} {count : ℕ} {old : List Event} {fs : List Head} {top : Head} {t : Counts} {out : List Event} (now : IsTaping S start count old fs top t out) where
  -- the region at hand is at its end, and the last that waits goes on
  pub pops : (gs : List Head) (b : Head) → top.left ≡ [] → fs ≡ gs ++ b ∷ [] → IsTaping S start count old gs b t out
  unfolding heads
  pops gs b e is =
      let all = levels_pop S start start.level gs b (subst (AllAtLevels S start start.level) is now.below) in
      record {
        hs = now.hs;
        same = now.same ∙ ap (λ (x : Trail). front now.hs (resume S fs x)) (trail_ends (heads S) (laws S) top e) ∙ ap (λ (xs : List Head). front now.hs (resume S xs ([], None))) is ∙ ap (front now.hs) (resume_push S gs b ([], None));
        adds = now.adds;
        below = all.0;
        stands = all.1;
        quarter = omega (arith, now.quarter, ap left_in is, left_push gs b, ap (length {A = ℕ}) e);
      }

  -- a head comes, and these heads are left
  comes : (x : Trail) → trail_of S top ≡ front (top ∷ []) x → trail_of S start ≡ front (now.hs ++ top ∷ []) (resume S fs x)
  comes x e = now.same ∙ ap (λ (y : Trail). front now.hs (resume S fs y)) e ∙ ap (front now.hs) (resume_front S fs (top ∷ []) x) ∙ front_front now.hs (top ∷ []) (resume S fs x)

  -- heads that hold none are passed
  pub passes : (gs : List Head) (g : Head) (u : Counts) (new : List Event) → Passes S top gs g → Adds S gs t u out new → IsTaping S start count old fs g u new
  passes gs g u new p a = record {
    hs = now.hs ++ gs;
    same = now.same ∙ ap (λ (y : Trail). front now.hs (resume S fs y)) (passes_trail S top gs g p) ∙ ap (front now.hs) (resume_front S fs gs (trail_of S g)) ∙ front_front now.hs gs (resume S fs (trail_of S g));
    adds = adds_then S now.hs gs (begun count) t u old out new now.adds a;
    below = now.below;
    stands = passes_level S start (start.level + length fs) top gs g p now.stands;
    quarter = let s = passes_sum S top gs g p in omega (arith, now.quarter, s.0, s.1, a.count);
  }

  -- it holds one
  pub opens : (n k : Head) (gs : List Head) (u : Counts) (new : List Event) → top.left ≢ [] → broken S top ≡ None → inner_of S top ≡ Some k → n ≡ follower S top → gs ≡ fs ++ n ∷ [] → Adds S (top ∷ []) t u out new → IsTaping S start count old gs k u new
  unfolding heads
  opens n k gs u new some b inner next push a =
      let pushed : gs ≡ fs ++ follower S top ∷ [] = push ∙ ap (λ (x : Head). fs ++ x ∷ []) next in
      let i = inner_level S start (start.level + length fs) top k some b inner now.stands in
      subst (λ (xs : List Head). IsTaping S start count old xs k u new) (sym pushed) (record {
        hs = now.hs ++ top ∷ [];
        same = comes (and_on (trail_of S k) (trail_of S (follower S top))) (trail_goes (heads S) (laws S) top (Some k) some b inner)
            ∙ ap (front (now.hs ++ top ∷ [])) (sym (resume_push S fs (follower S top) (trail_of S k)));
        adds = adds_then S now.hs (top ∷ []) (begun count) t u old out new now.adds a;
        below = levels_push S start start.level fs (follower S top) now.below (follower_level S start (start.level + length fs) top some b now.stands);
        stands = subst (λ (m : ℕ). IsAtLevel S start m k) (omega (arith, length-append fs (follower S top ∷ []))) i.0;
        quarter = omega (arith, now.quarter, left_push fs (follower S top), inner_less S top k b inner, a.count);
      })

  -- its level is among those that a limit allows
  pub level_here : S.depth ≤ 32 → top.level ≤ 32
  level_here d = low top.sort now.stands.low where
    low : (s : Sort) → MayStand S.depth s top.level → top.level ≤ 32
    low attr_head p = omega (arith, p, d)
    low hop_head p = omega (arith, p, d)

  -- there is room for what is left of the region at hand
  pub room_here : (room : Room) → HasRoom room count (length start.left) (length old) → HasRoom room t.count (length top.left) (length out)
  room_here room q =
      let same : length out ≡ length old = ap (length {A = Event}) now.adds.events ∙ put_length count (map (event_of S.order) now.hs) old in
      subst (λ (n : ℕ). HasRoom room t.count (length top.left) n) (sym same) (room_on room count (length start.left) t.count (length top.left) (length old) (omega (arith, now.quarter)) q)

  -- the sums are small
  pub small : S.depth ≤ 32 → length start.left ≤ LONGEST_REGION → (t.visits ≤ MOST_VISITS) × (t.count ≤ count + MOST_VISITS)
  small d size =
      let fits = trail_fits S start d size in
      let rest = (resume S fs (trail_of S top)).0 in
      let total : visits_of S (trail_of S start).0 ≡ visits_of S now.hs + visits_of S rest = ap (λ (x : Trail). visits_of S x.0) now.same ∙ weigh-append (heads S) (heads S).visited now.hs rest in
      let heads : length (trail_of S start).0 ≡ length now.hs + length rest = ap (λ (x : Trail). length x.0) now.same ∙ length-append now.hs rest in
      (omega (arith, fits, total, now.adds.visits), omega (arith, fits, heads, trail_few S start, now.adds.count))

  -- there are no more events than bytes that are gone past
  pub few_here : t.count + length top.left ≤ count + length start.left
  few_here = omega (arith, now.quarter, now.adds.count)

  -- what is left of the region at hand may be scanned by itself
  pub may_scan : {room : Room} → MayScan S.depth room count (length old) start → MayScan S.depth room t.count (length out) top
  may_scan {room = room} fits = record {
    level = now.stands.low;
    size = now.stands.size;
    place = now.stands.place;
    count = omega (arith, few_here, fits.count);
    room = room_here room fits.room;
  }

  -- ---- a region that is scanned by itself

  module _ {mid : List Event} {more : Counts} {b : Option BrokenHead} (is : IsTaped S top t.count out mid (found b more)) where
    abbrev pub sum : Counts
    sum = record { count = more.count; visits = t.visits + more.visits }

    -- what it adds
    alone : Adds S (trail_of S top).0 t sum out mid
    alone = record { count = is.counted; visits = ap (λ (n : ℕ). t.visits + n) is.visits; events = is.events }

    -- it is accepted, and the last that waits goes on
    pub scanned : (gs : List Head) (g : Head) → b ≡ None → fs ≡ gs ++ g ∷ [] → IsTaping S start count old gs g sum mid
    unfolding heads
    scanned gs g none last =
        let hs = (trail_of S top).0 in
        let all = levels_pop S start start.level gs g (subst (AllAtLevels S start start.level) last now.below) in
        let ends : (trail_of S top).1 ≡ None = no_fault (trail_of S top).1 (sym is.fault ∙ ap fault_in none) in
        let same : trail_of S top ≡ front hs ([], None) = ap (λ (o : Option (ℕ × Reason)). (hs, o)) ends ∙ ap (λ (l : List Head). (l, None)) (sym (append-nil hs)) in
        record {
          hs = now.hs ++ hs;
          same = now.same ∙ ap (λ (x : Trail). front now.hs (resume S fs x)) same
              ∙ ap (front now.hs) (resume_front S fs hs ([], None))
              ∙ front_front now.hs hs (resume S fs ([], None))
              ∙ ap (λ (xs : List Head). front (now.hs ++ hs) (resume S xs ([], None))) last
              ∙ ap (front (now.hs ++ hs)) (resume_push S gs g ([], None));
          adds = adds_then S now.hs hs (begun count) t sum old out mid now.adds alone;
          below = all.0;
          stands = all.1;
          quarter = omega (arith, now.quarter, ap left_in last, left_push gs g, is.counted, trail_quarter S top);
        }

    -- a head in it breaks a rule
    pub scanned_fails : (x : BrokenHead) → b ≡ Some x → IsTaped S start count old mid (found b sum)
    unfolding heads
    scanned_fails x some =
        let hs = (trail_of S top).0 in
        let f = some_fault (trail_of S top).1 x (sym is.fault ∙ ap fault_in some) in
        let same : trail_of S start ≡ (now.hs ++ hs, Some f.0) = now.same ∙ ap (λ (o : Option (ℕ × Reason)). front now.hs (resume S fs (hs, o))) f.1 ∙ ap (front now.hs) (resume_fault S fs hs f.0) in
        let adds = adds_then S now.hs hs (begun count) t sum old out mid now.adds alone in
        record {
          fault = is.fault ∙ ap fault_of f.1 ∙ ap (λ (x : Trail). fault_of x.1) (sym same);
          head = IfSome_then b is.head (λ y p. (p.0, now.stands.reach p.0 p.1, p.2, p.3));
          visits = adds.visits ∙ omega arith ∙ ap (λ (x : Trail). visits_of S x.0) (sym same);
          counted = adds.count ∙ ap (λ (x : Trail). count + length x.0) (sym same);
          events = adds.events ∙ ap (λ (x : Trail). put_from count (map (event_of S.order) x.0) old) (sym same);
        }

    -- its counts are small
    pub scanned_small : S.depth ≤ 32 → length start.left ≤ LONGEST_REGION → t.visits + more.visits ≤ 2 * MOST_VISITS
    scanned_small d size = omega (arith, (small d size).0, is.visits, trail_fits S top d now.stands.size)

  -- ---- the events

  -- all is accepted
  pub tells_none : top.left ≡ [] → fs ≡ [] → IsTaped S start count old out (found None t)
  unfolding heads
  tells_none e is =
      let all : trail_of S start ≡ (now.hs, None) = now.same ∙ ap (λ (x : Trail). front now.hs (resume S fs x)) (trail_ends (heads S) (laws S) top e) ∙ ap (λ (xs : List Head). front now.hs (resume S xs ([], None))) is ∙ ap (λ (l : List Head). (l, None)) (append-nil now.hs) in
      record {
        fault = ap (λ (x : Trail). fault_of x.1) (sym all);
        head = tt;
        visits = now.adds.visits ∙ omega arith ∙ ap (λ (x : Trail). visits_of S x.0) (sym all);
        counted = now.adds.count ∙ ap (λ (x : Trail). count + length x.0) (sym all);
        events = now.adds.events ∙ ap (λ (x : Trail). put_from count (map (event_of S.order) x.0) old) (sym all);
      }

  -- the head at hand breaks a rule
  pub tells_fault : (r : Reason) (x : BrokenHead) (u : Counts) (new : List Event) → top.left ≢ [] → broken S top ≡ Some r → x ≡ facts_of S.order r top → Adds S (counted S top) t u out new → IsTaped S start count old new (found (Some x) u)
  unfolding heads
  tells_fault r x u new some b is a =
      let all : trail_of S start ≡ (now.hs ++ counted S top, Some (top.place, r)) = now.same ∙ ap (λ (x : Trail). front now.hs (resume S fs x)) (trail_stops (heads S) (laws S) top r some b) ∙ ap (front now.hs) (resume_fault S fs (counted S top) (top.place, r)) in
      let sum = adds_then S now.hs (counted S top) (begun count) t u old out new now.adds a in
      subst (λ (y : BrokenHead). IsTaped S start count old new (found (Some y) u)) (sym is) (record {
        fault = ap (λ (x : Trail). fault_of x.1) (sym all);
        head = (top, now.stands.reach top (first some), b, refl);
        visits = sum.visits ∙ omega arith ∙ ap (λ (x : Trail). visits_of S x.0) (sym all);
        counted = sum.count ∙ ap (λ (x : Trail). count + length x.0) (sym all);
        events = sum.events ∙ ap (λ (x : Trail). put_from count (map (event_of S.order) x.0) old) (sym all);
      })

-- heads at its front are passed before its loop begins
pub skipped : {S : Shape} {start top : Head} {count : ℕ} {old new : List Event} {t : Counts} {room : Room} → MayScan S.depth room count (length old) start
    → Skips S start top (begun count) t old new → IsTaping S start count old [] top t new
skipped {S = S} {start = start} {top = top} {count = count} {old = old} {new = new} {t = t} fits s =
    passes (begins S start count old [] refl fits) s.passed top t new s.passes s.adds

-- all of it is passed
pub skipped_all : {S : Shape} {start top : Head} {count : ℕ} {old new : List Event} {t : Counts} {room : Room} (b : Option BrokenHead) → b ≡ None → MayScan S.depth room count (length old) start
    → Skips S start top (begun count) t old new → top.left ≡ [] → IsTaped S start count old new (found b t)
skipped_all {S = S} {start = start} {count = count} {old = old} {new = new} {t = t} b none fits s end =
    subst (λ (o : Option BrokenHead). IsTaped S start count old new (found o t)) (sym none) (tells_none (skipped fits s) end refl)

-- heads at its front are passed, and it is scanned from there on
pub skipped_then : {S : Shape} {start top : Head} {count : ℕ} {old mid new : List Event} {t more : Counts} {b : Option BrokenHead} → Skips S start top (begun count) t old mid → IsTaped S top t.count mid new (found b more)
    → IsTaped S start count old new (found b (record { count = more.count; visits = t.visits + more.visits }))
unfolding heads
skipped_then {S = S} {start = start} {top = top} {count = count} {old = old} {mid = mid} {new = new} {t = t} {more = more} {b = b} s is =
    let rest = trail_of S top in
    let all : trail_of S start ≡ front s.passed rest = passes_trail S start s.passed top s.passes in
    let then : Counts = record { count = t.count + length rest.0; visits = t.visits + visits_of S rest.0 } in
    let both = adds_then S s.passed rest.0 (begun count) t then old mid new s.adds (record { count = refl; visits = refl; events = is.events }) in
    record {
      fault = is.fault ∙ ap (λ (x : Trail). fault_of x.1) (sym all);
      head = IfSome_then b is.head (λ x p. (p.0, passes_reach S start s.passed top s.passes p.0 p.1, p.2, p.3));
      visits = omega (arith, is.visits, both.visits, ap (λ (x : Trail). visits_of S x.0) all);
      counted = omega (arith, is.counted, both.count, ap (λ (x : Trail). length x.0) all);
      events = both.events ∙ ap (λ (x : Trail). put_from count (map (event_of S.order) x.0) old) (sym all);
    }

-- ---- a step of the loop

module _ {S : Shape} {start : Head} {count : ℕ} {old : List Event} {fs : List Head} {top : Head} {t : Counts} {out : List Event} (now : IsTaping S start count old fs top t out) where
  -- heads at the front of the region at hand are passed
  pub skips : {g : Head} {u : Counts} {new : List Event} → Skips S top g t u out new → IsTaping S start count old fs g u new
  skips {g = g} {u = u} {new = new} s = passes now s.passed g u new s.passes s.adds

  module _ (u : Counts) (new : List Event) (a : Advance) (step : Leads S top t u out new a) where
    leads : (l : Lead) → a.lead ≡ l → LeadsTo S top t u out new (head_of a.rest) l
    leads l e = subst (LeadsTo S top t u out new (head_of a.rest)) e step

    ended : a.lead ≡ lead.Ends → IsTaping S start count old fs top u new × (top.left ≡ [])
    ended e =
        let l = leads lead.Ends e in
        (subst (λ (x : Counts). IsTaping S start count old fs top x new) (sym l.1) (subst (IsTaping S start count old fs top t) (sym l.2) now), l.0)

    pub step_ends : (b : Option BrokenHead) → a.lead ≡ lead.Ends → fs ≡ [] → b ≡ None → IsTaped S start count old new (found b u)
    step_ends b e is none = let x = ended e in subst (λ (o : Option BrokenHead). IsTaped S start count old new (found o u)) (sym none) (tells_none x.0 x.1 is)

    pub step_pops : (gs : List Head) (g : Head) → a.lead ≡ lead.Ends → fs ≡ gs ++ g ∷ [] → IsTaping S start count old gs g u new
    step_pops gs g e is = let x = ended e in pops x.0 gs g x.1 is

    pub step_size : (r : Reason) → a.lead ≡ lead.Fails r → length a.rest.left.now ≤ LONGEST_REGION
    step_size r e = omega (arith, ap (λ (h : Head). length h.left) (leads (lead.Fails r) e).1, now.stands.size)

    pub step_fails : (r : Reason) (b : Option BrokenHead) → a.lead ≡ lead.Fails r → b ≡ Some (facts_of S.order r (head_of a.rest)) → IsTaped S start count old new (found b u)
    step_fails r b e is =
        let l = leads (lead.Fails r) e in
        subst (λ (o : Option BrokenHead). IsTaped S start count old new (found o u)) (sym is) (tells_fault now r (facts_of S.order r (head_of a.rest)) u new l.0 l.2 (ap (facts_of S.order r) l.1) l.3)

    pub step_opens : (k : OpenRegion) (gs : List Head) → a.lead ≡ lead.Opens k → gs ≡ fs ++ head_of a.rest ∷ [] → IsTaping S start count old gs (head_of k) u new
    step_opens k gs e is = let l = leads (lead.Opens k) e in opens now (head_of a.rest) (head_of k) gs u new l.0 l.1 l.2 l.3 is l.4

    -- the region in the item is scanned by itself
    module _ (k : OpenRegion) (e : a.lead ≡ lead.Opens k) where
      pub step_inside : IsTaping S start count old (fs ++ head_of a.rest ∷ []) (head_of k) u new
      step_inside = step_opens k (fs ++ head_of a.rest ∷ []) e refl

      module _ {b : Option BrokenHead} {mid : List Event} {more : Counts} (is : IsTaped S (head_of k) u.count new mid (found b more)) where
        pub step_scanned : b ≡ None → IsTaping S start count old fs (head_of a.rest) (record { count = more.count; visits = u.visits + more.visits }) mid
        step_scanned none = scanned step_inside is fs (head_of a.rest) none refl

        pub step_scan_fails : true ≡ is_some b → IsTaped S start count old mid (found b (record { count = more.count; visits = u.visits + more.visits }))
        step_scan_fails some = let x = some_in b some in scanned_fails step_inside is x.0 x.1

    pub step_goes : a.lead ≡ lead.Goes → IsTaping S start count old fs (head_of a.rest) u new
    step_goes e =
        let l = leads lead.Goes e in
        subst (λ (h : Head). IsTaping S start count old fs h u new) (sym l.3) (passes now (top ∷ []) (follower S top) u new (refl, l.0, l.1, l.2, refl) l.4)

    -- less is left then
    pub step_goes_less : a.lead ≡ lead.Goes → length a.rest.left.now < length top.left
    step_goes_less e =
        let l = leads lead.Goes e in
        let f = fills S top (sound_of S top l.1) in
        omega (arith, ap (λ (h : Head). length h.left) l.3, f.rest, f.low, f.high, f.some)

    -- less is left in both
    pub step_less : (k : OpenRegion) → a.lead ≡ lead.Opens k → length a.rest.left.now + (length k.left.now + 4) ≤ length top.left
    step_less k e =
        let l = leads (lead.Opens k) e in
        omega (arith, ap (λ (h : Head). length h.left) l.3, inner_less S top (head_of k) l.1 l.2)

pub not_empty : (left : List ℕ) → false ≡ eqb (length left) 0 → left ≢ []
not_empty [] e = absurd cc
not_empty (x ∷ xs) e = λ f. absurd cc

pub empty : (left : List ℕ) → true ≡ eqb (length left) 0 → left ≡ []
empty left e = nil_from_length left (eqb-true (length left) 0 (sym e))

pub none_left : {A : Type 0} (xs : List A) → (0 < length xs → ⊥) → xs ≡ []
none_left [] f = refl
none_left (x ∷ xs) f = absurd (f (omega arith))

-- ---- what follows of the events

module _ {S : Shape} {start : Head} {count : ℕ} {old new : List Event} {t : Taped} (is : IsTaped S start count old new t) where
  -- there are no more events than bytes that were visited
  pub taped_few : t.count ≤ count + t.visits
  taped_few = omega (arith, is.counted, is.visits, trail_few S start)

  -- from the last event on the buffer is as it was
  pub taped_untouched : drop t.count new ≡ drop t.count old
  taped_untouched =
      let es = map (event_of S.order) (trail_of S start).0 in
      let n : t.count ≡ count + length es = is.counted ∙ ap (λ (k : ℕ). count + k) (sym (length-map (trail_of S start).0 (event_of S.order))) in
      ap (λ (xs : List Event). drop t.count xs) is.events ∙ ap (λ (k : ℕ). drop k (put_from count es old)) n ∙ put_untouched count es old ∙ ap (λ (k : ℕ). drop k old) (sym n)

pub taped_quarter : {S : Shape} {start : Head} {count : ℕ} {old new : List Event} {t : Taped} → IsTaped S start count old new t → 4 * t.count ≤ 4 * count + length start.left
taped_quarter {S = S} {start = start} is = omega (arith, is.counted, trail_quarter S start)

-- the visits have the bound of reading
pub taped_bound : (S : Shape) (ctx : Ctx) (l place : ℕ) (left : List ℕ) (count : ℕ) (old new : List Event) (t : Taped) → IsTaped S (start_of ctx l place left) count old new t → t.visits ≤ (S.depth - l + 1) * length left
taped_bound S ctx l place left count old new t is = omega (arith, is.visits, walk_low S ctx l place left)
