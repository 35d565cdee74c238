-- The heads of datagrams: where those behind a message and in it stand, and the order in which a scan comes to them.
use Rattle.nl_frame.proofs.Common.{◌≡◌, ℕ, ◌+◌, ◌*◌, ◌<◌, ◌≤◌, List, length, drop, Option, Some, None, refl, sym, subst, arith, length-drop, ◌≢◌, zero, suc, [], ◌∷◌, map, ap, ◌∙◌, length-map, map-append, Reason, Ctx, BrokenHead, Shape, Head, start_of, IsLawful, Costs, front, weigh, walk_bound, or_else_none, sound_within, span_at_least, payload_length, head_size, context_of, Form, least_body, form_at, span_at, payload_at, broken_frame, broken_body, broken_message, IsBrokenHead, facts_of, Trail, region_trail, trail_of, event_of, events_of}
use Rattle.std.proofs.Math.Nat.{mul-le-mul_left}
use Rattle.nl_attr.specs.Heads as region
use Rattle.nl_attr.specs.Grammar.{TrailOf, and_on, inner_trail, unless, trail_turn, trail_at}
use Rattle.nl_attr.specs.Grammar as grammar
use Rattle.nl_attr.proofs.Lemmas.Grammars as grammars
use Rattle.nl_attr.proofs.Lemmas.Scan.{room, span_within, visits_cost, few_cost}
use Rattle.nl_attr.proofs.Lemmas.Scan as regions
use Rattle.nl_frame.specs.declared.form.Form.TheVariants as form
use Rattle.nl_frame.specs.Heads.{AnyHead, header, inner, Rest, behind, region_in, region_of, some_inner, broken, unsound, uncounted, inner_of, heads, follower, place_of, left_of, IsFirstFault, Visits, whole}
use Rattle.nl_frame.proofs.Fronts.{long_of}

-- ---- the region of a message

-- it is one of attributes, above no level, and lies in the body
record IsRegion (place : ℕ) (payload : List ℕ) (h : Head) : Type 0 where
  pub low : place ≤ h.place
  pub high : h.place + length h.left ≤ place + length payload
  pub rooms : (d : ℕ) → room d h.sort h.level ≡ d + 1

region_start : (c : Ctx) (place n : ℕ) (payload : List ℕ) (h : Head) → n ≤ length payload → ◌≡◌ {A = Option Head} (Some (start_of c 0 (place + n) (drop n payload))) (Some h) → IsRegion place payload h
region_start c place n payload h le e = subst (IsRegion place payload) (same e) (record { low = omega arith; high = omega (arith, length-drop n payload); rooms = λ d. omega arith }) where
  same : {x y : Head} → ◌≡◌ {A = Option Head} (Some x) (Some y) → x ≡ y
  same e = cc

region_at : (f : Form) (place : ℕ) (payload : List ℕ) (h : Head) → least_body f ≤ length payload → region_in f place payload ≡ Some h → IsRegion place payload h
region_at (form.Object g) place payload h le e = region_start (context_of g) place (head_size g) payload h le e
region_at f place payload h le e = absurd cc

some_is : (o : Option Head) (k : AnyHead) → some_inner o ≡ Some k → (h : Head) × (o ≡ Some h) × (inner h ≡ k)
some_is None k e = absurd cc
some_is (Some h) k e = (h, refl, let f : ◌≡◌ {A = Option AnyHead} (Some (inner h)) (Some k) = e in cc)

module _ (S : Shape) where
  -- a message occupies its length at least, its body the rest of that, and what is left behind it is the rest
  pub record Fills (r : Rest) : Type 0 where
    pub low : 16 ≤ span_at S.order r.left
    pub body : length (payload_at S.order r.left) + 16 ≤ span_at S.order r.left
    pub rest : span_at S.order r.left + length (behind S r).left ≡ length r.left

  pub fills : (r : Rest) → broken_frame S.order r.left ≡ None → Fills r
  fills r e =
      let w = sound_within S.order 16 4 r.left e in
      let high = span_at_least S.order 4 r.left w.high in
      record { low = omega (arith, w.low, high); body = omega (arith, high, payload_length S.order 16 4 r.left w); rest = omega (arith, length-drop (span_at S.order r.left) r.left, span_within S.order 4 r.left) }

  framed : (r : Rest) → broken_message S.order r.left ≡ None → broken_frame S.order r.left ≡ None
  framed r e = (or_else_none _ _ e).0

  region_is : (r : Rest) (h : Head) → broken_message S.order r.left ≡ None → region_of S r ≡ Some h → IsRegion (r.place + 16) (payload_at S.order r.left) h
  region_is r h e is =
      let b = or_else_none (broken_frame S.order r.left) (broken_body (length (payload_at S.order r.left)) (form_at S.order r.left)) e in
      region_at (form_at S.order r.left) (r.place + 16) (payload_at S.order r.left) h (long_of (length (payload_at S.order r.left)) (least_body (form_at S.order r.left)) b.1) is

  -- ---- the grammar

  -- where the bytes end that are left
  abbrev finish : AnyHead → ℕ
  finish h = place_of h + length (left_of h)

  counts : (h : AnyHead) → broken S h ≡ None → uncounted S h ≡ None
  counts (header r) e = e
  counts (inner h) e = regions.sound_of S h e

  leads : (h : AnyHead) → uncounted S h ≡ None → unsound S h ≡ None
  leads (header r) e = framed r e
  leads (inner h) e = e

  later : (h : AnyHead) → unsound S h ≡ None → (place_of h < place_of (follower S h)) × (finish (follower S h) ≤ finish h)
  unfolding region.heads
  later (header r) e = let f = fills r e in (omega (arith, f.low), omega (arith, f.rest))
  later (inner h) e = (regions.laws S).behind h e

  within : (h k : AnyHead) → broken S h ≡ None → inner_of S h ≡ Some k → (place_of h < place_of k) × (finish k ≤ place_of (follower S h))
  unfolding region.heads
  within (header r) k e is =
      let s = some_is (region_of S r) k is in
      let f = fills r (framed r e) in
      let i = region_is r s.0 e s.1 in
      subst (λ (x : AnyHead). (r.place < place_of x) × (finish x ≤ r.place + span_at S.order r.left)) s.2 (omega (arith, i.low), omega (arith, i.high, f.body))
  within (inner h) k e is =
      let s = some_is (region.inner_of S h) k is in
      subst (λ (x : AnyHead). (h.place < place_of x) × (finish x ≤ h.place + region.span_at S h)) s.2 ((regions.laws S).within h s.0 e s.1)

  pub laws : IsLawful (heads S)
  unfolding heads region.heads
  laws = record { counts = counts; leads = leads; behind = later; within = within }

  -- ---- what heads cost

  abbrev pub either : ℕ → (Head → ℕ) → AnyHead → ℕ
  either n f (header r) = n
  either n f (inner h) = f h

  -- so much for each message, where a region has no more for each byte
  module _ (c n : ℕ) (cost rooms : Head → ℕ) (few : c ≤ n * 16) (inside : Costs (region.heads S) cost rooms) (top : (r : Rest) (h : Head) → broken_message S.order r.left ≡ None → region_of S r ≡ Some h → rooms h ≡ n) where
    alone : (h : AnyHead) → unsound S h ≡ None → either c cost h + either n rooms (follower S h) * length (left_of (follower S h)) ≤ either n rooms h * length (left_of h)
    unfolding heads region.heads
    alone (header r) e = let f = fills r e in subst (λ (x : ℕ). c + n * length (behind S r).left ≤ n * x) f.rest (omega (arith, few, mul-le-mul_left n f.low))
    alone (inner h) e = inside.alone h e

    holding : (h k : AnyHead) → broken S h ≡ None → inner_of S h ≡ Some k → either c cost h + (either n rooms k * length (left_of k) + either n rooms (follower S h) * length (left_of (follower S h))) ≤ either n rooms h * length (left_of h)
    unfolding heads region.heads
    holding (header r) k e is =
        let s = some_is (region_of S r) k is in
        let f = fills r (framed r e) in
        let i = region_is r s.0 e s.1 in
        let size : 16 + length s.0.left ≤ span_at S.order r.left = omega (arith, i.low, i.high, f.body) in
        subst (λ (x : AnyHead). c + (either n rooms x * length (left_of x) + n * length (behind S r).left) ≤ n * length r.left) s.2
        (subst (λ (m : ℕ). c + (m * length s.0.left + n * length (behind S r).left) ≤ n * length r.left) (sym (top r s.0 e s.1))
        (subst (λ (x : ℕ). c + (n * length s.0.left + n * length (behind S r).left) ≤ n * x) f.rest (omega (arith, few, mul-le-mul_left n size))))
    holding (inner h) k e is =
        let s = some_is (region.inner_of S h) k is in
        subst (λ (x : AnyHead). cost h + (either n rooms x * length (left_of x) + rooms (region.follower S h) * length (region.follower S h).left) ≤ rooms h * length h.left) s.2 (inside.holding h s.0 e s.1)

    pub costs : Costs (heads S) (either c cost) (either n rooms)
    unfolding heads
    costs = record { alone = alone; holding = holding }

  -- ---- what follows

  pub one_first_fault : (s : Rest) (p q : ℕ) (r t : Reason) → IsFirstFault S s p r → IsFirstFault S s q t → (p ≡ q) × (r ≡ t)
  one_first_fault s = grammars.one_first_fault (heads S) laws (header s)

  facts_place : (r : Reason) (h : AnyHead) → (facts_of S.order r h).fault.place ≡ place_of h
  facts_place r (header s) = refl
  facts_place r (inner h) = refl

  pub one_head_at_fault : (s : Rest) (b c : BrokenHead) → IsBrokenHead S s b → IsBrokenHead S s c → b.fault.place ≡ c.fault.place → b ≡ c
  unfolding heads region.heads
  one_head_at_fault s b c = grammars.one_broken (heads S) laws (header s) (facts_of S.order) b c facts_place

  pub some_sum : (s : Rest) (q : ℕ) → (total : ℕ) × Visits S s q total
  some_sum s = grammars.some_sum (heads S) laws (header s)

  pub one_sum : (s : Rest) (q a b : ℕ) → Visits S s q a → Visits S s q b → a ≡ b
  one_sum s = grammars.one_sum (heads S) laws (header s)

  -- the visits up to any place have a bound
  pub visits_bound : (d : List ℕ) (q total : ℕ) → Visits S (whole d) q total → total ≤ (S.depth + 1) * length d
  unfolding heads region.heads
  visits_bound d q total v =
      grammars.visits_bound (heads S) laws (header (whole d)) (either (S.depth + 1) (λ h. room S.depth h.sort h.level))
      (costs 0 (S.depth + 1) (region.heads S).visited (λ h. room S.depth h.sort h.level) (omega arith) (visits_cost S) (λ r h e is. (region_is r h e is).rooms S.depth)) q total v

-- ---- the order of a scan, message by message

module _ (S : Shape) where
  -- ---- the heads of a region

  -- as those of a datagram
  abbrev pub as_any : TrailOf Head → Trail
  as_any t = (map inner t.0, t.1)

  any_on : (i t : TrailOf Head) → and_on (as_any i) (as_any t) ≡ as_any (and_on i t)
  any_on (hs, None) t = ap (λ (l : List AnyHead). (l, t.1)) (sym (map-append inner hs t.0))
  any_on (hs, Some f) t = refl

  any_turn : (left : List ℕ) (o c : Option Reason) (h : Head) (i t : TrailOf Head) → (region.heads S).uncounted h ≡ c → trail_turn (heads S) left o (inner h) (as_any i) (as_any t) ≡ as_any (trail_turn (region.heads S) left o h i t)
  unfolding heads region.heads
  any_turn [] o c h i t e = refl
  any_turn (x ∷ xs) (Some r) c h i t e = ap (λ (l : List AnyHead). (l, Some (h.place, r))) (one ((region.heads S).uncounted h)) where
    one : (o : Option Reason) → unless o (inner h) ≡ map inner (unless o h)
    one None = refl
    one (Some q) = refl
  any_turn (x ∷ xs) None c h i t e = ap (front (inner h ∷ [])) (any_on i t)

  any_inside : (o : Option Head) (f : AnyHead → Trail) (g : Head → TrailOf Head) → ((k : Head) → f (inner k) ≡ as_any (g k)) → inner_trail (some_inner o) f ≡ as_any (inner_trail o g)
  any_inside None f g e = refl
  any_inside (Some k) f g e = e k

  any_at : (n : ℕ) (h : Head) → trail_at (heads S) n (inner h) ≡ as_any (trail_at (region.heads S) n h)
  unfolding trail_at heads region.heads
  any_at zero h = refl
  any_at (suc n) h =
      ap (λ (i : Trail). trail_turn (heads S) h.left (region.broken S h) (inner h) i (trail_at (heads S) n (inner (region.follower S h)))) (any_inside (region.inner_of S h) (λ k. trail_at (heads S) n k) (λ k. trail_at (region.heads S) n k) (any_at n))
      ∙ ap (trail_turn (heads S) h.left (region.broken S h) (inner h) (as_any (inner_trail (region.inner_of S h) (λ k. trail_at (region.heads S) n k)))) (any_at n (region.follower S h))
      ∙ any_turn h.left (region.broken S h) _ h _ _ refl

  inner_is : (o : Option Head) → inner_trail (some_inner o) (grammar.trail_of (heads S)) ≡ region_trail S o
  unfolding heads region.heads
  inner_is None = refl
  inner_is (Some h) = any_at (length h.left) h

  -- ---- message by message

  -- nothing is left
  pub trail_ends : (r : Rest) → r.left ≡ [] → trail_of S r ≡ ([], None)
  unfolding heads
  trail_ends r e = grammars.trail_ends (heads S) (laws S) (header r) e

  -- the header breaks a rule
  pub trail_stops : (r : Rest) (why : Reason) → r.left ≢ [] → broken_message S.order r.left ≡ Some why → trail_of S r ≡ ([], Some (r.place, why))
  unfolding heads
  trail_stops r why some e = grammars.trail_stops (heads S) (laws S) (header r) why some e ∙ ap (λ (o : Option Reason). (unless o (header r), Some (r.place, why))) e

  -- it breaks none
  pub trail_goes : (r : Rest) → r.left ≢ [] → broken_message S.order r.left ≡ None → trail_of S r ≡ front (header r ∷ []) (and_on (region_trail S (region_of S r)) (trail_of S (behind S r)))
  unfolding heads
  trail_goes r some e =
      grammars.trail_goes (heads S) (laws S) (header r) (some_inner (region_of S r)) some e refl
      ∙ ap (λ (i : Trail). front (header r ∷ []) (and_on i (trail_of S (behind S r)))) (inner_is (region_of S r))

  -- each head has four bytes of its own at least
  pub few_events : (r : Rest) → 4 * length (events_of S r) ≤ length r.left
  unfolding heads
  few_events r =
      omega (
        arith,
        walk_bound (heads S) (laws S) (header r) _ _ (costs S 4 1 (λ h. 4) (λ h. 1) (omega arith) (few_cost S) (λ r h e is. refl)),
        fours (trail_of S r).0,
        length-map (trail_of S r).0 (event_of S.order),
      ) where
        four : AnyHead → ℕ
        four (header r) = 4
        four (inner h) = 4

        fours : (hs : List AnyHead) → weigh (heads S) four hs ≡ 4 * length hs
        fours [] = omega arith
        fours (header r ∷ hs) = omega (arith, fours hs)
        fours (inner h ∷ hs) = omega (arith, fours hs)
