-- What is read ends as a walk over the heads does, and visits as much: at the first fault, or at the end where there is none.
use Rattle.nl_attr.proofs.Common.{◌≡◌, ℕ, zero, suc, ◌+◌, ◌-◌, ◌*◌, ◌≤◌, Bool, true, false, cond, ltb, ◌||◌, List, [], ◌∷◌, length, drop, Option, Some, None, Result, Ok, Err, refl, sym, ap, subst, ◌∙◌, arith, LONGEST_CONTAINER, Reason, Cut, BadLength, TooLong, TooDeep, Fault, Content, Ctx, Route, Shape, len_of, span_of, broken_length, payload_of, list, hops, Items, HopItems, Sort, attr_head, hop_head, Head, least, broken, broken_in, broken_container, content_at, or_else, span_at, inner_in, start_of, heads, FaultAt, IsFirstFault, Outcome, and_then, map_value, fault_visits, look_at, value_by, items_at, hops_at, items_of_region}
use Rattle.nl_attr.specs.declared.tree.Content.TheVariants as content
use Rattle.nl_attr.specs.Grammar.{Grammar, TrailOf, and_on, inner_trail, unless, trail_turn, trail_at, trail_of, visits_of}
use Rattle.nl_attr.specs.Grammar as grammar
use Rattle.nl_attr.specs.Visits.{Visits}
use Rattle.nl_attr.specs.Scanned.{without}
use Rattle.nl_attr.proofs.Lemmas.Grammars.{IsLawful, weigh-append, end, end_is, walk_bound}
use Rattle.nl_attr.proofs.Lemmas.Grammars as grammars
use Rattle.nl_attr.proofs.Lemmas.Scan.{laws, visits_cost}

abbrev pub SameEnd : {A : Type 0} → Result A Fault → Option (ℕ × Reason) → Type 0
SameEnd (Ok x) o = o ≡ None
SameEnd (Err f) o = o ≡ Some (f.place, f.reason)

-- how a reading ends that ends so
abbrev pub end_of : Option (ℕ × Reason) → Result (Unit {0}) Fault
end_of None = Ok tt
end_of (Some f) = Err (record { place = f.0; reason = f.1 })

module _ {H : Type 0} (g : Grammar H) where
  -- a reading and a walk end alike, and visit as much
  pub record Agrees {A : Type 0} (o : Outcome A) (t : TrailOf H) : Type 0 where
    pub end : SameEnd o.0 t.1
    pub sums : o.1 ≡ visits_of g t.0

  pub map_agrees : {A B : Type 0} (f : A → B) (o : Outcome A) (t : TrailOf H) → Agrees o t → Agrees (map_value f o) t
  map_agrees f (Ok x, v) t a = record { end = a.end; sums = a.sums }
  map_agrees f (Err x, v) t a = record { end = a.end; sums = a.sums }

  pub then_agrees : {A B : Type 0} (o : Outcome A) (f : A → Outcome B) (i t : TrailOf H) → Agrees o i → ((x : A) → Agrees (f x) t) → Agrees (and_then o f) (and_on i t)
  then_agrees (Ok x, v) f (hs, None) t a b = record { end = (b x).end; sums = omega (arith, a.sums, (b x).sums, weigh-append g g.visited hs t.0) }
  then_agrees (Ok x, v) f (hs, Some e) t a b = absurd (let e = a.end in cc)
  then_agrees (Err d, v) f (hs, None) t a b = absurd (let e = a.end in cc)
  then_agrees (Err d, v) f (hs, Some e) t a b = record { end = a.end; sums = a.sums }

  -- it ends as the walk does, and its visits are as many
  pub agrees_so : {A : Type 0} (o : Outcome A) (t : TrailOf H) → Agrees o t → without o ≡ (end_of t.1, visits_of g t.0)
  agrees_so (Ok x, v) (hs, o) a = rw (a.end, a.sums) refl
  agrees_so (Err d, v) (hs, o) a = rw (a.end, a.sums) refl

  module _ (law : IsLawful g) (s : H) {A : Type 0} (o : Outcome A) (a : Agrees o (trail_of g s)) where
    err_end : (f : Fault) (v : ℕ) → o ≡ (Err f, v) → (trail_of g s).1 ≡ Some (f.place, f.reason)
    err_end f v e = subst (λ (p : Outcome A). SameEnd p.0 (trail_of g s).1) e a.end

    ok_end : (x : A) (v : ℕ) → o ≡ (Ok x, v) → (trail_of g s).1 ≡ None
    ok_end x v e = subst (λ (p : Outcome A). SameEnd p.0 (trail_of g s).1) e a.end

    -- the visits of the walk are those of the reading
    sum_is : (f : Result A Fault) (v : ℕ) → o ≡ (f, v) → visits_of g (trail_of g s).0 ≡ v
    sum_is f v e = sym a.sums ∙ ap (λ (p : Outcome A). p.1) e

    -- a fault that is met is the first one
    pub err_first : (f : Fault) (v : ℕ) → o ≡ (Err f, v) → grammar.IsFirstFault g s f.place f.reason
    err_first f v e = subst (grammar.IsEnd g s) (err_end f v e) (end_is g law s)

    -- where all is read no head has a fault
    pub ok_sound : (x : A) (v : ℕ) → o ≡ (Ok x, v) → (p : ℕ) (r : Reason) → grammar.FaultAt g s p r → ⊥
    ok_sound x v e = subst (grammar.IsEnd g s) (ok_end x v e) (end_is g law s)

    -- the visits are those of the heads up to the fault
    pub err_visits : (f : Fault) (v : ℕ) → o ≡ (Err f, v) → grammar.Visits g s f.place v
    err_visits f v e = subst (grammar.Visits g s f.place) (sum_is (Err f) v e) (grammars.fault_visits g law s (f.place, f.reason) (err_end f v e))

    -- or all of them
    pub ok_visits : (x : A) (v : ℕ) → o ≡ (Ok x, v) → grammar.Visits g s (end g s) v
    ok_visits x v e = subst (grammar.Visits g s (end g s)) (sum_is (Ok x) v e) (grammars.all_visits g law s (ok_end x v e))

-- ---- which heads that break a rule are visited

by_length : (r : Reason) (a b : Bool) → cond a (Some Cut) (cond b (Some BadLength) None) ≡ Some r → (n : ℕ) → fault_visits r n ≡ 0
by_length r true b e n = ap (λ (o : Option Reason). elim o [ None ↦ 0 | Some s ↦ fault_visits s n ]) (sym e)
by_length r false true e n = ap (λ (o : Option Reason). elim o [ None ↦ 0 | Some s ↦ fault_visits s n ]) (sym e)
by_length r false false e n = absurd cc

by_container : (r : Reason) (a b : Bool) → cond a (Some TooLong) (cond b (Some TooDeep) None) ≡ Some r → (n : ℕ) → fault_visits r n ≡ n
by_container r true b e n = ap (λ (o : Option Reason). elim o [ None ↦ n | Some s ↦ fault_visits s n ]) (sym e)
by_container r false true e n = ap (λ (o : Option Reason). elim o [ None ↦ n | Some s ↦ fault_visits s n ]) (sym e)
by_container r false false e n = absurd cc

module _ (S : Shape) where
  in_container : (r : Reason) (l : ℕ) (c : Content) (len : ℕ) → broken_container S l c len ≡ Some r → (n : ℕ) → fault_visits r n ≡ n
  in_container r l content.Bytes len e n = absurd cc
  in_container r l (content.List c) len e n = by_container r (ltb LONGEST_CONTAINER len) (ltb S.depth (l + 1)) e n
  in_container r l content.Hops len e n = by_container r (ltb LONGEST_CONTAINER len) (ltb S.depth (l + 2)) e n

  -- none where the length is not sound
  abbrev seen : Option Reason → ℕ → ℕ
  seen None n = n
  seen (Some r) n = 0

  in_length : (r : Reason) (h : ℕ) (left : List ℕ) → broken_length S.order h 2 left ≡ Some r → (n : ℕ) → fault_visits r n ≡ 0
  in_length r h left e n = by_length r (ltb (length left) h) (ltb (len_of S.order 2 left) h || ltb (length left) (len_of S.order 2 left)) e n

  seen_so : (r : Reason) (s : Sort) (c : Ctx) (l : ℕ) (left : List ℕ) (a : Option Reason) → broken_length S.order (least s) 2 left ≡ a → broken_in S c l s left ≡ Some r → (n : ℕ) → fault_visits r n ≡ seen a n
  seen_so r hop_head c l left (Some q) is e n = in_length r 8 left e n
  seen_so r hop_head c l left None is e n = absurd (let f : ◌≡◌ {A = Option Reason} (Some r) None = sym e ∙ is in cc)
  seen_so r attr_head c l left (Some q) is e n = in_length r 4 left (is ∙ ap (λ (o : Option Reason). or_else o (broken_container S l (content_at S.order c left) (len_of S.order 2 left))) (sym is) ∙ e) n
  seen_so r attr_head c l left None is e n = in_container r l (content_at S.order c left) (len_of S.order 2 left) (ap (λ (o : Option Reason). or_else o (broken_container S l (content_at S.order c left) (len_of S.order 2 left))) (sym is) ∙ e) n

  stopped_sum : (h : Head) (r : Reason) → broken S h ≡ Some r → fault_visits r (span_at S h) ≡ visits_of (heads S) (unless ((heads S).uncounted h) h)
  unfolding heads
  stopped_sum h r e = seen_so r h.sort h.ctx h.level h.left ((heads S).uncounted h) refl e (span_at S h) ∙ weight ((heads S).uncounted h) where
    weight : (o : Option Reason) → seen o (span_at S h) ≡ visits_of (heads S) (unless o h)
    weight None = omega arith
    weight (Some q) = refl

  -- ---- reading

  turn_agrees : {B : Type 0} (x : ℕ) (xs : List ℕ) (r : Option Reason) (h : Head) (i t : TrailOf Head) (f : Unit {0} → Outcome B) → broken S h ≡ r → Agrees (heads S) (f tt) (and_on i t) → Agrees (heads S) (and_then (look_at h.place (span_at S h) r) f) (trail_turn (heads S) (x ∷ xs) r h i t)
  unfolding heads
  turn_agrees x xs (Some r) h i t f e a = record { end = refl; sums = stopped_sum h r e }
  turn_agrees x xs None h i t f e a = record { end = a.end; sums = omega (arith, a.sums) }

  value_agrees : (c : Content) (place l : ℕ) (payload : List ℕ) (is : Ctx → Outcome Items) (hs : Unit {0} → Outcome HopItems) (s : Head → TrailOf Head)
      → ((k : Ctx) → Agrees (heads S) (is k) (s (start_of k l place payload))) → Agrees (heads S) (hs tt) (s (record { place = place; sort = hop_head; ctx = Route; level = l; left = payload }))
      → Agrees (heads S) (value_by c payload is hs) (inner_trail (inner_in c place l payload) s)
  value_agrees content.Bytes place l payload is hs s a b = record { end = refl; sums = refl }
  value_agrees (content.List c) place l payload is hs s a b = map_agrees (heads S) list (is c) _ (a c)
  value_agrees content.Hops place l payload is hs s a b = map_agrees (heads S) hops (hs tt) _ b

  mutual
    unfolding items_at trail_at heads

    items_agree : (n : ℕ) (ctx : Ctx) (l place : ℕ) (left : List ℕ) → Agrees (heads S) (items_at S n ctx l place left) (trail_at (heads S) n (start_of ctx l place left))
    items_agree zero ctx l place left = record { end = refl; sums = refl }
    items_agree (suc n) ctx l place [] = record { end = refl; sums = refl }
    items_agree (suc n) ctx l place (b ∷ bs) =
        let left = b ∷ bs in
        turn_agrees b bs _ (start_of ctx l place left) _ _ _ refl (then_agrees (heads S) _ _ _ _
        (value_agrees (content_at S.order ctx left) (place + 4) (l + 1) (payload_of S.order 4 2 left) _ _ (λ k. trail_at (heads S) n k) (λ c. items_agree n c (l + 1) (place + 4) (payload_of S.order 4 2 left)) (hops_agree n Route (l + 1) (place + 4) (payload_of S.order 4 2 left)))
        (λ v. map_agrees (heads S) _ _ _ (items_agree n ctx l (place + span_of S.order 2 left) (drop (span_of S.order 2 left) left))))

    hops_agree : (n : ℕ) (ctx : Ctx) (l place : ℕ) (left : List ℕ) → Agrees (heads S) (hops_at S n l place left) (trail_at (heads S) n (record { place = place; sort = hop_head; ctx = ctx; level = l; left = left }))
    hops_agree zero ctx l place left = record { end = refl; sums = refl }
    hops_agree (suc n) ctx l place [] = record { end = refl; sums = refl }
    hops_agree (suc n) ctx l place (b ∷ bs) =
        let left = b ∷ bs in
        turn_agrees b bs _ (record { place = place; sort = hop_head; ctx = ctx; level = l; left = left }) _ _ _ refl (then_agrees (heads S) _ _ _ _
        (items_agree n Route (l + 1) (place + 8) (payload_of S.order 8 2 left))
        (λ is. map_agrees (heads S) _ _ _ (hops_agree n ctx l (place + span_of S.order 2 left) (drop (span_of S.order 2 left) left))))

  module _ (ctx : Ctx) (l place : ℕ) (left : List ℕ) where
    pub reads : Agrees (heads S) (items_of_region S ctx l place left) (trail_of (heads S) (start_of ctx l place left))
    unfolding heads
    reads = items_agree (length left) ctx l place left

    pub read_first : (f : Fault) (v : ℕ) → items_of_region S ctx l place left ≡ (Err f, v) → IsFirstFault S (start_of ctx l place left) f.place f.reason
    read_first f v e = err_first (heads S) (laws S) (start_of ctx l place left) _ reads f v e

    pub read_sound : (is : Items) (v : ℕ) → items_of_region S ctx l place left ≡ (Ok is, v) → (p : ℕ) (r : Reason) → FaultAt S (start_of ctx l place left) p r → ⊥
    read_sound is v e = ok_sound (heads S) (laws S) (start_of ctx l place left) _ reads is v e

    pub read_visits : (f : Fault) (v : ℕ) → items_of_region S ctx l place left ≡ (Err f, v) → Visits S (start_of ctx l place left) f.place v
    read_visits f v e = err_visits (heads S) (laws S) (start_of ctx l place left) _ reads f v e

    pub read_all_visits : (is : Items) (v : ℕ) → items_of_region S ctx l place left ≡ (Ok is, v) → Visits S (start_of ctx l place left) (place + length left) v
    unfolding heads
    read_all_visits is v e = ok_visits (heads S) (laws S) (start_of ctx l place left) _ reads is v e

    pub walk_low : visits_of (heads S) (trail_of (heads S) (start_of ctx l place left)).0 ≤ (S.depth - l + 1) * length left
    unfolding heads
    walk_low = walk_bound (heads S) (laws S) (start_of ctx l place left) (heads S).visited _ (visits_cost S)

    pub read_bound : (items_of_region S ctx l place left).1 ≤ (S.depth - l + 1) * length left
    read_bound = omega (arith, reads.sums, walk_low)
