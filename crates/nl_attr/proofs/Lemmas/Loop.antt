-- Reading items one after the other.
use Rattle.nl_attr.proofs.Common.{◌≡◌, ℕ, ◌+◌, ◌%◌, List, [], ◌∷◌, ◌++◌, drop, None, Ok, Err, refl, ap, subst, ◌∙◌, add_assoc, ◌*◌, ◌/◌, ◌≤◌, min, length, Some, Result, arith, length-drop, ◌≢◌, suc, ◌<◌, Option, sym, slice_index, Part, HopPart, Route, Ctx, Order, Shape, kind_of, span_of, len_of, Region, flags_of, broken_length, IsPart, IsHopPart, ifindex_of, payload_of, after, GivesPart, GivesHop, span_given, Items, no_items, HopItems, no_hops, hop, Val, item, holds_of, Front, HopFront, items_of, hops_of, Outcome, and_then, map_value, more_visits, items_of_region, hops_of_region, attr_at, fault_visits, look_at, items_at, value_at, before, Spot, IsIn, IsWithinLimits, spot_of, room_in, levels_in, Advances, Fault, Reason, Sort, attr_head, hop_head, broken_container}
use Rattle.nl_attr.proofs.Lemmas.Reading.{items_step, hops_step, sound_within, payload_length, span_at_least, map_then, and_then_both, items_cut, hops_cut, container_counts}

pub items_before : (fs : List Front) → before fs no_items ≡ items_of fs
items_before [] = refl
items_before (f ∷ fs) = ap f (items_before fs)

pub before_push : {A : Type 0} (fs : List (A → A)) (f : A → A) (is : A) → before (fs ++ f ∷ []) is ≡ before fs (f is)
before_push [] f is = refl
before_push (g ∷ fs) f is = ap g (before_push fs f is)

pub map_more : {A B : Type 0} (h : A → B) (n : ℕ) (o : Outcome A) → map_value h (more_visits n o) ≡ more_visits n (map_value h o)
map_more h n (Ok x, v) = refl
map_more h n (Err e, v) = refl

module _ (S : Shape) (ctx : Ctx) (l base : ℕ) where
  -- what is left of a region is read
  abbrev pub rest_of : Region → Outcome Items
  rest_of r = items_of_region S ctx l (base + r.place) r.left

  pub part_step : (p : Part) (r : Region) → r.order ≡ S.order → broken_length r.order 4 2 r.left ≡ None → IsPart p r → rest_of r ≡ more_visits (span_of r.order 2 r.left) (and_then (attr_at S ctx l (base + p.place) p.number p.flags p.payload.now) (λ f. map_value f (rest_of (after r))))
  part_step p r o e is =
      items_step S ctx l (base + r.place) r.left (subst (λ (x : Order). broken_length x 4 2 r.left ≡ None) o e)
      ∙ rw (is.number, is.flags, is.place, is.payload, o) (ap (λ (k : ℕ). more_visits (span_of S.order 2 r.left) (and_then (attr_at S ctx l (base + r.place) (kind_of S.order r.left % 16384) (flags_of (kind_of S.order r.left)) (payload_of S.order 4 2 r.left)) (λ f. map_value f (items_of_region S ctx l k (drop (span_of S.order 2 r.left) r.left))))) (add_assoc base r.place (span_of S.order 2 r.left)))

pub hops_before : (fs : List HopFront) → before fs no_hops ≡ hops_of fs
hops_before [] = refl
hops_before (f ∷ fs) = ap f (hops_before fs)

module _ (S : Shape) (l base : ℕ) where
  -- what is left of a region of next hops is read
  abbrev pub hops_rest : Region → Outcome HopItems
  hops_rest r = hops_of_region S l (base + r.place) r.left

  pub hop_step : (p : HopPart) (r : Region) → r.order ≡ S.order → broken_length r.order 8 2 r.left ≡ None → IsHopPart p r → hops_rest r ≡ more_visits (span_of r.order 2 r.left) (and_then (items_of_region S Route (l + 1) (base + p.place + 8) p.rest.now) (λ is. map_value (hop p.flags p.hops p.ifindex is) (hops_rest (after r))))
  hop_step p r o e is =
      hops_step S l (base + r.place) r.left (subst (λ (x : Order). broken_length x 8 2 r.left ≡ None) o e)
      ∙ rw (is.flags, is.hops, is.ifindex, is.place, is.rest, o) (ap (λ (k : ℕ). more_visits (span_of S.order 2 r.left) (and_then (items_of_region S Route (l + 1) (base + r.place + 8) (payload_of S.order 8 2 r.left)) (λ is. map_value (hop (slice_index r.left 2) (slice_index r.left 3) (ifindex_of S.order r.left) is) (hops_of_region S l k (drop (span_of S.order 2 r.left) r.left))))) (add_assoc base r.place (span_of S.order 2 r.left)))

-- ---- the numbers of one turn of a walk

-- where a walk stands after an item
pub record Turns (h : ℕ) (r s : Region) (payload : List ℕ) : Type 0 where
  pub sound : broken_length r.order h 2 r.left ≡ None
  pub next : s ≡ after r
  pub order : s.order ≡ r.order
  pub place : s.place ≡ r.place + span_of r.order 2 r.left
  pub left : s.place + length s.left ≡ r.place + length r.left
  pub inside : length payload + h ≤ span_of r.order 2 r.left
  pub span : span_of r.order 2 r.left ≤ length r.left

span_within : (o : Order) (w : ℕ) (left : List ℕ) → span_of o w left ≤ length left
span_within o w left = below (len_of o w left) (length left) where
  below : (len n : ℕ) → min ((len + 3) / 4 * 4) n ≤ n
  below len n = omega arith

turns : (h : ℕ) (r s : Region) (payload : List ℕ) → broken_length r.order h 2 r.left ≡ None → s ≡ after r → payload ≡ payload_of r.order h 2 r.left → Turns h r s payload
turns h r s payload e next is =
    let w = sound_within r.order h 2 r.left e in
    record {
      sound = e;
      next = next;
      order = ap (λ (x : Region). x.order) next;
      place = ap (λ (x : Region). x.place) next;
      left = ap (λ (x : Region). x.place + length x.left) next ∙ omega (arith, length-drop (span_of r.order 2 r.left) r.left, span_within r.order 2 r.left);
      inside = omega (arith, ap (length {A = ℕ}) is, payload_length r.order h 2 r.left w, span_at_least r.order 2 r.left w.high);
      span = span_within r.order 2 r.left;
    }

pub part_turns : (r s : Region) (p : Part) → GivesPart r (Some (Ok p)) s → Turns 4 r s p.payload.now × IsPart p r
part_turns r s p g = (turns 4 r s p.payload.now g.1.0 g.3 g.2.payload, g.2)

pub hop_turns : (r s : Region) (p : HopPart) → GivesHop r (Some (Ok p)) s → Turns 8 r s p.rest.now × IsHopPart p r
hop_turns r s p g = (turns 8 r s p.rest.now g.1.0 g.3 g.2.rest, g.2)

-- the count after a step that gave an item
pub counted : {P : Type 0} (span : P → ℕ) (old new : ℕ) (x : Result P Fault) (p : P) → new ≡ old + span_given span (Some x) → x ≡ Ok p → new ≡ old + span p
counted span old new x p count is = subst (λ y. new ≡ old + span_given span (Some y)) is count

-- ---- what one turn of an open region does to the outcome

-- an item was collected
pub collected : {A : Type 0} (xs ys : List (A → A)) (f : A → A) (o : Outcome A) → ys ≡ xs ++ f ∷ [] → map_value (before ys) o ≡ map_value (λ is. before xs (f is)) o
collected xs ys f (Ok x, v) e = ap (λ y. (Ok y, v)) (ap (λ zs. before zs x) e ∙ before_push xs f x)
collected xs ys f (Err d, v) e = refl

plus_zero : {A : Type 0} (x : Result A Fault) (n k : ℕ) → k ≡ 0 → ◌≡◌ {A = Outcome A} (x, n + k) (x, n)
plus_zero x n k e = ap (λ (m : ℕ). (x, m)) (omega arith)

-- nothing is left
pub list_done : (S : Shape) (ctx : Ctx) (l place : ℕ) (left : List ℕ) (fs : List Front) (n : ℕ) → left ≡ [] → more_visits n (map_value (before fs) (items_of_region S ctx l place left)) ≡ (Ok (items_of fs), n)
unfolding items_at
list_done S ctx l place left fs n empty = rw empty (ap (λ (is : Items). (Ok is, n + 0)) (items_before fs) ∙ plus_zero (Ok (items_of fs)) n 0 refl)

pub hops_done : (S : Shape) (l place : ℕ) (left : List ℕ) (fs : List HopFront) (n : ℕ) → left ≡ [] → more_visits n (map_value (before fs) (hops_of_region S l place left)) ≡ (Ok (hops_of fs), n)
unfolding items_at
hops_done S l place left fs n empty = rw empty (ap (λ (hs : HopItems). (Ok hs, n + 0)) (hops_before fs) ∙ plus_zero (Ok (hops_of fs)) n 0 refl)

-- a head whose length is wrong
pub list_cut : (S : Shape) (ctx : Ctx) (l place : ℕ) (left : List ℕ) (make : Items → Items) (t : Reason) (n : ℕ) → left ≢ [] → broken_length S.order 4 2 left ≡ Some t → more_visits n (map_value make (items_of_region S ctx l place left)) ≡ (Err (record { place = place; reason = t }), n)
list_cut S ctx l place left make t n full e = ap (λ o. more_visits n (map_value make o)) (items_cut S ctx l place left t full e) ∙ plus_zero (Err (record { place = place; reason = t })) n 0 refl

pub hops_are_cut : (S : Shape) (l place : ℕ) (left : List ℕ) (make : HopItems → HopItems) (t : Reason) (n : ℕ) → left ≢ [] → broken_length S.order 8 2 left ≡ Some t → more_visits n (map_value make (hops_of_region S l place left)) ≡ (Err (record { place = place; reason = t }), n)
hops_are_cut S l place left make t n full e = ap (λ o. more_visits n (map_value make o)) (hops_cut S l place left t full e) ∙ plus_zero (Err (record { place = place; reason = t })) n 0 refl

map_after : {A B C : Type 0} (f : B → C) (o : Outcome A) (g : A → Outcome B) → map_value f (and_then o g) ≡ and_then o (λ x. map_value f (g x))
map_after f (Ok x, v) g = map_more f v (g x)
map_after f (Err e, v) g = refl

map_both : {A B C : Type 0} (f : B → C) (g : A → B) (o : Outcome A) → map_value f (map_value g o) ≡ map_value (λ x. f (g x)) o
map_both f g (Ok x, v) = refl
map_both f g (Err e, v) = refl

more_more : {A : Type 0} (n m : ℕ) (o : Outcome A) → more_visits n (more_visits m o) ≡ more_visits (n + m) o
more_more n m o = ap (λ (k : ℕ). (o.0, k)) (sym (add_assoc n m o.1))

pub zero_more : {A : Type 0} (o : Outcome A) → more_visits 0 o ≡ o
zero_more o = ap (λ (n : ℕ). (o.0, n)) (omega arith)

-- a container that breaks a rule
pub list_breaks : (S : Shape) (ctx : Ctx) (l base : ℕ) (p : Part) (r : Region) (make : Items → Items) (t : Reason) (n : ℕ) → r.order ≡ S.order → broken_length r.order 4 2 r.left ≡ None → IsPart p r → broken_container S l (holds_of ctx p.number p.flags) (length p.payload.now + 4) ≡ Some t
    → more_visits n (map_value make (rest_of S ctx l base r)) ≡ (Err (record { place = base + p.place; reason = t }), n + span_of r.order 2 r.left)
list_breaks S ctx l base p r make t n o e is bad =
    let rest = rest_of S ctx l base (after r) in
    let V = value_at S (holds_of ctx p.number p.flags) l (base + p.place + 4) p.payload.now in
    let mk : Val → Items → Items = λ v more. item p.number p.flags v more in
    ap (λ x. more_visits n (map_value make x)) (part_step S ctx l base p r o e is)
    ∙ ap (more_visits n) (map_more make (span_of r.order 2 r.left) _)
    ∙ ap (λ (b : Option Reason). more_visits n (more_visits (span_of r.order 2 r.left) (map_value make (and_then (and_then (look_at (base + p.place) 0 b) (λ _. map_value mk V)) (λ f. map_value f rest))))) bad
    ∙ more_more n (span_of r.order 2 r.left) _
    ∙ plus_zero (Err (record { place = base + p.place; reason = t })) (n + span_of r.order 2 r.left) (fault_visits t 0) (container_counts S l (holds_of ctx p.number p.flags) (length p.payload.now + 4) t 0 bad)

-- an attribute whose container is sound: its payload is read next, and then the region goes on
pub list_opens : (S : Shape) (ctx : Ctx) (l base : ℕ) (p : Part) (r s : Region) (front : List Front) (n : ℕ) → r.order ≡ S.order → broken_length r.order 4 2 r.left ≡ None → IsPart p r → s ≡ after r → broken_container S l (holds_of ctx p.number p.flags) (length p.payload.now + 4) ≡ None
    → more_visits n (map_value (before front) (rest_of S ctx l base r))
    ≡ more_visits (n + span_of r.order 2 r.left) (and_then (value_at S (holds_of ctx p.number p.flags) l (base + p.place + 4) p.payload.now) (λ v. map_value (λ is. before front (item p.number p.flags v is)) (rest_of S ctx l base s)))
list_opens S ctx l base p r s front n o e is next sound =
    let V = value_at S (holds_of ctx p.number p.flags) l (base + p.place + 4) p.payload.now in
    let rest = rest_of S ctx l base (after r) in
    let mk : Val → Items → Items = λ v more. item p.number p.flags v more in
    let make : Items → Items = before front in
    ap (λ x. more_visits n (map_value make x)) (part_step S ctx l base p r o e is)
    ∙ ap (more_visits n) (map_more make (span_of r.order 2 r.left) _)
    ∙ more_more n (span_of r.order 2 r.left) _
    ∙ ap (more_visits (n + span_of r.order 2 r.left)) (
    ap (λ (b : Option Reason). map_value make (and_then (and_then (look_at (base + p.place) 0 b) (λ _. map_value mk V)) (λ f. map_value f rest))) sound
    ∙ ap (λ (o : Outcome (Items → Items)). map_value make (and_then o (λ f. map_value f rest))) (zero_more (map_value mk V))
    ∙ ap (map_value make) (map_then mk V (λ f. map_value f rest))
    ∙ map_after make V (λ v. map_value (mk v) rest)
    ∙ and_then_both V V _ _ refl (λ v. map_both make (mk v) rest))
    ∙ ap (λ (x : Region). more_visits (n + span_of r.order 2 r.left) (and_then V (λ v. map_value (λ is. make (mk v is)) (rest_of S ctx l base x)))) (sym next)

-- the attributes of a next hop are read next, and then the region goes on
pub hops_open : (S : Shape) (l base : ℕ) (p : HopPart) (r s : Region) (front : List HopFront) (n : ℕ) → r.order ≡ S.order → broken_length r.order 8 2 r.left ≡ None → IsHopPart p r → s ≡ after r
    → more_visits n (map_value (before front) (hops_rest S l base r))
    ≡ more_visits (n + span_of r.order 2 r.left) (and_then (items_of_region S Route (l + 1) (base + p.place + 8) p.rest.now) (λ is. map_value (λ hs. before front (hop p.flags p.hops p.ifindex is hs)) (hops_rest S l base s)))
hops_open S l base p r s front n o e is next =
    let I = items_of_region S Route (l + 1) (base + p.place + 8) p.rest.now in
    let rest = hops_rest S l base (after r) in
    let mk : Items → HopItems → HopItems = λ is hs. hop p.flags p.hops p.ifindex is hs in
    let make : HopItems → HopItems = before front in
    ap (λ x. more_visits n (map_value make x)) (hop_step S l base p r o e is)
    ∙ ap (more_visits n) (map_more make (span_of r.order 2 r.left) _)
    ∙ more_more n (span_of r.order 2 r.left) _
    ∙ ap (more_visits (n + span_of r.order 2 r.left)) (
    map_after make I (λ is. map_value (mk is) rest)
    ∙ and_then_both I I _ _ refl (λ is. map_both make (mk is) rest))
    ∙ ap (λ (x : Region). more_visits (n + span_of r.order 2 r.left) (and_then I (λ is. map_value (λ hs. make (mk is hs)) (hops_rest S l base x)))) (sym next)

-- behind an item with this payload at this place
pub record Passes (s t : Spot) (place : ℕ) (payload : List ℕ) : Type 0 where
  pub goes : Advances s t
  pub inside : place + length payload ≤ t.base + t.region.place
  pub less : length t.region.left + suc (length payload) < length s.region.left

-- where the region stands then
pub passes : (sort : Sort) (h base level : ℕ) (r s : Region) (payload : List ℕ) (place : ℕ) → Turns h r s payload → 2 ≤ h → place ≡ base + r.place + h
    → Passes (record { sort = sort; base = base; level = level; region = r }) (record { sort = sort; base = base; level = level; region = s }) place payload
passes sort h base level r s payload place t two is = record {
  goes = record { sort = refl; base = refl; level = refl; order = t.order; end = t.left };
  inside = omega (arith, t.inside, t.place);
  less = omega (arith, t.inside, t.place, t.left, t.span);
}

-- the region of a next hop lies in it
pub hop_inner : (S : Shape) (s t i : Spot) (place : ℕ) (payload : List ℕ) → s.sort ≡ hop_head → IsWithinLimits S s → Passes s t place payload → i ≡ spot_of S attr_head place (s.level + 1) payload
    → IsIn S (room_in t) i × (length t.region.left + suc (length i.region.left) < length s.region.left)
hop_inner S s t i place payload kind w p is = rw is (
  record {
    level = ap (λ (n : ℕ). n + 1) (sym p.goes.level);
    inside = omega (arith, p.inside);
    limits = record {
      order = refl;
      level = let l : s.level + 1 ≤ S.depth = subst (λ (k : Sort). s.level + levels_in k ≤ S.depth) kind w.level in omega arith;
      size = omega (arith, w.size, p.goes.end, p.inside, p.less);
      place = omega (arith, w.place, p.goes.end, p.goes.base, p.inside);
    };
  },
  p.less,
)
