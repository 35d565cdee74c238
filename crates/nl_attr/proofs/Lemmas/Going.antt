-- A region that is read on, item by item, before a turn is over.
use Rattle.nl_attr.proofs.Common.{◌≡◌, ℕ, ◌+◌, ◌-◌, ◌*◌, ◌≤◌, List, [], ◌∷◌, ◌++◌, length, None, Ok, Err, refl, sym, ap, subst, ◌∙◌, arith, Layout, Memory, Part, HopPart, Ctx, Content, ListRegion, Turn, ListError, Shape, span_of, Region, broken_length, IsPart, IsHopPart, after, broken_container, Outcome, and_then, map_value, more_visits, value_at, Val, bytes, Items, item, HopItems, holds_of, Front, before, Goes, FailsAs, Spot, list_spot, levels_in, IsWithinLimits, Advances, Moves}
use Rattle.nl_attr.specs.declared.tree.Content.TheVariants as content
use Rattle.nl_attr.specs.declared.stack.attributes.Turn.TheVariants as turn
use Rattle.nl_attr.proofs.Lemmas.Loop.{rest_of, part_step, hops_rest, hop_step, Passes, collected, list_opens, zero_more}

-- n visits were made before a region was read, and m since, up to this spot
pub record IsGoing {A : Type 0} (S : Shape) (n : ℕ) (whole : Outcome A) (start : Spot) (m : ℕ) (rest : Outcome A) (spot : Spot) : Type 0 where
  pub same : more_visits n whole ≡ more_visits m rest
  pub goes : Advances start spot
  pub less : length spot.region.left ≤ length start.region.left

pub begins : {A : Type 0} (S : Shape) (n : ℕ) (whole : Outcome A) (start : Spot) → IsGoing S n whole start n whole start
begins S n whole start = record { same = refl; goes = record { sort = refl; base = refl; level = refl; order = refl; end = refl }; less = omega arith }

advances_both : (s t u : Spot) → Advances s t → Advances t u → Advances s u
advances_both s t u a b = record { sort = b.sort ∙ a.sort; base = b.base ∙ a.base; level = b.level ∙ a.level; order = b.order ∙ a.order; end = b.end ∙ a.end }

module _ {A : Type 0} {S : Shape} {n : ℕ} {whole : Outcome A} {start : Spot} {m : ℕ} {rest : Outcome A} {spot : Spot} where
  pub goes_further : (k : ℕ) (next : Outcome A) (t : Spot) (place : ℕ) (payload : List ℕ) → IsGoing S n whole start m rest spot → more_visits m rest ≡ more_visits k next → Passes spot t place payload → IsGoing S n whole start k next t
  goes_further k next t place payload i e p = record {
    same = i.same ∙ e;
    goes = advances_both start spot t i.goes p.goes;
    less = omega (arith, i.less, p.less);
  }

  pub goes_on_to : (k : ℕ) (next : Outcome A) (t : Spot) → IsGoing S n whole start m rest spot → more_visits m rest ≡ more_visits k next → Advances spot t → length t.region.left ≤ length spot.region.left → IsGoing S n whole start k next t
  goes_on_to k next t i e a l = record { same = i.same ∙ e; goes = advances_both start spot t i.goes a; less = omega (arith, i.less, l) }

  pub stays_within : IsGoing S n whole start m rest spot → IsWithinLimits S start → IsWithinLimits S spot
  stays_within i w = record {
    order = i.goes.order ∙ w.order;
    level = let l : spot.level + levels_in start.sort ≤ S.depth = omega (arith, i.goes.level, w.level) in subst (λ k. spot.level + levels_in k ≤ S.depth) (sym i.goes.sort) l;
    size = omega (arith, i.goes.end, w.size);
    place = omega (arith, i.goes.base, i.goes.end, w.place);
  }

  pub visits_so_far : IsGoing S n whole start m rest spot → m + rest.1 ≡ n + whole.1
  visits_so_far i = sym (ap (λ (o : Outcome A). o.1) i.same)

  pub fails_so : (k : ℕ) (e : ListError) → IsGoing S n whole start m rest spot → FailsAs m rest k e → FailsAs n whole k e
  fails_so k (Layout f) i g = i.same ∙ g
  fails_so k Memory i g = omega (arith, g, visits_so_far i)

module _ {S : Shape} {n : ℕ} {whole : Outcome Items} {start : Spot} {m : ℕ} {rest : Outcome Items} {spot : Spot} where
  pub turns_so : (k : ℕ) (r : ListRegion) (t : Turn) → IsGoing S n whole start m rest spot → Goes S m rest k r t → Goes S n whole k r t
  turns_so k r turn.Ends i g = i.same ∙ g
  turns_so k r (turn.Opens p) i g = i.same ∙ g
  turns_so k r (turn.Fails e) i g = fails_so k e i g

  pub moves_so : (r : ListRegion) (t : Turn) → IsGoing S n whole start m rest spot → Moves S spot r t → Moves S start r t
  moves_so r turn.Ends i v = tt
  moves_so r (turn.Opens p) i v = (advances_both start spot (list_spot r) i.goes v.0, v.1, omega (arith, v.2, i.less))
  moves_so r (turn.Fails e) i v = tt

-- an attribute of bytes is collected
pub list_leaf : (S : Shape) (ctx : Ctx) (l base : ℕ) (p : Part) (r s : Region) (front longer : List Front) (n : ℕ) → r.order ≡ S.order → broken_length r.order 4 2 r.left ≡ None → IsPart p r → s ≡ after r → holds_of ctx p.number p.flags ≡ content.Bytes → longer ≡ front ++ item p.number p.flags (bytes p.payload.now) ∷ []
    → more_visits n (map_value (before front) (rest_of S ctx l base r)) ≡ more_visits (n + span_of r.order 2 r.left) (map_value (before longer) (rest_of S ctx l base s))
list_leaf S ctx l base p r s front longer n o e is next holds kept =
    let V : Content → Outcome Val = λ c. value_at S c l (base + p.place + 4) p.payload.now in
    let goes : Val → Outcome Items = λ v. map_value (λ is. before front (item p.number p.flags v is)) (rest_of S ctx l base s) in
    list_opens S ctx l base p r s front n o e is next (ap (λ (c : Content). broken_container S l c (length p.payload.now + 4)) holds)
    ∙ ap (λ (c : Content). more_visits (n + span_of r.order 2 r.left) (and_then (V c) goes)) holds
    ∙ ap (more_visits (n + span_of r.order 2 r.left)) (zero_more (goes (bytes p.payload.now)))
    ∙ ap (λ (x : Outcome Items). more_visits (n + span_of r.order 2 r.left) x) (sym (collected front longer (item p.number p.flags (bytes p.payload.now)) (rest_of S ctx l base s) kept))

map_visits : {A B : Type 0} (f : A → B) (o : Outcome A) → (map_value f o).1 ≡ o.1
map_visits f (Ok x, v) = refl
map_visits f (Err e, v) = refl

-- an attribute at the front is among the visits that are left
pub leaf_visits : (S : Shape) (ctx : Ctx) (l base : ℕ) (p : Part) (r : Region) (make : Items → Items) → r.order ≡ S.order → broken_length r.order 4 2 r.left ≡ None → IsPart p r → span_of r.order 2 r.left ≤ (map_value make (rest_of S ctx l base r)).1
leaf_visits S ctx l base p r make o e is =
    omega (arith, ap (λ (x : Outcome Items). x.1) (part_step S ctx l base p r o e is), map_visits make (rest_of S ctx l base r))

pub hop_visits : (S : Shape) (l base : ℕ) (p : HopPart) (r : Region) (make : HopItems → HopItems) → r.order ≡ S.order → broken_length r.order 8 2 r.left ≡ None → IsHopPart p r → span_of r.order 2 r.left ≤ (map_value make (hops_rest S l base r)).1
hop_visits S l base p r make o e is =
    omega (arith, ap (λ (x : Outcome HopItems). x.1) (hop_step S l base p r o e is), map_visits make (hops_rest S l base r))
