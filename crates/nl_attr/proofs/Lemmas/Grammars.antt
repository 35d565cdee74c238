-- The heads of every grammar whose items lie behind their heads, one after another: each stands at a place of its own, and a walk comes to them in the order of their places.
use Rattle.nl_attr.proofs.Common.{◌≡◌, ◌≢◌, ℕ, zero, suc, ◌+◌, ◌*◌, ◌<◌, ◌≤◌, ◌⊎◌, ◌↔◌, inl, inr, List, [], ◌∷◌, ◌++◌, length, map, slice_index, Option, Some, None, refl, sym, ap, subst, ◌∙◌, arith, append_assoc, cases_lt, nil_from_length, AllByRecursion, All, Contains, Reason}
use Rattle.std.proofs.lemmas.List.Elements.{All-contains, All-from_recursion, Contains-append_right}
use Rattle.std.specs.List.Sorted.{IsStrictlyIncreasing}
use Rattle.nl_attr.specs.declared.broken.BrokenHead.{BrokenHead}
use Rattle.nl_attr.specs.Grammar.{Grammar, Rises, Has, spans, VisitsBy, TrailOf, and_on, inner_trail, unless, HeadAt, first, next, inside, Counts, IsFirstFault, visit_of, visits_of, IsVisit, Visits, trail_turn, trail_at, trail_of, IsEnd, UpTo}

-- ---- lists

pub no_length : (xs : List ℕ) → xs ≢ [] → 0 < length xs
no_length [] h = absurd (h refl)
no_length (x ∷ xs) h = omega arith

pub some_left : (xs : List ℕ) → 0 < length xs → xs ≢ []
some_left [] h = absurd (omega arith)
some_left (x ∷ xs) h = λ e. absurd cc

pub clash : {X Y : Type 0} (x : X) (o : Option X) → o ≡ None → o ≡ Some x → Y
clash x o e f = absurd cc

pub some_same : {X : Type 0} (o : Option X) (x y : X) → o ≡ Some x → o ≡ Some y → x ≡ y
some_same o x y e f = cc

module _ {X : Type 0} where
  has-left : (xs ys : List X) (x : X) → Has xs x → Has (xs ++ ys) x
  has-left [] ys x h = absurd h
  has-left (y ∷ xs) ys x (inl e) = inl e
  has-left (y ∷ xs) ys x (inr h) = inr (has-left xs ys x h)

  has-right : (xs ys : List X) (x : X) → Has ys x → Has (xs ++ ys) x
  has-right [] ys x h = h
  has-right (y ∷ xs) ys x h = inr (has-right xs ys x h)

  has-map : {Y : Type 0} (f : X → Y) (xs : List X) (x : X) → Has xs x → Has (map f xs) (f x)
  has-map f [] x h = absurd h
  has-map f (y ∷ xs) x (inl e) = inl (ap f e)
  has-map f (y ∷ xs) x (inr h) = inr (has-map f xs x h)

  all-append : (P : X → Type 0) (xs ys : List X) → AllByRecursion P xs → AllByRecursion P ys → AllByRecursion P (xs ++ ys)
  all-append P [] ys h k = k
  all-append P (x ∷ xs) ys h k = (h.0, all-append P xs ys h.1 k)

  -- what holds of each that is in the list
  all-of : {Y : Type 0} (f : X → Y) (P : Y → Type 0) (xs : List X) → ((x : X) → Has xs x → P (f x)) → AllByRecursion P (map f xs)
  all-of f P [] h = tt
  all-of f P (x ∷ xs) h = (h x (inl refl), all-of f P xs (λ y g. h y (inr g)))

  each-of : (P : X → Type 0) (xs : List X) → ((x : X) → Has xs x → P x) → AllByRecursion P xs
  each-of P [] h = tt
  each-of P (x ∷ xs) h = (h x (inl refl), each-of P xs (λ y g. h y (inr g)))

  has-each : (P : X → Type 0) (xs : List X) (x : X) → AllByRecursion P xs → Has xs x → P x
  has-each P [] x h g = absurd g
  has-each P (y ∷ xs) x h (inl e) = subst P e h.0
  has-each P (y ∷ xs) x h (inr g) = has-each P xs x h.1 g

  contains : (xs : List X) (x : X) → Has xs x → Contains xs x
  contains [] x h = absurd h
  contains (y ∷ xs) x (inl e) = (0, omega arith, e)
  contains (y ∷ xs) x (inr h) = Contains-append_right (y ∷ []) xs x (contains xs x h)

  contained : (xs : List X) (x : X) → Contains xs x → Has xs x
  contained xs x c = All-contains (Has xs) xs x (All-from_recursion (Has xs) xs (each-of (Has xs) xs (λ y g. g))) c

-- ---- visits have one sum

taken : (ws : List (ℕ × ℕ)) (v : ℕ × ℕ) → Has ws v → (us : List (ℕ × ℕ)) × (spans ws ≡ v.1 + spans us) × ((x : ℕ × ℕ) → Has ws x → (x ≡ v → ⊥) → Has us x)
taken [] v h = absurd h
taken (w ∷ ws) v (inl e) = (ws, ap (λ (x : ℕ × ℕ). x.1 + spans ws) e, λ x h ne. elim h [ inl f ↦ absurd (ne (sym f ∙ e)) | inr g ↦ g ])
taken (w ∷ ws) v (inr h) =
    let r = taken ws v h in
    (w ∷ r.0, omega (arith, r.1), λ x g ne. elim g [ inl f ↦ inl f | inr t ↦ inr (r.2 x t ne) ])

rises_later : (p m : ℕ) (vs : List (ℕ × ℕ)) (x : ℕ × ℕ) → Rises p m vs → Has vs x → p ≤ x.0
rises_later p m [] x h g = absurd g
rises_later p m (v ∷ vs) x h (inl e) = omega (arith, h.0, ap (λ (y : ℕ × ℕ). y.0) e)
rises_later p m (v ∷ vs) x h (inr g) = omega (arith, h.0, rises_later (suc v.0) m vs x h.2 g)

spans_below : (p m : ℕ) (vs ws : List (ℕ × ℕ)) → Rises p m vs → ((x : ℕ × ℕ) → Has vs x → Has ws x) → spans vs ≤ spans ws
spans_below p m [] ws h sub = omega arith
spans_below p m (v ∷ vs) ws h sub =
    let t = taken ws v (sub v (inl refl)) in
    let rest = spans_below (suc v.0) m vs t.0 h.2 (λ x g. t.2 x (sub x (inr g)) (λ e. absurd (omega (arith, rises_later (suc v.0) m vs x h.2 g, ap (λ (y : ℕ × ℕ). y.0) e)))) in
    omega (arith, t.1, rest)

one_sum_by : (Is : ℕ × ℕ → Type 0) (q a b : ℕ) → VisitsBy Is q a → VisitsBy Is q b → a ≡ b
one_sum_by Is q a b v w =
    let low = spans_below 0 (suc q) v.all w.all v.rises (λ x h. w.every x (has-each Is v.all x v.each h)) in
    let high = spans_below 0 (suc q) w.all v.all w.rises (λ x h. v.every x (has-each Is w.all x w.each h)) in
    omega (arith, v.sums, w.sums, low, high)

-- ---- trails

-- behind these heads
abbrev pub front : {H : Type 0} → List H → TrailOf H → TrailOf H
front hs t = (hs ++ t.0, t.1)

pub front_front : {H : Type 0} (hs gs : List H) (t : TrailOf H) → front hs (front gs t) ≡ front (hs ++ gs) t
front_front {H} hs gs t = ap (λ (l : List H). (l, t.1)) (sym (append_assoc hs gs t.0))

pub front_on : {H : Type 0} (hs : List H) (x y : TrailOf H) → and_on (front hs x) y ≡ front hs (and_on x y)
front_on {H} hs (gs, None) y = ap (λ (l : List H). (l, y.1)) (append_assoc hs gs y.0)
front_on hs (gs, Some f) y = refl

module _ {H : Type 0} (g : Grammar H) where
  -- ---- what is known of a grammar

  -- where the region of a head ends
  abbrev pub end : H → ℕ
  end h = g.place h + length (g.left h)

  -- a head that breaks no rule counts, and one that counts leads on; the head behind an item stands behind its head, the one inside it between both, and neither region is longer
  pub record IsLawful : Type 0 where
    pub counts : (h : H) → g.broken h ≡ None → Counts g h
    pub leads : (h : H) → Counts g h → g.unsound h ≡ None
    pub behind : (h : H) → g.unsound h ≡ None → (g.place h < g.place (g.follower h)) × (end (g.follower h) ≤ end h)
    pub within : (h k : H) → g.broken h ≡ None → g.inner h ≡ Some k → (g.place h < g.place k) × (end k ≤ g.place (g.follower h))

  -- what so much for each head comes to has a bound by the bytes that are left: so many for each of them
  pub record Costs (cost room : H → ℕ) : Type 0 where
    pub alone : (h : H) → g.unsound h ≡ None → cost h + room (g.follower h) * length (g.left (g.follower h)) ≤ room h * length (g.left h)
    pub holding : (h k : H) → g.broken h ≡ None → g.inner h ≡ Some k → cost h + (room k * length (g.left k) + room (g.follower h) * length (g.left (g.follower h))) ≤ room h * length (g.left h)

  -- ---- heads that rise

  abbrev Up : ℕ → ℕ → List H → Type 0
  Up p m hs = Rises p m (map (visit_of g) hs)

  up_from : (p q m : ℕ) (hs : List H) → p ≤ q → Up q m hs → Up p m hs
  up_from p q m [] le u = omega (arith, le, u)
  up_from p q m (h ∷ hs) le u = (omega (arith, le, u.0), u.1, u.2)

  up_to : (p m n : ℕ) (hs : List H) → m ≤ n → Up p m hs → Up p n hs
  up_to p m n [] le u = omega (arith, le, u)
  up_to p m n (h ∷ hs) le u = (u.0, omega (arith, le, u.1), up_to (suc (g.place h)) m n hs le u.2)

  up_order : (p m : ℕ) (hs : List H) → Up p m hs → p ≤ m
  up_order p m [] u = u
  up_order p m (h ∷ hs) u = omega (arith, u.0, u.1)

  up_append : (p m e : ℕ) (hs gs : List H) → Up p m hs → Up m e gs → Up p e (hs ++ gs)
  up_append p m e [] gs u v = up_from p m e gs u v
  up_append p m e (h ∷ hs) gs u v = (u.0, omega (arith, u.1, up_order m e gs v), up_append (suc (g.place h)) m e hs gs u.2 v)

  up_within : (p m : ℕ) (hs : List H) (h : H) → Up p m hs → Has hs h → (p ≤ g.place h) × (g.place h < m)
  up_within p m [] h u x = absurd x
  up_within p m (k ∷ hs) h u (inl e) = subst (λ (y : H). (p ≤ g.place y) × (g.place y < m)) e (u.0, u.1)
  up_within p m (k ∷ hs) h u (inr x) = let w = up_within (suc (g.place k)) m hs h u.2 x in (omega (arith, u.0, w.0), w.1)

  up_one : (p m : ℕ) (hs : List H) (h k : H) → Up p m hs → Has hs h → Has hs k → g.place h ≡ g.place k → h ≡ k
  up_one p m [] h k u x y e = absurd x
  up_one p m (j ∷ hs) h k u (inl x) (inl y) e = sym x ∙ y
  up_one p m (j ∷ hs) h k u (inl x) (inr y) e = absurd (omega (arith, e, ap g.place x, (up_within (suc (g.place j)) m hs k u.2 y).0))
  up_one p m (j ∷ hs) h k u (inr x) (inl y) e = absurd (omega (arith, e, ap g.place y, (up_within (suc (g.place j)) m hs h u.2 x).0))
  up_one p m (j ∷ hs) h k u (inr x) (inr y) e = up_one (suc (g.place j)) m hs h k u.2 x y e

  increasing_on : (x y : ℕ) (xs : List ℕ) → x < y → IsStrictlyIncreasing (y ∷ xs) → IsStrictlyIncreasing (x ∷ y ∷ xs)
  increasing_on x y xs lt r zero below = lt
  increasing_on x y xs lt r (suc k) below = subst (λ (n : ℕ). slice_index (y ∷ xs) k < slice_index (x ∷ y ∷ xs) n) (again k) (r k (omega (arith, below))) where
    again : (k : ℕ) → suc (k + 1) ≡ suc k + 1
    again k = omega arith

  up_increasing : (p m : ℕ) (hs : List H) → Up p m hs → IsStrictlyIncreasing (map g.place hs)
  up_increasing p m [] u = λ k lt. absurd (omega arith)
  up_increasing p m (h ∷ []) u = λ k lt. absurd (omega arith)
  up_increasing p m (h ∷ k ∷ hs) u = increasing_on (g.place h) (g.place k) (map g.place hs) u.2.0 (up_increasing (suc (g.place h)) m (k ∷ hs) u.2)

  -- what so much for each head comes to
  abbrev pub weigh : (H → ℕ) → List H → ℕ
  weigh cost hs = spans (map (λ h. (g.place h, cost h)) hs)

  pub weigh-append : (cost : H → ℕ) (hs gs : List H) → weigh cost (hs ++ gs) ≡ weigh cost hs + weigh cost gs
  weigh-append cost [] gs = omega arith
  weigh-append cost (h ∷ hs) gs = omega (arith, weigh-append cost hs gs)

  -- of those that count
  abbrev total : (H → ℕ) → List H → ℕ
  total cost [] = 0
  total cost (h ∷ hs) = weigh cost (unless (g.uncounted h) h) + total cost hs

  total-append : (cost : H → ℕ) (hs gs : List H) → total cost (hs ++ gs) ≡ total cost hs + total cost gs
  total-append cost [] gs = omega arith
  total-append cost (h ∷ hs) gs = omega (arith, total-append cost hs gs)

  counted : (cost : H → ℕ) (h : H) (o : Option Reason) → weigh cost (unless o h) ≤ cost h
  counted cost h None = omega arith
  counted cost h (Some r) = omega arith

  -- ---- heads up to the first that breaks a rule

  abbrev cut_turn : Option Reason → H → TrailOf H → TrailOf H
  cut_turn None h t = (h ∷ t.0, t.1)
  cut_turn (Some r) h t = (unless (g.uncounted h) h, Some (g.place h, r))

  abbrev cut : List H → TrailOf H
  cut [] = ([], None)
  cut (h ∷ hs) = cut_turn (g.broken h) h (cut hs)

  cut-append : (hs gs : List H) → and_on (cut hs) (cut gs) ≡ cut (hs ++ gs)
  cut-append [] gs = refl
  cut-append (h ∷ hs) gs = by (g.broken h) (cut-append hs gs) where
    on : (h : H) (t u : TrailOf H) → and_on (h ∷ t.0, t.1) u ≡ front (h ∷ []) (and_on t u)
    on h (hs, None) u = refl
    on h (hs, Some f) u = refl

    by : (o : Option Reason) → and_on (cut hs) (cut gs) ≡ cut (hs ++ gs) → and_on (cut_turn o h (cut hs)) (cut gs) ≡ cut_turn o h (cut (hs ++ gs))
    by None e = on h (cut hs) (cut gs) ∙ ap (front (h ∷ [])) e
    by (Some r) e = refl

  abbrev EndsAt : List H → Option (ℕ × Reason) → Type 0
  EndsAt hs None = (h : H) → Has hs h → g.broken h ≡ None
  EndsAt hs (Some f) = ((h : H) × Has hs h × (g.place h ≡ f.0) × (g.broken h ≡ Some f.1)) × ((h : H) (r : Reason) → Has hs h → g.broken h ≡ Some r → f.0 ≤ g.place h)

  record IsCut (p m : ℕ) (hs : List H) (t : TrailOf H) : Type 0 where
    pub rises : Up p m t.0
    pub from : (h : H) → Has t.0 h → Has hs h × Counts g h × UpTo t.1 (g.place h)
    pub every : (h : H) → Has hs h → Counts g h → UpTo t.1 (g.place h) → Has t.0 h
    pub ends : EndsAt hs t.1
    pub sum : (cost : H → ℕ) → weigh cost t.0 ≤ total cost hs

  module _ (p m : ℕ) (h : H) (hs : List H) (u : Up p m (h ∷ hs)) where
    -- the first breaks a rule
    cut_here : (r : Reason) (o : Option Reason) → g.broken h ≡ Some r → g.uncounted h ≡ o → IsCut p m (h ∷ hs) (unless o h, Some (g.place h, r))
    cut_here r o e is = record {
      rises = rises o;
      from = from o is;
      every = λ k x c le. elim x [ inl y ↦ every o (sym is ∙ ap g.uncounted y ∙ c) k y | inr y ↦ absurd (omega (arith, le, (up_within (suc (g.place h)) m hs k u.2 y).0)) ];
      ends = ((h, inl refl, refl, e), λ k t x y. least k x);
      sum = λ cost. omega (arith, ap (λ (o : Option Reason). weigh cost (unless o h)) is);
    } where
      rises : (o : Option Reason) → Up p m (unless o h)
      rises None = (u.0, u.1, omega (arith, u.1))
      rises (Some q) = omega (arith, u.0, u.1)

      from : (o : Option Reason) → g.uncounted h ≡ o → (k : H) → Has (unless o h) k → Has (h ∷ hs) k × Counts g k × (g.place k ≤ g.place h)
      from None is k (inl x) = (inl x, ap g.uncounted (sym x) ∙ is, omega (arith, ap g.place x))
      from None is k (inr x) = absurd x
      from (Some q) is k x = absurd x

      every : (o : Option Reason) → o ≡ None → (k : H) → h ≡ k → Has (unless o h) k
      every None e k x = inl x
      every (Some q) e k x = absurd cc

      least : (k : H) → Has (h ∷ hs) k → g.place h ≤ g.place k
      least k (inl x) = omega (arith, ap g.place x)
      least k (inr x) = omega (arith, (up_within (suc (g.place h)) m hs k u.2 x).0)

    -- or it breaks none
    cut_on : (t : TrailOf H) → g.broken h ≡ None → Counts g h → IsCut (suc (g.place h)) m hs t → IsCut p m (h ∷ hs) (h ∷ t.0, t.1)
    cut_on (gs, o) e c i = record {
      rises = (u.0, u.1, i.rises);
      from = λ k x. elim x [ inl y ↦ (inl y, ap g.uncounted (sym y) ∙ c, subst (λ (z : H). UpTo o (g.place z)) y (own o i.ends)) | inr y ↦ (let f = i.from k y in (inr f.0, f.1, f.2)) ];
      every = λ k x d le. elim x [ inl y ↦ inl y | inr y ↦ inr (i.every k y d le) ];
      ends = ends o i.ends;
      sum = λ cost. omega (arith, i.sum cost, ap (λ (o : Option Reason). weigh cost (unless o h)) c);
    } where
      own : (o : Option (ℕ × Reason)) → EndsAt hs o → UpTo o (g.place h)
      own None x = tt
      own (Some f) x = omega (arith, x.0.2, (up_within (suc (g.place h)) m hs x.0.0 u.2 x.0.1).0)

      ends : (o : Option (ℕ × Reason)) → EndsAt hs o → EndsAt (h ∷ hs) o
      ends None x = λ k y. elim y [ inl z ↦ ap g.broken (sym z) ∙ e | inr z ↦ x k z ]
      ends (Some f) x = ((x.0.0, inr x.0.1, x.0.2, x.0.3), λ k r y b. elim y [ inl z ↦ clash r (g.broken h) e (ap g.broken z ∙ b) | inr z ↦ x.1 k r z b ])

  -- those of heads that rise which count, up to a place
  record Front (p m q : ℕ) (hs : List H) : Type 0 where
    pub some : List H
    pub rises : Up p m some
    pub from : (h : H) → Has some h → Has hs h × Counts g h × (g.place h ≤ q)
    pub every : (h : H) → Has hs h → Counts g h → g.place h ≤ q → Has some h
    pub sum : (cost : H → ℕ) → weigh cost some ≤ total cost hs

  front_of : (p m q : ℕ) (hs : List H) → Up p m hs → Front p m q hs
  front_of p m q [] u = record { some = []; rises = u; from = λ h x. absurd x; every = λ h x c le. x; sum = λ cost. omega arith }
  front_of p m q (h ∷ hs) u = by (g.uncounted h) refl (cases_lt q (g.place h)) (front_of (suc (g.place h)) m q hs u.2) where
    without : Front (suc (g.place h)) m q hs → ((k : H) → h ≡ k → Counts g k → g.place k ≤ q → ⊥) → Front p m q (h ∷ hs)
    without f never = record {
      some = f.some;
      rises = up_from p (suc (g.place h)) m f.some (omega (arith, u.0)) f.rises;
      from = λ k x. let y = f.from k x in (inr y.0, y.1, y.2);
      every = λ k x c le. elim x [ inl y ↦ absurd (never k y c le) | inr y ↦ f.every k y c le ];
      sum = λ cost. omega (arith, f.sum cost);
    }

    by : (o : Option Reason) → g.uncounted h ≡ o → (q < g.place h) ⊎ (g.place h ≤ q) → Front (suc (g.place h)) m q hs → Front p m q (h ∷ hs)
    by None e (inl lt) f = without f (λ k x c le. omega (arith, lt, le, ap g.place x))
    by None e (inr le) f = record {
      some = h ∷ f.some;
      rises = (u.0, u.1, f.rises);
      from = λ k x. elim x [ inl y ↦ (inl y, ap g.uncounted (sym y) ∙ e, omega (arith, le, ap g.place y)) | inr y ↦ (let z = f.from k y in (inr z.0, z.1, z.2)) ];
      every = λ k x c at. elim x [ inl y ↦ inl y | inr y ↦ inr (f.every k y c at) ];
      sum = λ cost. omega (arith, f.sum cost, ap (λ (o : Option Reason). weigh cost (unless o h)) e);
    }
    by (Some r) e c f = without f (λ k x d le. clash r (g.uncounted h) (ap g.uncounted x ∙ d) e)

  below : (p m q : ℕ) (hs : List H) → p ≤ suc q → Up p m hs → ((h : H) → Has hs h → g.place h ≤ q) → Up p (suc q) hs
  below p m q [] le u f = le
  below p m q (h ∷ hs) le u f = let at = f h (inl refl) in (u.0, omega (arith, at), below (suc (g.place h)) m q hs (omega (arith, at)) u.2 (λ k x. f k (inr x)))

  -- ---- heads that stand

  pub record Lies (s k : H) : Type 0 where
    pub low : g.place s ≤ g.place k
    pub high : end k ≤ end s
    pub some : 0 < length (g.left k)

  -- what stands from it on stands in the datagram or the region
  pub head_then : (s h k : H) → HeadAt g s h → HeadAt g h k → HeadAt g s k
  head_then s h k p (first e) = p
  head_then s h k p (next j q f some) = next j (head_then s h j p q) f some
  head_then s h k p (inside j i q f is some) = inside j i (head_then s h j p q) f is some

  -- the first step to a head
  data Begins (s k : H) : Type 0 where
    same : k ≡ s → Begins s k
    after : g.unsound s ≡ None → HeadAt g (g.follower s) k → Begins s k
    into : (i : H) → g.broken s ≡ None → g.inner s ≡ Some i → HeadAt g i k → Begins s k

  head_begins : (s k : H) → HeadAt g s k → Begins s k
  head_begins s k (first e) = same refl
  head_begins s k (next h p f some) = elim (head_begins s h p) [
    | same e ↦ after (ap g.unsound (sym e) ∙ f) (subst (λ (x : H). HeadAt g (g.follower x) (g.follower h)) e (first some))
    | after a q ↦ after a (next h q f some)
    | into i a b q ↦ into i a b (next h q f some)
  ]
  head_begins s k (inside h i p f is some) = elim (head_begins s h p) [
    | same e ↦ into i (ap g.broken (sym e) ∙ f) (ap g.inner (sym e) ∙ is) (first some)
    | after a q ↦ after a (inside h i q f is some)
    | into j a b q ↦ into j a b (inside h i q f is some)
  ]

  module _ (law : IsLawful) where
    pub head_lies : (s k : H) → HeadAt g s k → Lies s k
    head_lies s k (first e) = record { low = omega arith; high = omega arith; some = no_length (g.left s) e }
    head_lies s k (next h p f some) =
        let l = head_lies s h p in
        let b = law.behind h f in
        record { low = omega (arith, l.low, b.0); high = omega (arith, l.high, b.1); some = no_length (g.left k) some }
    head_lies s k (inside h i p f is some) =
        let l = head_lies s h p in
        let w = law.within h i f is in
        let b = law.behind h (law.leads h (law.counts h f)) in
        record { low = omega (arith, l.low, w.0); high = omega (arith, l.high, w.1, b.1); some = no_length (g.left k) some }

    -- what stands behind an item or inside it stands behind the head
    pub behind_then : (s h : H) → g.left s ≢ [] → g.unsound s ≡ None → HeadAt g (g.follower s) h → HeadAt g s h
    behind_then s h some a p = let l = head_lies (g.follower s) h p in head_then s (g.follower s) h (next s (first some) a (some_left (g.left (g.follower s)) (omega (arith, l.low, l.high, l.some)))) p

    pub inside_then : (s k h : H) → g.left s ≢ [] → g.broken s ≡ None → g.inner s ≡ Some k → HeadAt g k h → HeadAt g s h
    inside_then s k h some b is p = let l = head_lies k h p in head_then s k h (inside s k (first some) b is (some_left (g.left k) (omega (arith, l.low, l.high, l.some)))) p

    -- ---- all that stand, in order

    record Stands (s : H) : Type 0 where
      pub all : List H
      pub rises : Up (g.place s) (end s) all
      pub each : AllByRecursion (HeadAt g s) all
      pub every : (h : H) → HeadAt g s h → Has all h
      -- a walk comes to these up to the first that breaks a rule
      pub walk : (n : ℕ) → length (g.left s) ≤ n → trail_at g n s ≡ cut all
      pub sum : (cost room : H → ℕ) → Costs cost room → total cost all ≤ room s * length (g.left s)

    -- those inside the item of a head whose length is sound
    record Inside (s : H) : Type 0 where
      pub all : List H
      pub rises : Up (suc (g.place s)) (g.place (g.follower s)) all
      pub each : AllByRecursion (HeadAt g s) all
      pub every : (k h : H) → g.broken s ≡ None → g.inner s ≡ Some k → HeadAt g k h → Has all h
      pub walk : (n : ℕ) → length (g.left s) ≤ suc n → g.broken s ≡ None → inner_trail (g.inner s) (λ k. trail_at g n k) ≡ cut all
      pub sum : (cost room : H → ℕ) → Costs cost room → cost s + (total cost all + room (g.follower s) * length (g.left (g.follower s))) ≤ room s * length (g.left s)

    none_inside : (s : H) → g.unsound s ≡ None → (g.broken s ≡ None → g.inner s ≡ None) → Inside s
    none_inside s a none = record {
      all = [];
      rises = omega (arith, (law.behind s a).0);
      each = tt;
      every = λ k h b is p. clash k (g.inner s) (none b) is;
      walk = λ n le b. ap (λ (o : Option H). inner_trail o (λ k. trail_at g n k)) (none b);
      sum = λ cost room c. omega (arith, c.alone s a);
    }

    some_inside : (s k : H) → g.left s ≢ [] → g.broken s ≡ None → g.inner s ≡ Some k → Stands k → Inside s
    some_inside s k some b is i =
        let w = law.within s k b is in
        let f = law.behind s (law.leads s (law.counts s b)) in
        record {
          all = i.all;
          rises = up_from (suc (g.place s)) (g.place k) (g.place (g.follower s)) i.all w.0 (up_to (g.place k) (end k) (g.place (g.follower s)) i.all w.1 i.rises);
          each = each-of (HeadAt g s) i.all (λ h x. inside_then s k h some b is (has-each (HeadAt g k) i.all h i.each x));
          every = λ j h c at p. i.every h (subst (λ (y : H). HeadAt g y h) (some_same (g.inner s) j k at is) p);
          walk = λ n le c. ap (λ (o : Option H). inner_trail o (λ j. trail_at g n j)) is ∙ i.walk n (omega (arith, le, w.0, w.1, f.1));
          sum = λ cost room c. omega (arith, c.holding s k b is, i.sum cost room c);
        }

    inside_of : (s : H) → g.left s ≢ [] → g.unsound s ≡ None → ((k : H) → g.broken s ≡ None → g.inner s ≡ Some k → Stands k) → Inside s
    inside_of s some a f = by (g.broken s) (g.inner s) refl refl where
      by : (b : Option Reason) (o : Option H) → g.broken s ≡ b → g.inner s ≡ o → Inside s
      by (Some r) o e is = none_inside s a (λ b. clash r (g.broken s) b e)
      by None None e is = none_inside s a (λ b. is)
      by None (Some k) e is = some_inside s k some e is (f k e is)

    turn_is : (s : H) (left : List ℕ) (o : Option Reason) (i t c : TrailOf H) → left ≢ [] → (o ≡ None → and_on i t ≡ c) → trail_turn g left o s i t ≡ cut_turn o s c
    turn_is s [] o i t c some h = absurd (some refl)
    turn_is s (x ∷ xs) (Some r) i t c some h = refl
    turn_is s (x ∷ xs) None i t c some h = ap (front (s ∷ [])) (h refl)

    empty_walk : (s : H) (n : ℕ) → g.left s ≡ [] → trail_at g n s ≡ ([], None)
    unfolding trail_at
    empty_walk s zero e = refl
    empty_walk s (suc n) e = ap (λ (xs : List ℕ). trail_turn g xs (g.broken s) s (inner_trail (g.inner s) (λ k. trail_at g n k)) (trail_at g n (g.follower s))) e

    none_stand : (s : H) → g.left s ≡ [] → Stands s
    none_stand s e = record {
      all = [];
      rises = omega arith;
      each = tt;
      every = λ h p. let l = head_lies s h p in absurd (omega (arith, l.low, l.high, l.some, ap (length {A = ℕ}) e));
      walk = λ n le. empty_walk s n e;
      sum = λ cost room c. omega arith;
    }

    -- a head whose length is not sound stands alone
    one_stands : (s : H) (r : Reason) → g.left s ≢ [] → g.unsound s ≡ Some r → Stands s
    unfolding trail_at
    one_stands s r some e = record {
      all = s ∷ [];
      rises = (omega arith, omega (arith, no_length (g.left s) some), omega (arith, no_length (g.left s) some));
      each = (first some, tt);
      every = λ h p. elim (head_begins s h p) [ same x ↦ inl (sym x) | after a q ↦ clash r (g.unsound s) a e | into i a b q ↦ clash r (g.unsound s) (law.leads s (law.counts s a)) e ];
      walk = walk;
      sum = λ cost room c. omega (arith, none cost (g.uncounted s) refl);
    } where
      none : (cost : H → ℕ) (o : Option Reason) → g.uncounted s ≡ o → weigh cost (unless o s) ≡ 0
      none cost None c = clash r (g.unsound s) (law.leads s c) e
      none cost (Some q) c = refl

      walk : (n : ℕ) → length (g.left s) ≤ n → trail_at g n s ≡ cut (s ∷ [])
      walk zero le = absurd (omega (arith, le, no_length (g.left s) some))
      walk (suc n) le = turn_is s (g.left s) (g.broken s) _ _ ([], None) some (λ b. clash r (g.unsound s) (law.leads s (law.counts s b)) e)

    -- one whose length is sound stands before those in its item and those behind it
    more_stand : (s : H) → g.left s ≢ [] → g.unsound s ≡ None → Inside s → Stands (g.follower s) → Stands s
    unfolding trail_at
    more_stand s some a i t =
        let b = law.behind s a in
        record {
          all = s ∷ (i.all ++ t.all);
          rises = (omega arith, omega (arith, no_length (g.left s) some), up_append (suc (g.place s)) (g.place (g.follower s)) (end s) i.all t.all i.rises (up_to (g.place (g.follower s)) (end (g.follower s)) (end s) t.all b.1 t.rises));
          each = (first some, all-append (HeadAt g s) i.all t.all i.each (each-of (HeadAt g s) t.all (λ h x. behind_then s h some a (has-each (HeadAt g (g.follower s)) t.all h t.each x))));
          every = λ h p. elim (head_begins s h p) [ same x ↦ inl (sym x) | after c q ↦ inr (has-right i.all t.all h (t.every h q)) | into k c d q ↦ inr (has-left i.all t.all h (i.every k h c d q)) ];
          walk = walk;
          sum = λ cost room c. omega (arith, counted cost s (g.uncounted s), total-append cost i.all t.all, t.sum cost room c, i.sum cost room c);
        } where
          walk : (n : ℕ) → length (g.left s) ≤ n → trail_at g n s ≡ cut (s ∷ (i.all ++ t.all))
          walk zero le = absurd (omega (arith, le, no_length (g.left s) some))
          walk (suc n) le =
              let b = law.behind s a in
              turn_is s (g.left s) (g.broken s) _ _ (cut (i.all ++ t.all)) some
              (λ e. ap (λ (x : TrailOf H). and_on x (trail_at g n (g.follower s))) (i.walk n le e) ∙ ap (and_on (cut i.all)) (t.walk n (omega (arith, le, b.0, b.1))) ∙ cut-append i.all t.all)

    stands : (n : ℕ) (s : H) → length (g.left s) ≤ n → Stands s
    stands zero s le = none_stand s (nil_from_length (g.left s) (omega arith))
    stands (suc n) s le = by (g.left s) (g.unsound s) refl refl (λ k lt. stands n k (omega (arith, le, lt))) where
      by : (xs : List ℕ) (o : Option Reason) → g.left s ≡ xs → g.unsound s ≡ o → ((k : H) → length (g.left k) < length (g.left s) → Stands k) → Stands s
      by [] o e is f = none_stand s e
      by (x ∷ xs) (Some r) e is f = one_stands s r (subst (λ ys. ys ≢ []) (sym e) (λ f. absurd cc)) is
      by (x ∷ xs) None e is f =
          let some : g.left s ≢ [] = subst (λ ys. ys ≢ []) (sym e) (λ f. absurd cc) in
          let b = law.behind s is in
          more_stand s some is (inside_of s some is (λ k c at. let w = law.within s k c at in f k (omega (arith, w.0, w.1, b.1)))) (f (g.follower s) (omega (arith, b.0, b.1)))

    cut_is : (p m : ℕ) (hs : List H) → Up p m hs → IsCut p m hs (cut hs)
    cut_is p m [] u = record { rises = u; from = λ h x. absurd x; every = λ h x c le. x; ends = λ h x. absurd x; sum = λ cost. omega arith }
    cut_is p m (h ∷ hs) u = by (g.broken h) refl (cut_is (suc (g.place h)) m hs u.2) where
      by : (o : Option Reason) → g.broken h ≡ o → IsCut (suc (g.place h)) m hs (cut hs) → IsCut p m (h ∷ hs) (cut_turn o h (cut hs))
      by (Some r) e i = cut_here p m h hs u r (g.uncounted h) e refl
      by None e i = cut_on p m h hs u (cut hs) e (law.counts h e) i

    module _ (s : H) where
      all_stand : Stands s
      all_stand = stands (length (g.left s)) s (omega arith)

      -- ---- one head a place

      pub one_head : (h k : H) → HeadAt g s h → HeadAt g s k → g.place h ≡ g.place k → h ≡ k
      one_head h k p q e = up_one (g.place s) (end s) all_stand.all h k all_stand.rises (all_stand.every h p) (all_stand.every k q) e

      -- one fault is the first
      pub one_first_fault : (p q : ℕ) (r t : Reason) → IsFirstFault g s p r → IsFirstFault g s q t → (p ≡ q) × (r ≡ t)
      one_first_fault p q r t x y =
          let e : p ≡ q = omega (arith, x.1 q t y.0, y.1 p r x.0) in
          let same = one_head x.0.0 y.0.0 x.0.1 y.0.1 (x.0.2 ∙ e ∙ sym y.0.2) in
          (e, some_same (g.broken y.0.0) r t (ap g.broken (sym same) ∙ x.0.3) y.0.3)

      -- of two heads that break a rule at one place, each is the other
      pub one_broken : (facts : Reason → H → BrokenHead) (b c : BrokenHead) → ((r : Reason) (h : H) → (facts r h).fault.place ≡ g.place h) → (h : H) × HeadAt g s h × (g.broken h ≡ Some b.fault.reason) × (b ≡ facts b.fault.reason h)
          → (h : H) × HeadAt g s h × (g.broken h ≡ Some c.fault.reason) × (c ≡ facts c.fault.reason h) → b.fault.place ≡ c.fault.place → b ≡ c
      one_broken facts b c at x y e =
          let place = λ (t : BrokenHead). t.fault.place in
          let same = one_head x.0 y.0 x.1 y.1 (sym (ap place x.3 ∙ at b.fault.reason x.0) ∙ e ∙ ap place y.3 ∙ at c.fault.reason y.0) in
          let r = some_same (g.broken y.0) b.fault.reason c.fault.reason (ap g.broken (sym same) ∙ x.2) y.2 in
          x.3 ∙ ap (λ (t : Reason). facts t x.0) r ∙ ap (facts c.fault.reason) same ∙ sym y.3

      -- ---- the walk

      -- whatever number bounds it
      pub walk_enough : (n : ℕ) → length (g.left s) ≤ n → trail_at g n s ≡ trail_of g s
      walk_enough n le = all_stand.walk n le ∙ sym (all_stand.walk (length (g.left s)) (omega arith))

      walked : IsCut (g.place s) (end s) all_stand.all (trail_of g s)
      walked = subst (IsCut (g.place s) (end s) all_stand.all) (sym (all_stand.walk (length (g.left s)) (omega arith))) (cut_is (g.place s) (end s) all_stand.all all_stand.rises)

      -- each head stands, and counts
      pub each : All (λ h. HeadAt g s h × Counts g h) (trail_of g s).0
      each = All-from_recursion (λ h. HeadAt g s h × Counts g h) (trail_of g s).0 (each-of (λ h. HeadAt g s h × Counts g h) (trail_of g s).0 (λ h x. let f = walked.from h x in (has-each (HeadAt g s) all_stand.all h all_stand.each f.0, f.1)))

      pub in_order : IsStrictlyIncreasing (map g.place (trail_of g s).0)
      in_order = up_increasing (g.place s) (end s) (trail_of g s).0 walked.rises

      ends : (o : Option (ℕ × Reason)) → EndsAt all_stand.all o → IsEnd g s o
      ends None x = λ p r f. clash r (g.broken f.0) (x f.0 (all_stand.every f.0 f.1)) f.3
      ends (Some f) x = ((x.0.0, has-each (HeadAt g s) all_stand.all x.0.0 all_stand.each x.0.1, x.0.2, x.0.3), λ q r y. omega (arith, y.2, x.1 y.0 r (all_stand.every y.0 y.1) y.3))

      pub end_is : IsEnd g s (trail_of g s).1
      end_is = ends (trail_of g s).1 walked.ends

      -- and all that count up to that end
      pub all : (h : H) → Contains (trail_of g s).0 h ↔ ((HeadAt g s h × Counts g h) × UpTo (trail_of g s).1 (g.place h))
      all h = (
        λ c. let f = walked.from h (contained (trail_of g s).0 h c) in ((has-each (HeadAt g s) all_stand.all h all_stand.each f.0, f.1), f.2),
        λ x. contains (trail_of g s).0 h (walked.every h (all_stand.every h x.0.0) x.0.1 x.1),
      )

      -- ---- visits

      -- heads that rise and are those that count up to a place are its visits
      visits_by : (q m : ℕ) (hs : List H) → Up (g.place s) m hs → ((h : H) → Has hs h → HeadAt g s h × Counts g h × (g.place h ≤ q)) → ((h : H) → HeadAt g s h → Counts g h → g.place h ≤ q → Has hs h) → Visits g s q (visits_of g hs)
      visits_by q m hs u from every = record {
        all = map (visit_of g) hs;
        rises = below 0 m q hs (omega arith) (up_from 0 (g.place s) m hs (omega arith) u) (λ h x. (from h x).2);
        each = all-of (visit_of g) (IsVisit g s q) hs (λ h x. let f = from h x in (h, f.0, f.1, refl, refl, f.2));
        every = λ v x. subst (Has (map (visit_of g) hs)) (pair (g.place x.0) (g.visited x.0) v.0 v.1 x.3 x.4) (has-map (visit_of g) hs x.0 (every x.0 x.1 x.2 x.5));
        sums = refl;
      } where
        pair : (a b c d : ℕ) → a ≡ c → b ≡ d → ◌≡◌ {A = ℕ × ℕ} (a, b) (c, d)
        pair a b c d e f = cc

      stands_at : (h : H) → Has all_stand.all h → HeadAt g s h
      stands_at h x = has-each (HeadAt g s) all_stand.all h all_stand.each x

      counted_to : (q : ℕ) → Front (g.place s) (end s) q all_stand.all
      counted_to q = front_of (g.place s) (end s) q all_stand.all all_stand.rises

      visits_to : (q : ℕ) → Visits g s q (visits_of g (counted_to q).some)
      visits_to q = visits_by q (end s) (counted_to q).some (counted_to q).rises (λ h x. let f = (counted_to q).from h x in (stands_at h f.0, f.1, f.2)) (λ h p c le. (counted_to q).every h (all_stand.every h p) c le)

      -- the visits up to any place, behind faults too, have a sum
      pub some_sum : (q : ℕ) → (total : ℕ) × Visits g s q total
      some_sum q = (visits_of g (counted_to q).some, visits_to q)

      pub one_sum : (q a b : ℕ) → Visits g s q a → Visits g s q b → a ≡ b
      one_sum q a b v w = one_sum_by (IsVisit g s q) q a b v w

      -- and a bound
      pub visits_bound : (room : H → ℕ) → Costs g.visited room → (q total : ℕ) → Visits g s q total → total ≤ room s * length (g.left s)
      visits_bound room c q total v = omega (arith, one_sum q total (visits_of g (counted_to q).some) v (visits_to q), (counted_to q).sum g.visited, all_stand.sum g.visited room c)

      -- those of a walk
      pub walk_bound : (cost room : H → ℕ) → Costs cost room → weigh cost (trail_of g s).0 ≤ room s * length (g.left s)
      walk_bound cost room c = omega (arith, walked.sum cost, all_stand.sum cost room c)

      walk_visits : (q : ℕ) (o : Option (ℕ × Reason)) → (trail_of g s).1 ≡ o → ((h : H) → HeadAt g s h → (UpTo o (g.place h) → g.place h ≤ q) × (g.place h ≤ q → UpTo o (g.place h))) → Visits g s q (visits_of g (trail_of g s).0)
      walk_visits q o e so = visits_by q (end s) (trail_of g s).0 walked.rises
          (λ h x. let f = walked.from h x in let p = stands_at h f.0 in (p, f.1, (so h p).0 (subst (λ o. UpTo o (g.place h)) e f.2)))
          (λ h p c le. walked.every h (all_stand.every h p) c (subst (λ o. UpTo o (g.place h)) (sym e) ((so h p).1 le)))

      -- it visits what is up to the fault, or all
      pub fault_visits : (f : ℕ × Reason) → (trail_of g s).1 ≡ Some f → Visits g s f.0 (visits_of g (trail_of g s).0)
      fault_visits f e = walk_visits f.0 (Some f) e (λ h p. (λ le. le, λ le. le))

      pub all_visits : (trail_of g s).1 ≡ None → Visits g s (end s) (visits_of g (trail_of g s).0)
      all_visits e = walk_visits (end s) None e (λ h p. let l = head_lies s h p in (λ u. omega (arith, l.high), λ le. tt))

    -- a head before the end, which is not at it or behind it, counts
    abbrev pub Reaches : Option (ℕ × Reason) → ℕ → Type 0
    Reaches None p = ⊥
    Reaches (Some f) p = f.0 ≤ p

    pub counts_before : (s h : H) (o : Option (ℕ × Reason)) → IsEnd g s o → HeadAt g s h → (Reaches o (g.place h) → ⊥) → Counts g h
    counts_before s h o is p before = by (g.broken h) refl where
      reached : (o : Option (ℕ × Reason)) (r : Reason) → IsEnd g s o → g.broken h ≡ Some r → Reaches o (g.place h)
      reached None r is e = is (g.place h) r (h, p, refl, e)
      reached (Some f) r is e = is.1 (g.place h) r (h, p, refl, e)

      by : (b : Option Reason) → g.broken h ≡ b → Counts g h
      by None e = law.counts h e
      by (Some r) e = absurd (before (reached o r is e))

    -- ---- the walk, head by head

    -- nothing is left
    pub trail_ends : (h : H) → g.left h ≡ [] → trail_of g h ≡ ([], None)
    trail_ends h e = empty_walk h (length (g.left h)) e

    -- the head breaks a rule
    pub trail_stops : (h : H) (r : Reason) → g.left h ≢ [] → g.broken h ≡ Some r → trail_of g h ≡ (unless (g.uncounted h) h, Some (g.place h, r))
    unfolding trail_at
    trail_stops h r some e =
        sym (walk_enough h (suc (length (g.left h))) (omega arith))
        ∙ turn_is h (g.left h) (g.broken h) _ _ ([], None) some (λ b. clash r (g.broken h) b e) ∙ ap (λ (o : Option Reason). cut_turn o h ([], None)) e

    -- it breaks none
    pub trail_goes : (h : H) (o : Option H) → g.left h ≢ [] → g.broken h ≡ None → g.inner h ≡ o → trail_of g h ≡ front (h ∷ []) (and_on (inner_trail o (trail_of g)) (trail_of g (g.follower h)))
    unfolding trail_at
    trail_goes h o some e is =
        sym (walk_enough h (suc (length (g.left h))) (omega arith))
        ∙ turn_is h (g.left h) (g.broken h) _ _ (and_on (inner_trail o (trail_of g)) (trail_of g (g.follower h))) some
        (λ e. ap (λ (x : TrailOf H). and_on x (trail_at g (length (g.left h)) (g.follower h))) (ap (λ (k : Option H). inner_trail k (λ j. trail_at g (length (g.left h)) j)) is ∙ within o is)
        ∙ ap (and_on (inner_trail o (trail_of g))) (let b = law.behind h (law.leads h (law.counts h e)) in walk_enough (g.follower h) (length (g.left h)) (omega (arith, b.0, b.1))))
        ∙ ap (λ (b : Option Reason). cut_turn b h (and_on (inner_trail o (trail_of g)) (trail_of g (g.follower h)))) e where
          within : (o : Option H) → g.inner h ≡ o → inner_trail o (λ k. trail_at g (length (g.left h)) k) ≡ inner_trail o (trail_of g)
          within None is = refl
          within (Some k) is =
              let w = law.within h k e is in
              let b = law.behind h (law.leads h (law.counts h e)) in
              walk_enough k (length (g.left h)) (omega (arith, w.0, w.1, b.1))
