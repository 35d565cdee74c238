-- What the extent of a list says of it.
use Rattle.nl_attr.proofs.Common.{◌≡◌, ℕ, ◌+◌, ◌-◌, ◌<◌, ◌≤◌, Bool, true, false, cond, ltb, ◌||◌, ◌⊎◌, Option, Some, None, refl, sym, ap, subst, arith, inl, inr, ◌↔◌, IsTrue, IfSome, ltb-true, ltb-false, LONGEST_ITEM, LONGEST_REGION, Ctx, Route, Content, Extent, aligned, Val, bytes, list, hops, Items, no_items, item, HopItems, no_hops, hop, holds_of, val_len, items_len, hops_len, IsMismatched, IsMismatchedVal, IsMismatchedHops, IsDeep, IsDeepVal, IsDeepHops, IsLong, HasLong, HasLongVal, HasLongHops, IsLongRegion, IsSized, IsSizedVal, IsSizedHops, region_len, item_len, join, extent_of_item, container_extent, extent_of, extent_of_val, extent_of_hops}
use Rattle.nl_attr.specs.declared.tree.Content.TheVariants as content

-- the test is true where P holds
abbrev pub Says : Bool → Type 0 → Type 0
Says true P = P
Says false P = P → ⊥

-- a length, or that something is too long
abbrev pub LenSays : Option ℕ → Type 0 → ℕ → Type 0 → Type 0
LenSays None L n S = L
LenSays (Some m) L n S = (L → ⊥) × (m ≡ n) × S

-- mismatched, or what it says of the depth and of the length
abbrev pub Means : Type 0 → Type 0 → Type 0 → ℕ → Type 0 → Option Extent → Type 0
Means M P L n S None = M
Means M P L n S (Some e) = (M → ⊥) × Says e.deep P × LenSays e.len L n S

either_says : (a b : Bool) (P Q : Type 0) → Says a P → Says b Q → Says (a || b) (P ⊎ Q)
either_says true b P Q h k = inl h
either_says false true P Q h k = inr k
either_says false false P Q h k = no where
  no : P ⊎ Q → ⊥
  no (inl p) = h p
  no (inr q) = k q

room_says : (room n l D : ℕ) → 1 ≤ n → room ≡ D - l → Says (ltb room n) (D < l + n)
room_says room n l D one e = elim (ltb room n) as (λ b. ltb room n ≡ b → Says b (D < l + n)) [ true ↦ λ f. omega (arith, e, ltb-true room n f) | false ↦ λ f h. omega (arith, e, ltb-false room n f, h) ] refl

-- a region of an item, whose head has h bytes, and others
len_step : (h nv nr : ℕ) (LV HL SV SR : Type 0) (v r : Option ℕ) → LenSays v LV nv SV → LenSays r ((LONGEST_REGION < nr) ⊎ HL) nr SR
    → LenSays (region_len (item_len h v) r) ((LONGEST_REGION < aligned (h + nv) + nr) ⊎ ((LONGEST_ITEM < h + nv) ⊎ (LV ⊎ HL))) (aligned (h + nv) + nr) ((h + nv ≤ LONGEST_ITEM) × SV × SR)
len_step h nv nr LV HL SV SR None r s t = inr (inr (inl s))
len_step h nv nr LV HL SV SR (Some m) r s t = short (ltb LONGEST_ITEM (h + m)) refl r t where
  total : (k : ℕ) (w : Bool) → ltb LONGEST_REGION (aligned (h + m) + k) ≡ w → ltb LONGEST_ITEM (h + m) ≡ false → ((LONGEST_REGION < nr) ⊎ HL → ⊥) → k ≡ nr → SR
      → LenSays (cond w None (Some (aligned (h + m) + k))) ((LONGEST_REGION < aligned (h + nv) + nr) ⊎ ((LONGEST_ITEM < h + nv) ⊎ (LV ⊎ HL))) (aligned (h + nv) + nr) ((h + nv ≤ LONGEST_ITEM) × SV × SR)
  total k true f g others q sr = let big : LONGEST_REGION < aligned (h + m) + k = ltb-true _ _ f in inl (omega (arith, big, s.1, q))
  total k false f g others q sr =
      let small : aligned (h + m) + k ≤ LONGEST_REGION = ltb-false _ _ f in
      let same : aligned (h + m) + k ≡ aligned (h + nv) + nr = ap (λ (x : ℕ × ℕ). aligned (h + x.0) + x.1) (two s.1 q) in
      let low : h + m ≤ LONGEST_ITEM = ltb-false _ _ g in
      (none (omega (arith, small, same)) (omega (arith, low, s.1)), same, (omega (arith, low, s.1), s.2, sr)) where
        two : {a b c d : ℕ} → a ≡ b → c ≡ d → ◌≡◌ {A = ℕ × ℕ} (a, c) (b, d)
        two p r = cc

        none : aligned (h + nv) + nr ≤ LONGEST_REGION → h + nv ≤ LONGEST_ITEM → (LONGEST_REGION < aligned (h + nv) + nr) ⊎ ((LONGEST_ITEM < h + nv) ⊎ (LV ⊎ HL)) → ⊥
        none x y (inl z) = omega (arith, x, z)
        none x y (inr (inl z)) = omega (arith, y, z)
        none x y (inr (inr (inl z))) = s.0 z
        none x y (inr (inr (inr z))) = others (inr z)

  behind : ltb LONGEST_ITEM (h + m) ≡ false → (r : Option ℕ) → LenSays r ((LONGEST_REGION < nr) ⊎ HL) nr SR
      → LenSays (region_len (Some (aligned (h + m))) r) ((LONGEST_REGION < aligned (h + nv) + nr) ⊎ ((LONGEST_ITEM < h + nv) ⊎ (LV ⊎ HL))) (aligned (h + nv) + nr) ((h + nv ≤ LONGEST_ITEM) × SV × SR)
  behind g None (inl z) = inl (omega (arith, z))
  behind g None (inr z) = inr (inr (inr z))
  behind g (Some k) z = total k (ltb LONGEST_REGION (aligned (h + m) + k)) refl g z.0 z.1 z.2

  short : (w : Bool) → ltb LONGEST_ITEM (h + m) ≡ w → (r : Option ℕ) → LenSays r ((LONGEST_REGION < nr) ⊎ HL) nr SR
      → LenSays (region_len (cond w None (Some (aligned (h + m)))) r) ((LONGEST_REGION < aligned (h + nv) + nr) ⊎ ((LONGEST_ITEM < h + nv) ⊎ (LV ⊎ HL))) (aligned (h + nv) + nr) ((h + nv ≤ LONGEST_ITEM) × SV × SR)
  short true f r z = let big : LONGEST_ITEM < h + m = ltb-true _ _ f in inr (inl (omega (arith, big, s.1)))
  short false f r z = behind f r z

-- an item and others, as a value inside means and the others mean
means_item : (h nv nr : ℕ) (MV MR PV PR LV HL SV SR : Type 0) (v r : Option Extent) → Means MV PV LV nv SV v → Means MR PR ((LONGEST_REGION < nr) ⊎ HL) nr SR r
    → Means (MV ⊎ MR) (PV ⊎ PR) ((LONGEST_REGION < aligned (h + nv) + nr) ⊎ ((LONGEST_ITEM < h + nv) ⊎ (LV ⊎ HL))) (aligned (h + nv) + nr) ((h + nv ≤ LONGEST_ITEM) × SV × SR) (join (extent_of_item h v) r)
means_item h nv nr MV MR PV PR LV HL SV SR None r s t = inl s
means_item h nv nr MV MR PV PR LV HL SV SR (Some v) None s t = inr t
means_item h nv nr MV MR PV PR LV HL SV SR (Some v) (Some r) s t = (neither, either_says v.deep r.deep PV PR s.1 t.1, len_step h nv nr LV HL SV SR v.len r.len s.2 t.2) where
  neither : MV ⊎ MR → ⊥
  neither (inl x) = s.0 x
  neither (inr x) = t.0 x

-- a container that opens n levels
opened_means : (n room l D : ℕ) (M P L : Type 0) (k : ℕ) (S : Type 0) (o : Option Extent) → 1 ≤ n → room ≡ D - l → Means M P L k S o → Means M ((D < l + n) ⊎ P) L k S (container_extent n room o)
opened_means n room l D M P L k S None one e h = h
opened_means n room l D M P L k S (Some x) one e h = (h.0, either_says (ltb room n) x.deep (D < l + n) P (room_says room n l D one e) h.1, h.2)

len_along : (o : Option ℕ) (L : Type 0) (n : ℕ) (S T : Type 0) → (S → T) → LenSays o L n S → LenSays o L n T
len_along None L n S T f h = h
len_along (Some m) L n S T f h = (h.0, h.1, f h.2)

-- an attribute and others, once its number is tested
means_attr : (n : ℕ) (v r : Option Extent) (MV MR P L : Type 0) (k : ℕ) (A SV SR : Type 0)
    → Means (MV ⊎ MR) P L k (A × SV × SR) (join (extent_of_item 4 v) r) → Means ((16384 ≤ n) ⊎ (MV ⊎ MR)) P L k ((n < 16384) × A × SV × SR) (join (cond (ltb 16383 n) None (extent_of_item 4 v)) r)
means_attr n v r MV MR P L k A SV SR h = test (ltb 16383 n) refl where
  known : n < 16384 → (o : Option Extent) → Means (MV ⊎ MR) P L k (A × SV × SR) o → Means ((16384 ≤ n) ⊎ (MV ⊎ MR)) P L k ((n < 16384) × A × SV × SR) o
  known low None z = inr z
  known low (Some e) z = (no, z.1, len_along e.len L k (A × SV × SR) ((n < 16384) × A × SV × SR) (λ s. (low, s.0, s.1, s.2)) z.2) where
    no : (16384 ≤ n) ⊎ (MV ⊎ MR) → ⊥
    no (inl x) = omega (arith, x, low)
    no (inr x) = z.0 x

  test : (w : Bool) → ltb 16383 n ≡ w → Means ((16384 ≤ n) ⊎ (MV ⊎ MR)) P L k ((n < 16384) × A × SV × SR) (join (cond w None (extent_of_item 4 v)) r)
  test true f = let big : 16383 < n = ltb-true _ _ f in inl (omega (arith, big))
  test false f = let low : n ≤ 16383 = ltb-false _ _ f in known (omega (arith, low)) (join (extent_of_item 4 v) r) h

mutual
  val_means : (v : Val) (c : Content) (room l D : ℕ) → room ≡ D - l → Means (IsMismatchedVal v c) (IsDeepVal v l D) (HasLongVal v) (val_len v) (IsSizedVal v) (extent_of_val v c room)
  val_means (bytes bs) content.Bytes room l D e = (λ h. h, λ h. h, (λ h. h, refl, tt))
  val_means (list is) (content.List c) room l D e = opened_means 1 room l D _ _ _ _ _ (extent_of is c (room - 1)) (omega arith) e (list_means is c (room - 1) (l + 1) D (omega (arith, e)))
  val_means (hops hs) content.Hops room l D e = opened_means 2 room l D _ _ _ _ _ (extent_of_hops hs (room - 1)) (omega arith) e (hops_mean hs (room - 1) (l + 1) D (omega (arith, e)))
  val_means v c room l D e = tt

  pub list_means : (is : Items) (ctx : Ctx) (room l D : ℕ) → room ≡ D - l → Means (IsMismatched is ctx) (IsDeep is l D) (IsLong is) (items_len is) (IsSized is) (extent_of is ctx room)
  list_means no_items ctx room l D e = (λ h. h, λ h. h, (none, refl, tt)) where
    none : (LONGEST_REGION < 0) ⊎ ⊥ → ⊥
    none (inl h) = omega arith
    none (inr h) = h
  list_means (item n flags v more) ctx room l D e =
      let c = holds_of ctx n flags in
      means_attr n (extent_of_val v c room) (extent_of more ctx room) (IsMismatchedVal v c) (IsMismatched more ctx) _ _ _ _ (IsSizedVal v) (IsSized more)
      (means_item 4 (val_len v) (items_len more) (IsMismatchedVal v c) (IsMismatched more ctx) (IsDeepVal v l D) (IsDeep more l D) (HasLongVal v) (HasLong more) (IsSizedVal v) (IsSized more)
      (extent_of_val v c room) (extent_of more ctx room) (val_means v c room l D e) (list_means more ctx room l D e))

  hops_mean : (hs : HopItems) (room l D : ℕ) → room ≡ D - l → Means (IsMismatchedHops hs) (IsDeepHops hs l D) (IsLongRegion (hops_len hs) ⊎ HasLongHops hs) (hops_len hs) (IsSizedHops hs) (extent_of_hops hs room)
  hops_mean no_hops room l D e = (λ h. h, λ h. h, (none, refl, tt)) where
    none : (LONGEST_REGION < 0) ⊎ ⊥ → ⊥
    none (inl h) = omega arith
    none (inr h) = h
  hops_mean (hop flags count index attrs more) room l D e =
      means_item 8 (items_len attrs) (hops_len more) (IsMismatched attrs Route) (IsMismatchedHops more) (IsDeep attrs (l + 1) D) (IsDeepHops more l D) (IsLong attrs) (HasLongHops more) (IsSized attrs) (IsSizedHops more)
      (extent_of attrs Route (room - 1)) (extent_of_hops more room) (list_means attrs Route (room - 1) (l + 1) D (omega (arith, e))) (hops_mean more room l D e)

-- what each part of an extent says
says_is : (b : Bool) (P : Type 0) → Says b P → IsTrue b ↔ P
says_is true P h = (λ t. h, λ p. refl)
says_is false P h = (λ t. absurd (cc), λ p. absurd (h p))

len_none : (o : Option ℕ) (L : Type 0) (n : ℕ) (S : Type 0) → LenSays o L n S → (o ≡ None) ↔ L
len_none None L n S h = (λ e. h, λ x. refl)
len_none (Some m) L n S h = (λ e. absurd (cc), λ x. absurd (h.0 x))

len_is : (o : Option ℕ) (L : Type 0) (n : ℕ) (S : Type 0) → LenSays o L n S → IfSome o (λ m. m ≡ n)
len_is None L n S h = tt
len_is (Some m) L n S h = h.1

len_fits : (o : Option ℕ) (L : Type 0) (n : ℕ) (S : Type 0) → LenSays o L n S → IfSome o (λ m. S)
len_fits None L n S h = tt
len_fits (Some m) L n S h = h.2

len_below : (o : Option ℕ) (H : Type 0) (n : ℕ) (S : Type 0) → LenSays o ((LONGEST_REGION < n) ⊎ H) n S → IfSome o (λ m. m ≤ LONGEST_REGION)
len_below None H n S h = tt
len_below (Some m) H n S h = let short : LONGEST_REGION < n → ⊥ = λ x. h.0 (inl x) in omega (arith, short, h.1)

module _ (is : Items) (ctx : Ctx) (D : ℕ) where
  abbrev pub MeansList : Option Extent → Type 0
  MeansList o = Means (IsMismatched is ctx) (IsDeep is 0 D) (IsLong is) (items_len is) (IsSized is) o

  -- the extent at the outermost level
  pub measured : (room : ℕ) (o : Option Extent) → room ≡ D → o ≡ extent_of is ctx room → MeansList o
  measured room o r e = subst MeansList (sym e) (list_means is ctx room 0 D (omega (arith, r)))

  pub means_mismatch : (o : Option Extent) → MeansList o → (o ≡ None) ↔ IsMismatched is ctx
  means_mismatch None m = (λ e. m, λ h. refl)
  means_mismatch (Some x) m = (λ e. absurd (cc), λ h. absurd (m.0 h))

  pub means_deep : (o : Option Extent) → MeansList o → IfSome o (λ e. IsTrue e.deep ↔ IsDeep is 0 D)
  means_deep None m = tt
  means_deep (Some x) m = says_is x.deep (IsDeep is 0 D) m.1

  pub means_long : (o : Option Extent) → MeansList o → IfSome o (λ e. (e.len ≡ None) ↔ IsLong is)
  means_long None m = tt
  means_long (Some x) m = len_none x.len (IsLong is) (items_len is) (IsSized is) m.2

  pub means_len : (o : Option Extent) → MeansList o → IfSome o (λ e. IfSome e.len (λ n. n ≡ items_len is))
  means_len None m = tt
  means_len (Some x) m = len_is x.len (IsLong is) (items_len is) (IsSized is) m.2

  pub means_limit : (o : Option Extent) → MeansList o → IfSome o (λ e. IfSome e.len (λ n. n ≤ LONGEST_REGION))
  means_limit None m = tt
  means_limit (Some x) m = len_below x.len (HasLong is) (items_len is) (IsSized is) m.2

  pub means_sized : (o : Option Extent) → MeansList o → IfSome o (λ e. IfSome e.len (λ n. IsSized is))
  means_sized None m = tt
  means_sized (Some x) m = len_fits x.len (IsLong is) (items_len is) (IsSized is) m.2
