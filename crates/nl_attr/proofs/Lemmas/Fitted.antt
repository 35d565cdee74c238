-- What fits a region can be written, is as long as the region with its last padding, and keeps no more bytes than it has.
use Rattle.nl_attr.proofs.Common.{◌≡◌, ℕ, ◌+◌, ◌%◌, ◌^◌, ◌<◌, ◌≤◌, ◌⊎◌, List, ◌∷◌, ◌++◌, length, refl, sym, ap, ◌∙◌, arith, LONGEST_CONTAINER, LONGEST_ITEM, LONGEST_REGION, Order, Ctx, Route, Content, Shape, aligned, num, Val, bytes, list, hops, Items, no_items, item, HopItems, no_hops, hop, holds_of, FitsVal, Fits, FitsHops, val_len, items_len, hops_len, IsMismatched, IsMismatchedVal, IsMismatchedHops, IsDeep, IsDeepVal, IsDeepHops, HasLong, HasLongVal, HasLongHops, IsProper, IsRanged, IsRangedVal, IsRangedHops}
use Rattle.std.proofs.Math.Logic.{⊎_elim}
use Rattle.nl_attr.specs.declared.tree.Content.TheVariants as content
use Rattle.nl_attr.specs.Kept.{value_kept, kept, hops_kept}
use Rattle.nl_attr.proofs.Lemmas.Numbers.{head_length, hop_length}
use Rattle.nl_attr.proofs.Lemmas.Pieces.{apart, two_parts}

again : (h k : ℕ) → h % 4 ≡ 0 → aligned (h + aligned k) ≡ aligned (h + k)
again h k e = omega (arith, e)

-- the payload behind a head
pub attr_size : (o : Order) (it payload : List ℕ) (n k : ℕ) → it ≡ num n 2 o ++ (num k 2 o ++ payload) → length it ≡ 4 + length payload
attr_size o it payload n k e = let size : length it ≡ length payload + 4 = ap (length {A = ℕ}) e ∙ head_length o n k payload in omega (arith, size)

pub hop_size : (o : Order) (it payload : List ℕ) (n flags count k : ℕ) → it ≡ num n 2 o ++ (flags ∷ count ∷ (num k 4 o ++ payload)) → length it ≡ 8 + length payload
hop_size o it payload n flags count k e = let size : length it ≡ length payload + 8 = ap (length {A = ℕ}) e ∙ hop_length o n flags count k payload in omega (arith, size)

-- no refusal of a writing applies, the numbers are in range, and no more than so many bytes are kept
pub record IsAllowed (Mismatched Deep Long Ranged : Type 0) (bytes len : ℕ) : Type 0 where
  pub matched : Mismatched → ⊥
  pub shallow : Deep → ⊥
  pub short : Long → ⊥
  pub ranged : Ranged
  pub kept : bytes ≤ len

-- the same of a container that opens m levels, which is no longer than one may be
container_allowed : {M P L R : Type 0} {k n len p : ℕ} (D l m : ℕ) → n ≡ aligned p → len ≡ 4 + p → len ≤ LONGEST_CONTAINER → l + m ≤ D → IsAllowed M P L R k p
    → (LONGEST_ITEM < 4 + n → ⊥) × IsAllowed M ((D < l + m) ⊎ P) ((LONGEST_REGION < n) ⊎ L) R k p
container_allowed D l m size e low deep a =
    (λ h. omega (arith, size, e, low, h), record { matched = a.matched; shallow = ⊎_elim (λ h. omega (arith, deep, h)) a.shallow; short = ⊎_elim (λ h. omega (arith, size, e, low, h)) a.short; ranged = a.ranged; kept = a.kept })

module _ (S : Shape) where
  -- ---- how long it is

  mutual
    pub val_len_is : (v : Val) (c : Content) (payload : List ℕ) (len l : ℕ) → len ≡ 4 + length payload → FitsVal S v c payload len l → aligned (4 + val_len v) ≡ aligned len
    val_len_is (bytes bs) content.Bytes payload len l e f = ap (λ (x : List ℕ). aligned (4 + length x)) (sym f) ∙ ap aligned (sym e)
    val_len_is (list is) (content.List c) payload len l e f = ap (λ k. aligned (4 + k)) (items_len_is is payload c (l + 1) f.2) ∙ again 4 (length payload) refl ∙ ap aligned (sym e)
    val_len_is (hops hs) content.Hops payload len l e f = ap (λ k. aligned (4 + k)) (hops_len_is hs payload (l + 1) f.2) ∙ again 4 (length payload) refl ∙ ap aligned (sym e)
    val_len_is v c payload len l e f = absurd f

    pub items_len_is : (is : Items) (region : List ℕ) (ctx : Ctx) (l : ℕ) → Fits S is region ctx l → items_len is ≡ aligned (length region)
    items_len_is no_items region ctx l f = sym (ap (λ (x : List ℕ). aligned (length x)) f)
    items_len_is (item n flags v more) region ctx l f =
        let len : length f.0 ≡ 4 + length f.3 = attr_size S.order f.0 f.3 _ _ f.5 in
        ap (λ k. k + items_len more) (val_len_is v (holds_of ctx n flags) f.3 (length f.0) l len f.7)
        ∙ ap (λ k. aligned (length f.0) + k) (items_len_is more f.2 ctx l f.8) ∙ sym (two_parts S.order 4 2 region f.0 f.1 f.2 f.4)

    pub hops_len_is : (hs : HopItems) (region : List ℕ) (l : ℕ) → FitsHops S hs region l → hops_len hs ≡ aligned (length region)
    hops_len_is no_hops region l f = sym (ap (λ (x : List ℕ). aligned (length x)) f)
    hops_len_is (hop flags count index attrs more) region l f =
        let len : length f.0 ≡ 8 + length f.3 = hop_size S.order f.0 f.3 _ _ _ _ f.5 in
        ap (λ k. aligned (8 + k) + hops_len more) (items_len_is attrs f.3 Route (l + 1) f.7) ∙ ap (λ k. k + hops_len more) (again 8 (length f.3) refl ∙ ap aligned (sym len))
        ∙ ap (λ k. aligned (length f.0) + k) (hops_len_is more f.2 l f.8) ∙ sym (two_parts S.order 8 2 region f.0 f.1 f.2 f.4)

  -- ---- it can be written

  mutual
    val_allowed : (v : Val) (c : Content) (payload : List ℕ) (len l : ℕ) → len ≡ 4 + length payload → len < 256 ^ 2 → FitsVal S v c payload len l
        → (LONGEST_ITEM < 4 + val_len v → ⊥) × IsAllowed (IsMismatchedVal v c) (IsDeepVal v l S.depth) (HasLongVal v) (IsRangedVal v) (value_kept v) (length payload)
    val_allowed (bytes bs) content.Bytes payload len l e g f =
        (λ h. omega (arith, e, g, h, ap (length {A = ℕ}) f), record { matched = λ h. h; shallow = λ h. h; short = λ h. h; ranged = tt; kept = omega (arith, ap (length {A = ℕ}) f) })
    val_allowed (list is) (content.List c) payload len l e g f = container_allowed S.depth l 1 (items_len_is is payload c (l + 1) f.2) e f.0 f.1 (items_allowed is payload c (l + 1) f.2)
    val_allowed (hops hs) content.Hops payload len l e g f = container_allowed S.depth l 2 (hops_len_is hs payload (l + 1) f.2) e f.0 f.1 (hops_allowed hs payload (l + 1) (omega (arith, e, f.0)) f.2)
    val_allowed v c payload len l e g f = absurd f

    pub items_allowed : (is : Items) (region : List ℕ) (ctx : Ctx) (l : ℕ) → Fits S is region ctx l → IsAllowed (IsMismatched is ctx) (IsDeep is l S.depth) (HasLong is) (IsRanged is) (kept is) (length region)
    items_allowed no_items region ctx l f = record { matched = λ h. h; shallow = λ h. h; short = λ h. h; ranged = tt; kept = omega arith }
    items_allowed (item n flags v more) region ctx l f =
        let size = attr_size S.order f.0 f.3 _ _ f.5 in
        let i = val_allowed v (holds_of ctx n flags) f.3 (length f.0) l size f.4.fits f.7 in
        let k = items_allowed more f.2 ctx l f.8 in
        record {
          matched = ⊎_elim (λ h. omega (arith, f.6, h)) (⊎_elim i.1.matched k.matched);
          shallow = ⊎_elim i.1.shallow k.shallow;
          short = ⊎_elim i.0 (⊎_elim i.1.short k.short);
          ranged = (i.1.ranged, k.ranged);
          kept = omega (arith, size, apart S.order 4 2 region f.0 f.1 f.2 f.4, i.1.kept, k.kept);
        }

    hops_allowed : (hs : HopItems) (region : List ℕ) (l : ℕ) → length region ≤ 65528 → FitsHops S hs region l → IsAllowed (IsMismatchedHops hs) (IsDeepHops hs l S.depth) (HasLongHops hs) (IsRangedHops hs) (hops_kept hs) (length region)
    hops_allowed no_hops region l top f = record { matched = λ h. h; shallow = λ h. h; short = λ h. h; ranged = tt; kept = omega arith }
    hops_allowed (hop flags count index attrs more) region l top f =
        let size = hop_size S.order f.0 f.3 _ _ _ _ f.5 in
        let low = apart S.order 8 2 region f.0 f.1 f.2 f.4 in
        let i = items_allowed attrs f.3 Route (l + 1) f.7 in
        let k = hops_allowed more f.2 l (omega (arith, low, top)) f.8 in
        let len : 8 + items_len attrs ≤ 65528 = omega (arith, items_len_is attrs f.3 Route (l + 1) f.7, size, low, top) in
        record {
          matched = ⊎_elim i.matched k.matched;
          shallow = ⊎_elim i.shallow k.shallow;
          short = ⊎_elim (λ h. omega (arith, len, h)) (⊎_elim (⊎_elim (λ h. omega (arith, len, h)) i.short) k.short);
          ranged = (f.6, i.ranged, k.ranged);
          kept = omega (arith, size, low, i.kept, k.kept);
        }

  pub fitted_is_proper : (ctx : Ctx) (l : ℕ) (region : List ℕ) (is : Items) → Fits S is region ctx l → length region ≤ LONGEST_REGION → IsProper is ctx l S.depth
  fitted_is_proper ctx l region is f top =
      let a = items_allowed is region ctx l f in
      record { matched = a.matched; shallow = a.shallow; short = ⊎_elim (λ h. omega (arith, items_len_is is region ctx l f, top, h)) a.short }

  pub fitted_len : (ctx : Ctx) (l : ℕ) (region : List ℕ) (is : Items) → Fits S is region ctx l → items_len is ≡ aligned (length region)
  fitted_len ctx l region is f = items_len_is is region ctx l f

  pub fitted_is_ranged : (ctx : Ctx) (l : ℕ) (region : List ℕ) (is : Items) → Fits S is region ctx l → IsRanged is
  fitted_is_ranged ctx l region is f = (items_allowed is region ctx l f).ranged
