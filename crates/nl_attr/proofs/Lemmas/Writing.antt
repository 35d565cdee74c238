-- What can be written is sized, and is read again.
use Rattle.nl_attr.proofs.Common.{◌≡◌, ℕ, ◌+◌, ◌-◌, ◌%◌, ◌<◌, ◌≤◌, ◌∷◌, ◌++◌, length, replicate, refl, sym, ap, arith, inl, inr, w32, cast_unsigned, LONGEST_ITEM, Ctx, Route, Content, Shape, aligned, num, Val, bytes, list, hops, Items, no_items, item, HopItems, no_hops, hop, holds_of, kind_number, FitsVal, Fits, FitsHops, attr_item, hop_item, written, written_val, written_hops, val_len, items_len, hops_len, IsMismatched, IsMismatchedVal, IsMismatchedHops, IsDeep, IsDeepVal, IsDeepHops, HasLong, HasLongVal, HasLongHops, IsProper, IsRanged, IsRangedVal, IsRangedHops, IsSized, IsSizedVal, IsSizedHops}
use Rattle.nl_attr.specs.declared.tree.Content.TheVariants as content
use Rattle.nl_attr.proofs.Lemmas.Pieces.{made}
use Rattle.nl_attr.proofs.Lemmas.Lengths.{length-val, length-items, length-attr, length-hop}

-- ---- what is neither mismatched nor too long is sized

below : (a b : ℕ) → (b ≤ a → ⊥) → a < b
below a b h = omega (arith, h)

not_above : (a b : ℕ) → (a < b → ⊥) → b ≤ a
not_above a b h = omega (arith, h)

mutual
  val_is_sized : (v : Val) (c : Content) → (IsMismatchedVal v c → ⊥) → (HasLongVal v → ⊥) → IsSizedVal v
  val_is_sized (bytes bs) c m s = tt
  val_is_sized (list is) (content.List c) m s = list_is_sized is c m (λ x. s (inr x))
  val_is_sized (hops hs) content.Hops m s = hops_are_sized hs m (λ x. s (inr x))
  val_is_sized v c m s = absurd (m tt)

  pub list_is_sized : (is : Items) (ctx : Ctx) → (IsMismatched is ctx → ⊥) → (HasLong is → ⊥) → IsSized is
  list_is_sized no_items ctx m s = tt
  list_is_sized (item n flags v more) ctx m s = (
    below _ _ (λ x. m (inl x)),
    not_above _ _ (λ x. s (inl x)),
    val_is_sized v (holds_of ctx n flags) (λ x. m (inr (inl x))) (λ x. s (inr (inl x))),
    list_is_sized more ctx (λ x. m (inr (inr x))) (λ x. s (inr (inr x))),
  )

  hops_are_sized : (hs : HopItems) → (IsMismatchedHops hs → ⊥) → (HasLongHops hs → ⊥) → IsSizedHops hs
  hops_are_sized no_hops m s = tt
  hops_are_sized (hop flags count index attrs more) m s = (
    not_above _ _ (λ x. s (inl x)),
    list_is_sized attrs Route (λ x. m (inl x)) (λ x. s (inr (inl (inr x)))),
    hops_are_sized more (λ x. m (inr x)) (λ x. s (inr (inr x))),
  )

-- a region that is written ends at an aligned place
mutual
  pub items_whole : (is : Items) → items_len is % 4 ≡ 0
  items_whole no_items = refl
  items_whole (item n flags v more) = omega (arith, items_whole more)

  pub hops_whole : (hs : HopItems) → hops_len hs % 4 ≡ 0
  hops_whole no_hops = refl
  hops_whole (hop flags count index attrs more) = omega (arith, hops_whole more)

module _ (S : Shape) where
  mutual
    writes_val : (v : Val) (c : Content) (l len : ℕ) → len ≡ 4 + val_len v → len ≤ LONGEST_ITEM → (IsMismatchedVal v c → ⊥) → (IsDeepVal v l S.depth → ⊥) → (HasLongVal v → ⊥) → IsRangedVal v → FitsVal S v c (written_val S.order v) len l
    writes_val (bytes bs) content.Bytes l len e f m d s r = refl
    writes_val (list is) (content.List c) l len e f m d s r =
        (omega (arith, e, f, items_whole is), not_above S.depth (l + 1) (λ x. d (inl x)), writes_items is c (l + 1) r m (λ x. d (inr x)) (λ x. s (inr x)))
    writes_val (hops hs) content.Hops l len e f m d s r =
        (omega (arith, e, f, hops_whole hs), not_above S.depth (l + 2) (λ x. d (inl x)), writes_hops hs (l + 1) r m (λ x. d (inr x)) (λ x. s (inr x)))
    writes_val v c l len e f m d s r = absurd (m tt)

    writes_items : (is : Items) (ctx : Ctx) (l : ℕ) → IsRanged is → (IsMismatched is ctx → ⊥) → (IsDeep is l S.depth → ⊥) → (HasLong is → ⊥) → Fits S is (written S.order is) ctx l
    writes_items no_items ctx l r m d s = refl
    writes_items (item n flags v more) ctx l r m d s =
        let payload = written_val S.order v in
        let it = attr_item S.order n flags payload in
        let body = num (kind_number n flags) 2 S.order ++ payload in
        let len : length it ≡ 4 + length payload = length-attr S.order n flags payload in
        let size : length it ≡ 4 + val_len v = omega (arith, len, length-val S.order v) in
        let high : length it ≤ LONGEST_ITEM = omega (arith, size, not_above LONGEST_ITEM (4 + val_len v) (λ x. s (inl x))) in
        let says : it ≡ num (length it) 2 S.order ++ body = ap (λ k. num k 2 S.order ++ body) (sym len) in (
          it,
          replicate (aligned (length it) - length it) 0,
          written S.order more,
          payload,
          made S.order 4 2 it body (written S.order more) says (omega (arith, len)) (omega (arith, high)),
          says,
          below n _ (λ x. m (inl x)),
          writes_val v (holds_of ctx n flags) l (length it) size high (λ x. m (inr (inl x))) (λ x. d (inl x)) (λ x. s (inr (inl x))) r.0,
          writes_items more ctx l r.1 (λ x. m (inr (inr x))) (λ x. d (inr x)) (λ x. s (inr (inr x))),
        )

    writes_hops : (hs : HopItems) (l : ℕ) → IsRangedHops hs → (IsMismatchedHops hs → ⊥) → (IsDeepHops hs l S.depth → ⊥) → (HasLongHops hs → ⊥) → FitsHops S hs (written_hops S.order hs) l
    writes_hops no_hops l r m d s = refl
    writes_hops (hop flags count index attrs more) l r m d s =
        let payload = written S.order attrs in
        let it = hop_item S.order flags count index payload in
        let body = flags ∷ count ∷ (num (cast_unsigned w32 index) 4 S.order ++ payload) in
        let len : length it ≡ 8 + length payload = length-hop S.order flags count index payload in
        let size : length it ≡ 8 + items_len attrs = omega (arith, len, length-items S.order attrs) in
        let high : length it ≤ LONGEST_ITEM = omega (arith, size, not_above LONGEST_ITEM (8 + items_len attrs) (λ x. s (inl x))) in
        let says : it ≡ num (length it) 2 S.order ++ body = ap (λ k. num k 2 S.order ++ body) (sym len) in (
          it,
          replicate (aligned (length it) - length it) 0,
          written_hops S.order more,
          payload,
          made S.order 8 2 it body (written_hops S.order more) says (omega (arith, len)) (omega (arith, high)),
          says,
          r.0,
          writes_items attrs Route (l + 1) r.1 (λ x. m (inl x)) (λ x. d (inl x)) (λ x. s (inr (inl (inr x)))),
          writes_hops more l r.2 (λ x. m (inr x)) (λ x. d (inr x)) (λ x. s (inr (inr x))),
        )

  -- what is proper fits what it is written as
  pub written_fits : (ctx : Ctx) (l : ℕ) (is : Items) → IsProper is ctx l S.depth → IsRanged is → Fits S is (written S.order is) ctx l
  written_fits ctx l is p r = writes_items is ctx l r p.matched p.shallow (λ x. p.short (inr x))
