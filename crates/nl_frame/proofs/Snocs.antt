-- One more attribute, next hop or message behind others: what they are written as, and that they can be written.
use Rattle.nl_frame.proofs.Common.{◌≡◌, ℕ, ℤ, ◌+◌, ◌≤◌, List, [], ◌∷◌, ◌++◌, sym, ap, ◌∙◌, inl, inr, append_assoc, append-nil, FitsSigned, w32, NUMBERS, Order, AttrFlags, Ctx, Route, Val, Items, no_items, item, HopItems, no_hops, hop, holds_of, with_padding, attr_item, hop_item, written_val, val_len, items_len, IsMismatchedVal, IsMismatchedHops, IsDeepVal, IsDeepHops, IsLongItem, IsLongRegion, HasLongVal, HasLongHops, IsRangedVal, IsRangedHops, form_of, MessageVal, message_item, written, IsMismatchedBody, IsMismatched, IsDeepBody, IsDeep, IsLongBody, HasLong, IsRanged, and_item, and_hop}
use Rattle.nl_attr.specs.Written as attrs
use Rattle.nl_attr.specs.Proper as proper

-- ---- an attribute

module _ (n : ℕ) (f : AttrFlags) (v : Val) where
  pub item_written : (o : Order) (is : Items) → attrs.written o (and_item is n f v) ≡ attrs.written o is ++ with_padding (attr_item o n f (written_val o v))
  item_written o no_items = append-nil _
  item_written o (item m g w more) =
      let one = with_padding (attr_item o m g (written_val o w)) in
      ap (λ (xs : List ℕ). one ++ xs) (item_written o more) ∙ sym (append_assoc one (attrs.written o more) (with_padding (attr_item o n f (written_val o v))))

  pub item_matched : (is : Items) (ctx : Ctx) → (proper.IsMismatched is ctx → ⊥) → (NUMBERS ≤ n → ⊥) → (IsMismatchedVal v (holds_of ctx n f) → ⊥) → proper.IsMismatched (and_item is n f v) ctx → ⊥
  item_matched no_items ctx a b c (inl x) = b x
  item_matched no_items ctx a b c (inr (inl x)) = c x
  item_matched no_items ctx a b c (inr (inr x)) = x
  item_matched (item m g w more) ctx a b c (inl x) = a (inl x)
  item_matched (item m g w more) ctx a b c (inr (inl x)) = a (inr (inl x))
  item_matched (item m g w more) ctx a b c (inr (inr x)) = item_matched more ctx (λ y. a (inr (inr y))) b c x

  pub item_shallow : (is : Items) (l D : ℕ) → (proper.IsDeep is l D → ⊥) → (IsDeepVal v l D → ⊥) → proper.IsDeep (and_item is n f v) l D → ⊥
  item_shallow no_items l D a b (inl x) = b x
  item_shallow no_items l D a b (inr x) = x
  item_shallow (item m g w more) l D a b (inl x) = a (inl x)
  item_shallow (item m g w more) l D a b (inr x) = item_shallow more l D (λ y. a (inr y)) b x

  pub item_short : (is : Items) → (proper.HasLong is → ⊥) → (IsLongItem (4 + val_len v) → ⊥) → (HasLongVal v → ⊥) → proper.HasLong (and_item is n f v) → ⊥
  item_short no_items a b c (inl x) = b x
  item_short no_items a b c (inr (inl x)) = c x
  item_short no_items a b c (inr (inr x)) = x
  item_short (item m g w more) a b c (inl x) = a (inl x)
  item_short (item m g w more) a b c (inr (inl x)) = a (inr (inl x))
  item_short (item m g w more) a b c (inr (inr x)) = item_short more (λ y. a (inr (inr y))) b c x

  pub item_ranged : (is : Items) → proper.IsRanged is → IsRangedVal v → proper.IsRanged (and_item is n f v)
  item_ranged no_items a b = (b, tt)
  item_ranged (item m g w more) a b = (a.0, item_ranged more a.1 b)

-- ---- a next hop

module _ (f c : ℕ) (i : ℤ) (is : Items) where
  pub hop_written : (o : Order) (hs : HopItems) → attrs.written_hops o (and_hop hs f c i is) ≡ attrs.written_hops o hs ++ with_padding (hop_item o f c i (attrs.written o is))
  hop_written o no_hops = append-nil _
  hop_written o (hop g d j js more) =
      let one = with_padding (hop_item o g d j (attrs.written o js)) in
      ap (λ (xs : List ℕ). one ++ xs) (hop_written o more) ∙ sym (append_assoc one (attrs.written_hops o more) (with_padding (hop_item o f c i (attrs.written o is))))

  pub hop_matched : (hs : HopItems) → (IsMismatchedHops hs → ⊥) → (proper.IsMismatched is Route → ⊥) → IsMismatchedHops (and_hop hs f c i is) → ⊥
  hop_matched no_hops a b (inl x) = b x
  hop_matched no_hops a b (inr x) = x
  hop_matched (hop g d j js more) a b (inl x) = a (inl x)
  hop_matched (hop g d j js more) a b (inr x) = hop_matched more (λ y. a (inr y)) b x

  pub hop_shallow : (hs : HopItems) (l D : ℕ) → (IsDeepHops hs l D → ⊥) → (proper.IsDeep is (l + 1) D → ⊥) → IsDeepHops (and_hop hs f c i is) l D → ⊥
  hop_shallow no_hops l D a b (inl x) = b x
  hop_shallow no_hops l D a b (inr x) = x
  hop_shallow (hop g d j js more) l D a b (inl x) = a (inl x)
  hop_shallow (hop g d j js more) l D a b (inr x) = hop_shallow more l D (λ y. a (inr y)) b x

  pub hop_short : (hs : HopItems) → (HasLongHops hs → ⊥) → (IsLongItem (8 + items_len is) → ⊥) → (IsLongRegion (items_len is) → ⊥) → (proper.HasLong is → ⊥) → HasLongHops (and_hop hs f c i is) → ⊥
  hop_short no_hops a b c' d (inl x) = b x
  hop_short no_hops a b c' d (inr (inl (inl x))) = c' x
  hop_short no_hops a b c' d (inr (inl (inr x))) = d x
  hop_short no_hops a b c' d (inr (inr x)) = x
  hop_short (hop g e j js more) a b c' d (inl x) = a (inl x)
  hop_short (hop g e j js more) a b c' d (inr (inl x)) = a (inr (inl x))
  hop_short (hop g e j js more) a b c' d (inr (inr x)) = hop_short more (λ y. a (inr (inr y))) b c' d x

  pub hop_ranged : (hs : HopItems) → IsRangedHops hs → FitsSigned w32 i → proper.IsRanged is → IsRangedHops (and_hop hs f c i is)
  hop_ranged no_hops a b d = (b, d, tt)
  hop_ranged (hop g e j js more) a b d = (a.0, a.1, hop_ranged more a.2 b d)

-- ---- a message

module _ (m : MessageVal) where
  pub message_written : (o : Order) (ms : List MessageVal) → written o (ms ++ m ∷ []) ≡ written o ms ++ with_padding (message_item o m)
  message_written o [] = append-nil _
  message_written o (k ∷ ms) =
      let one = with_padding (message_item o k) in
      ap (λ (xs : List ℕ). one ++ xs) (message_written o ms) ∙ sym (append_assoc one (written o ms) (with_padding (message_item o m)))

  pub message_matched : (ms : List MessageVal) → (IsMismatched ms → ⊥) → (IsMismatchedBody m.body (form_of m.kind) → ⊥) → IsMismatched (ms ++ m ∷ []) → ⊥
  message_matched [] a b (inl x) = b x
  message_matched [] a b (inr x) = x
  message_matched (k ∷ ms) a b (inl x) = a (inl x)
  message_matched (k ∷ ms) a b (inr x) = message_matched ms (λ y. a (inr y)) b x

  pub message_shallow : (ms : List MessageVal) (D : ℕ) → (IsDeep ms D → ⊥) → (IsDeepBody m.body D → ⊥) → IsDeep (ms ++ m ∷ []) D → ⊥
  message_shallow [] D a b (inl x) = b x
  message_shallow [] D a b (inr x) = x
  message_shallow (k ∷ ms) D a b (inl x) = a (inl x)
  message_shallow (k ∷ ms) D a b (inr x) = message_shallow ms D (λ y. a (inr y)) b x

  pub message_short : (ms : List MessageVal) → (HasLong ms → ⊥) → (IsLongBody m.body → ⊥) → HasLong (ms ++ m ∷ []) → ⊥
  message_short [] a b (inl x) = b x
  message_short [] a b (inr x) = x
  message_short (k ∷ ms) a b (inl x) = a (inl x)
  message_short (k ∷ ms) a b (inr x) = message_short ms (λ y. a (inr y)) b x

  pub message_ranged : (ms : List MessageVal) → IsRanged ms → IsRanged (m ∷ []) → IsRanged (ms ++ m ∷ [])
  message_ranged [] a b = b
  message_ranged (k ∷ ms) a b = (a.0, a.1, a.2, a.3, a.4, message_ranged ms a.5 b)
