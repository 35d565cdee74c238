-- How many bytes are written, and what stands where an item is closed.
use Rattle.nl_attr.proofs.Common.{◌≡◌, ℕ, ℤ, zero, suc, ◌+◌, ◌-◌, ◌*◌, ◌/◌, ◌≤◌, List, [], ◌∷◌, ◌++◌, length, take, drop, set, replicate, Result, Ok, Err, is_ok, refl, sym, ap, ◌∙◌, arith, length-append, length-drop, length-set, append_assoc, IsOk, if◌then◌else◌, slice_index, w32, cast_unsigned, length-replicate, take_all, take_at, drop_at, Order, AttrFlags, aligned, num, kind_number, Val, bytes, list, hops, Items, no_items, item, HopItems, no_hops, hop, with_padding, attr_item, hop_item, written, written_val, written_hops, val_len, items_len, hops_len}
use Rattle.nl_attr.specs.declared.order.Order.TheVariants.{Little, Big}
use Rattle.nl_attr.proofs.Lemmas.Numbers.{head_length, hop_length, length-num}

pub length-padded : (it : List ℕ) → length (with_padding it) ≡ aligned (length it)
length-padded it = omega (arith, length-append it (replicate (aligned (length it) - length it) 0), length-replicate {A = ℕ} (aligned (length it) - length it) 0)

length-two : (it more : List ℕ) (a n : ℕ) → length it ≡ a → length more ≡ n → length (with_padding it ++ more) ≡ aligned a + n
length-two it more a n e f = length-append (with_padding it) more ∙ ap (λ k. k + length more) (length-padded it ∙ ap aligned e) ∙ ap (λ k. aligned a + k) f

module _ (o : Order) where
  pub length-attr : (n : ℕ) (flags : AttrFlags) (payload : List ℕ) → length (attr_item o n flags payload) ≡ 4 + length payload
  length-attr n flags payload = omega (arith, head_length o (4 + length payload) (kind_number n flags) payload)

  pub length-hop : (flags count : ℕ) (index : ℤ) (payload : List ℕ) → length (hop_item o flags count index payload) ≡ 8 + length payload
  length-hop flags count index payload = omega (arith, hop_length o (8 + length payload) flags count (cast_unsigned w32 index) payload)

  mutual
    pub length-val : (v : Val) → length (written_val o v) ≡ val_len v
    length-val (bytes bs) = refl
    length-val (list is) = length-items is
    length-val (hops hs) = length-hops hs

    pub length-items : (is : Items) → length (written o is) ≡ items_len is
    length-items no_items = refl
    length-items (item n flags v more) =
        let e : length (attr_item o n flags (written_val o v)) ≡ 4 + val_len v = omega (arith, length-attr n flags (written_val o v), length-val v) in
        length-two (attr_item o n flags (written_val o v)) (written o more) (4 + val_len v) (items_len more) e (length-items more)

    pub length-hops : (hs : HopItems) → length (written_hops o hs) ≡ hops_len hs
    length-hops no_hops = refl
    length-hops (hop flags count index attrs more) =
        let e : length (hop_item o flags count index (written o attrs)) ≡ 8 + items_len attrs = omega (arith, length-hop flags count index (written o attrs), length-items attrs) in
        length-two (hop_item o flags count index (written o attrs)) (written_hops o more) (8 + items_len attrs) (hops_len more) e (length-hops more)

  -- an attribute with its padding
  pub length-padded_attr : (n : ℕ) (flags : AttrFlags) (v : Val) → length (with_padding (attr_item o n flags (written_val o v))) ≡ aligned (4 + val_len v)
  length-padded_attr n flags v =
      length-padded (attr_item o n flags (written_val o v)) ∙ ap aligned (length-attr n flags (written_val o v)) ∙ ap (λ k. aligned (4 + k)) (length-val v)

  -- a next hop with its padding
  pub length-padded_hop : (flags count : ℕ) (index : ℤ) (is : Items) → length (with_padding (hop_item o flags count index (written o is))) ≡ aligned (8 + items_len is)
  length-padded_hop flags count index is =
      length-padded (hop_item o flags count index (written o is)) ∙ ap aligned (length-hop flags count index (written o is)) ∙ ap (λ k. aligned (8 + k)) (length-items is)

-- two stores side by side
set_two : (xs : List ℕ) (s a b : ℕ) → suc (suc s) ≤ length xs → set (set xs s a) (suc s) b ≡ take s xs ++ (a ∷ b ∷ drop (suc (suc s)) xs)
set_two (x ∷ y ∷ xs) zero a b h = refl
set_two (x ∷ xs) (suc s) a b h = ap (λ ys. x ∷ ys) (set_two xs s a b (omega arith))
set_two (x ∷ []) zero a b h = absurd (omega arith)
set_two [] s a b h = absurd (omega arith)

-- what holds of a call that does not fail
pub when_ok : {A E X : Type 0} (r : Result A E) (x y z : X) → IsOk r → z ≡ (if is_ok r then x else y) → z ≡ x
when_ok (Ok a) x y z h e = e
when_ok (Err d) x y z h e = absurd (cc)

-- the two bytes of a length field
two_bytes : (o : Order) (n : ℕ) (xs : List ℕ) → slice_index (num n 2 o) 0 ∷ slice_index (num n 2 o) 1 ∷ xs ≡ num n 2 o ++ xs
two_bytes Little n xs = refl
two_bytes Big n xs = refl

-- an item whose length is stored, and its padding
pub closed : (o : Order) (xs field : List ℕ) (s n vlen : ℕ) → field ≡ num n 2 o → s + 2 ≤ vlen → vlen ≡ length xs → vlen ≡ s + n
    → take (s + (n + 3) / 4 * 4) (set (set xs s (slice_index field 0)) (s + 1) (slice_index field 1)) ++ replicate (s + (n + 3) / 4 * 4 - vlen) 0 ≡ take s xs ++ with_padding (num n 2 o ++ drop (s + 2) xs)
closed o xs field s n vlen f h len all =
    let one : s + 1 ≡ suc s = omega arith in
    let two : s + 2 ≡ suc (suc s) = omega arith in
    let top = s + (n + 3) / 4 * 4 in
    let a = slice_index field 0 in
    let b = slice_index field 1 in
    let z = set (set xs s a) (s + 1) b in
    let it = num n 2 o ++ drop (s + 2) xs in
    let says : a ∷ b ∷ drop (s + 2) xs ≡ it = ap (λ (ys : List ℕ). slice_index ys 0 ∷ slice_index ys 1 ∷ drop (s + 2) xs) f ∙ two_bytes o n (drop (s + 2) xs) in
    let whole : z ≡ take s xs ++ it =
    ap (λ (k : ℕ). set (set xs s a) k b) one ∙ set_two xs s a b (omega arith) ∙ ap (λ k. take s xs ++ (a ∷ b ∷ drop k xs)) (sym two) ∙ ap (λ (ys : List ℕ). take s xs ++ ys) says in
    let size : length z ≡ s + n = length-set (set xs s a) (s + 1) b ∙ length-set xs s a ∙ sym len ∙ all in
    let item-size : length it ≡ n = omega (arith, length-append (num n 2 o) (drop (s + 2) xs), length-num o n 2, length-drop (s + 2) xs) in
    let gap : top - vlen ≡ aligned (length it) - length it = ap (λ k. top - k) all ∙ left n (aligned n) ∙ ap (λ k. aligned k - k) (sym item-size) in
    ap (λ (ys : List ℕ). ys ++ replicate (top - vlen) 0) (take_all top z (omega (arith, size)) ∙ whole)
    ∙ ap (λ k. (take s xs ++ it) ++ replicate k 0) gap ∙ append_assoc (take s xs) it (replicate (aligned (length it) - length it) 0) where
      left : (a b : ℕ) → s + b - (s + a) ≡ b - a
      left a b = omega arith

-- how much longer
pub grown : (m n : ℕ) (xs ys zs : List ℕ) → ys ≡ xs ++ zs → m ≡ length xs → n ≡ length ys → n ≡ m + length zs
grown m n xs ys zs e f g = g ∙ ap (length {A = ℕ}) e ∙ length-append xs zs ∙ ap (λ k. k + length zs) (sym f)

-- what is there behind a head whose length isn't known yet, once the length is stored in its field
pub item_closed : (o : Order) (w : ℕ) (old field tail payload all : List ℕ) (s vlen n : ℕ) → length field ≡ w → all ≡ (old ++ (field ++ tail)) ++ payload → s ≡ length old → vlen - s ≡ n
    → take s all ++ with_padding (num (vlen - s) w o ++ drop (s + w) all) ≡ old ++ with_padding (num n w o ++ (tail ++ payload))
item_closed o w old field tail payload all s vlen n size e f g =
    let x = tail ++ payload in
    let a : all ≡ old ++ (field ++ x) = e ∙ append_assoc old (field ++ tail) payload ∙ ap (λ (ys : List ℕ). old ++ ys) (append_assoc field tail payload) in
    let front : take s all ≡ old = ap (take s) a ∙ take_at old (field ++ x) s (sym f) in
    let back : drop (s + w) all ≡ x = ap (drop (s + w)) (a ∙ sym (append_assoc old field x)) ∙ drop_at (old ++ field) x (s + w) (omega (arith, length-append old field, size, f)) in
    rw (front, back, g) refl

-- how long what is written of a list is
pub ruleset lengths = length-items

-- an item whose length is put into its head
pub ruleset closing = (when_ok, closed)
