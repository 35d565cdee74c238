-- Heads that are open, and what changes in a slice.
use Rattle.nl_frame.proofs.Common.{◌≡◌, ℕ, zero, suc, ◌+◌, ◌-◌, ◌≤◌, List, [], ◌∷◌, ◌++◌, length, take, drop, replicate, refl, sym, ap, subst, ◌∙◌, arith, Bool, true, false, Option, Some, None, append_assoc, length-append, length-drop, splice, length-take, take_at, drop_at, take-append-le, drop-append-le, take-append-drop, take-replicate, Order, AttrFlags, aligned, num, kind_number, with_padding, attr_item, length-attr, Family, AnyHead, head_size, family_of, fields_of, context_of, Content, form_of, BuildError, OpenHead, any_head}
use Rattle.std.proofs.Math.Seq.{drop-nil}
use Rattle.nl_route.specs.Fields as fields
use Rattle.nl_attr.specs.declared.tree.Content.TheVariants as content
use Rattle.nl_frame.specs.declared.building.head.FamilyHead.{FamilyHead}
use Rattle.nl_frame.specs.Building.{Built, AreOpen, lacks, grown, opened, or_next, begin, begin_refusal, first_refusal, message_begun, header_begun, order_of, settled, has_head}

-- heads among some bytes are among more
pub are_open_more : (D n m : ℕ) (hs : List OpenHead) → n ≤ m → AreOpen D n hs → AreOpen D m hs
are_open_more D n m [] le a = tt
are_open_more D n m (h ∷ hs) le a = (omega (arith, a.0, le), a.1, are_open_more D n m hs le a.2)

-- there is room
pub has_room : (b : Built) (n : ℕ) → lacks b n ≡ None → (n ≤ length b.free) × (length b.front + n ≤ b.bounds.datagram)
has_room b n e = grind arith

pub room_for : (b : Built) (n : ℕ) → n ≤ length b.free → length b.front + n ≤ b.bounds.datagram → lacks b n ≡ None
room_for b n h k = grind arith

-- one accepted part behind another
pub drop_twice : (n m : ℕ) (xs : List ℕ) → drop n (drop m xs) ≡ drop (m + n) xs
drop_twice n zero xs = let e : n ≡ zero + n = omega arith in ap (λ k. drop k xs) e
drop_twice n (suc m) [] = drop-nil n ∙ sym (drop-nil (suc m + n))
drop_twice n (suc m) (x ∷ xs) = let e : suc m + n ≡ suc (m + n) = omega arith in drop_twice n m xs ∙ ap (λ k. drop k (x ∷ xs)) (sym e)

pub grown_twice : (b : Built) (xs ys : List ℕ) → grown (grown b xs) ys ≡ grown b (xs ++ ys)
grown_twice b xs ys =
    ap (λ (f : List ℕ). record b { front = f; free = drop (length ys) (drop (length xs) b.free) }) (append_assoc b.front xs ys)
    ∙ ap (λ (f : List ℕ). record b { front = b.front ++ (xs ++ ys); free = f }) (drop_twice (length ys) (length xs) b.free ∙ ap (λ k. drop k b.free) (sym (length-append xs ys)))

-- a head of two parts
pub opened_more : (b : Built) (c : Content) (xs ys : List ℕ) → grown (opened b c xs) ys ≡ opened b c (xs ++ ys)
opened_more b c xs ys =
    let h : OpenHead = record { start = length b.front; content = c } in
    ap (λ (x : Built). record x { heads = h ∷ b.heads }) (grown_twice b xs ys)

-- zeros up to an aligned place
pub few_zeros : (k : ℕ) (zs : List ℕ) → k ≤ 3 → zs ≡ 0 ∷ 0 ∷ 0 ∷ [] → take k zs ≡ replicate k 0
few_zeros k zs le e = ap (take k) e ∙ take-replicate k 3 0 le

-- an attribute, part by part
pub attr_parts : (o : Order) (n : ℕ) (f : AttrFlags) (bs head pad : List ℕ) → head ≡ num (4 + length bs) 2 o ++ num (kind_number n f) 2 o
    → pad ≡ replicate (aligned (4 + length bs) - (4 + length bs)) 0 → (head ++ bs) ++ pad ≡ with_padding (attr_item o n f bs)
attr_parts o n f bs head pad e g =
    let it : head ++ bs ≡ attr_item o n f bs = ap (λ (xs : List ℕ). xs ++ bs) e ∙ append_assoc (num (4 + length bs) 2 o) (num (kind_number n f) 2 o) bs in
    ap (λ (xs : List ℕ). xs ++ pad) it ∙ ap (λ (xs : List ℕ). attr_item o n f bs ++ xs) (g ∙ ap (λ k. replicate (aligned k - k) 0) (sym (length-attr o n f bs)))

-- ---- a part of a slice is written over

over_front : (a b field : List ℕ) (s t : ℕ) → s ≤ length a → t ≤ length a → splice (a ++ b) s t field ≡ splice a s t field ++ b
over_front a b field s t h k =
    rw (take-append-le s a b h, drop-append-le t a b k)
    (sym (append_assoc (take s a) (field ++ drop t a) b ∙ ap (λ (ys : List ℕ). take s a ++ ys) (append_assoc field (drop t a) b)))

pub length-over : (a field : List ℕ) (s t : ℕ) → s + length field ≡ t → t ≤ length a → length (splice a s t field) ≡ length a
length-over a field s t e h = omega (arith, length-append (take s a) (field ++ drop t a), length-append field (drop t a), length-take s a, length-drop t a, e, h)

module _ (len s t : ℕ) (xs field : List ℕ) where
  front_len : len ≤ length xs → length (take len xs) ≡ len
  front_len k = omega (arith, length-take len xs, k)

  written_over : s + length field ≡ t → t ≤ len → len ≤ length xs → splice xs s t field ≡ splice (take len xs) s t field ++ drop len xs
  written_over e h k =
      ap (λ (ys : List ℕ). splice ys s t field) (sym (take-append-drop len xs))
      ∙ over_front (take len xs) (drop len xs) field s t (omega (arith, front_len k, e, h)) (omega (arith, front_len k, h))

  over_len : s + length field ≡ t → t ≤ len → len ≤ length xs → length (splice (take len xs) s t field) ≡ len
  over_len e h k = length-over (take len xs) field s t e (omega (arith, front_len k, h)) ∙ front_len k

  pub front_over : s + length field ≡ t → t ≤ len → len ≤ length xs → take len (splice xs s t field) ≡ splice (take len xs) s t field
  front_over e h k = ap (take len) (written_over e h k) ∙ take_at (splice (take len xs) s t field) (drop len xs) len (over_len e h k)

  pub back_over : s + length field ≡ t → t ≤ len → len ≤ length xs → drop len (splice xs s t field) ≡ drop len xs
  back_over e h k = ap (drop len) (written_over e h k) ∙ drop_at (splice (take len xs) s t field) (drop len xs) len (over_len e h k)

-- ---- a message

-- there is room for fewer bytes, and for what is left of them behind others
pub lacks_less : (b : Built) (n m : ℕ) → lacks b n ≡ None → m ≤ n → lacks b m ≡ None
lacks_less b n m e h = let r = has_room b n e in room_for b m (omega (arith, r.0, h)) (omega (arith, r.1, h))

pub lacks_after : (b : Built) (xs : List ℕ) (c : Content) (n m : ℕ) → lacks b n ≡ None → length xs + m ≡ n → lacks (opened b c xs) m ≡ None
lacks_after b xs c n m e h =
    let r = has_room b n e in
    room_for (opened b c xs) m (omega (arith, r.0, h, length-drop (length xs) b.free)) (omega (arith, r.1, h, length-append b.front xs))

-- a message that is not refused is the first that is open, and has room
pub begin_allowed : (b : Built) (kind : ℕ) (g : Family) → or_next b.refusal (begin_refusal b b.heads kind g) ≡ None
    → (b.heads ≡ []) × (lacks b (16 + head_size g) ≡ None) × (has_head (form_of kind) g ≡ true)
begin_allowed b kind g e = allowed b.refusal b.heads (has_head (form_of kind) g) e where
  allowed : (r : Option BuildError) (hs : List OpenHead) (t : Bool) → or_next r (first_refusal b hs t g) ≡ None → (hs ≡ []) × (lacks b (16 + head_size g) ≡ None) × (t ≡ true)
  allowed (Some x) hs t e = absurd (cc)
  allowed None (h ∷ hs) t e = absurd (cc)
  allowed None [] false e = absurd (cc)
  allowed None [] true e = (refl, e, refl)

pub begins : (b new : Built) (kind flags seq port : ℕ) (head : AnyHead)
    → or_next b.refusal (begin_refusal b b.heads kind (family_of head)) ≡ None
    → new ≡ opened b (content.List (context_of (family_of head))) (message_begun (order_of b) (header_begun kind flags seq port) head)
    → new ≡ begin b kind flags seq port head
begins b new kind flags seq port head e f = f ∙ sym (ap (λ r. settled b r (opened b (content.List (context_of (family_of head))) (message_begun (order_of b) (header_begun kind flags seq port) head))) e)

-- a family's head is accepted
pub head_accepted : (b new : Built) (head h : FamilyHead) (o : Order) (bytes : List ℕ)
    → new ≡ grown b bytes → bytes ≡ fields.written o (fields_of (any_head h)) → o ≡ order_of b → head ≡ h
    → new ≡ grown b (fields.written (order_of b) (fields_of (any_head head)))
head_accepted b new head h o bytes e f g k =
    e ∙ ap (grown b) (f ∙ ap (λ (x : Order). fields.written x (fields_of (any_head h))) g ∙ ap (λ (x : FamilyHead). fields.written (order_of b) (fields_of (any_head x))) (sym k))

-- its numbers are in their ranges
pub head_ranged : (head h : FamilyHead) → head ≡ h → fields.AreRanged (fields_of (any_head h)) → fields.AreRanged (fields_of (any_head head))
head_ranged head h e r = subst (λ (x : FamilyHead). fields.AreRanged (fields_of (any_head x))) (sym e) r
