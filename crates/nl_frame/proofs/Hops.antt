-- A next hop that is put whole.
use Rattle.nl_frame.proofs.Common.{◌≡◌, ℕ, ℤ, ◌+◌, ◌-◌, ◌≤◌, nat_lt, if◌then◌else◌, List, [], ◌∷◌, ◌++◌, length, drop, Option, Some, None, Result, Ok, refl, sym, ap, ◌∙◌, arith, append_assoc, length-append, w32, cast_unsigned, splice, LONGEST_ITEM, LONGEST_CONTAINER, aligned, num, bytes, with_padding, attr_item, Route, Content, length-num, length-padded_attr, OpenHead, BuildError}
use Rattle.nl_attr.specs.declared.tree.Content.TheVariants as content
use Rattle.nl_frame.specs.Building.{Built, bytes_refusal, close_refusal, ended, grown, held_in, hop_begun, hop_refusal, hop_refusal_in, lacks, length_from, no_flags, opened, open_hop, or_next, order_of, put, put_hop, settled, top}
use Rattle.nl_frame.specs.Building as building
use Rattle.nl_frame.specs.declared.building.refusal.BuildError.TheVariants.{NothingOpen, TooLong}
use Rattle.std.specs.Option.{option_map}
use Rattle.nl_frame.proofs.Closes.{over_head}
use Rattle.nl_frame.proofs.Opens.{lacks_after, lacks_less}

-- bytes that are no longer than an attribute may be are put where there is room for them
bytes_put : (b : Built) (k : ℕ) → 4 + k ≤ LONGEST_ITEM → lacks b (aligned (4 + k)) ≡ None → bytes_refusal b (Ok content.Bytes) k ≡ None
bytes_put b k h e = grind arith

-- what is open behind another head is closed where it isn't too long
closes : (b : Built) (h k : OpenHead) (hs : List OpenHead) → b.heads ≡ h ∷ (k ∷ hs) → length b.front - h.start ≤ LONGEST_CONTAINER → close_refusal b ≡ None
closes b h k hs e l =
    let small : (if nat_lt (length (h ∷ (k ∷ hs))) 2 then Some NothingOpen else (if nat_lt LONGEST_CONTAINER (length b.front - h.start) then Some TooLong else None)) ≡ None = grind (arith, l) in
    ap (λ (ks : List OpenHead). if nat_lt (length ks) 2 then Some NothingOpen else (if nat_lt LONGEST_CONTAINER (length_from b ks) then Some TooLong else None)) e ∙ small

module _ (b : Built) (f c : ℕ) (i : ℤ) (n : ℕ) (bs : List ℕ) (h : OpenHead) (hs : List OpenHead) where
  abbrev size : ℕ
  size = 8 + aligned (4 + length bs)

  abbrev rest : List ℕ
  rest = f ∷ c ∷ num (cast_unsigned w32 i) 4 (order_of b)

  abbrev attr : List ℕ
  attr = with_padding (attr_item (order_of b) n no_flags bs)

  -- the next hop opens, and its attribute is put
  abbrev begun : Built
  begun = opened b (content.List Route) (hop_begun (order_of b) f c i)

  abbrev filled : Built
  filled = grown begun attr

  rest_len : length rest ≡ 6
  rest_len = omega (arith, length-num (order_of b) (cast_unsigned w32 i) 4)

  begun_len : length (hop_begun (order_of b) f c i) ≡ 8
  begun_len = length-append (num 0 2 (order_of b)) rest ∙ omega (arith, length-num (order_of b) 0 2, rest_len)

  attr_len : length attr ≡ aligned (4 + length bs)
  attr_len = length-padded_attr (order_of b) n no_flags (bytes bs)

  filled_len : length filled.front - length b.front ≡ size
  filled_len = omega (arith, length-append (b.front ++ hop_begun (order_of b) f c i) attr, length-append b.front (hop_begun (order_of b) f c i), begun_len, attr_len)

  module _ (heads : b.heads ≡ h ∷ hs) (hops : h.content ≡ content.Hops) (none : b.refusal ≡ None) (is : held_in (content.List Route) n no_flags ≡ Ok content.Bytes) (short : size ≤ LONGEST_CONTAINER) (room : lacks b size ≡ None) where
    opens : open_hop b f c i ≡ begun
    opens =
        let hop : hop_refusal b (top b.heads) ≡ None = ap (λ (ks : List OpenHead). hop_refusal b (top ks)) heads ∙ ap (hop_refusal_in b) hops ∙ lacks_less b size 8 room (omega arith) in
        ap (λ (r : Option BuildError). settled b (or_next r (hop_refusal b (top b.heads))) begun) none ∙ ap (λ (r : Option BuildError). settled b r begun) hop

    fills : put begun n no_flags bs ≡ filled
    fills =
        let fits : bytes_refusal begun (held_in (content.List Route) n no_flags) (length bs) ≡ None =
        ap (λ (r : Result Content BuildError). bytes_refusal begun r (length bs)) is ∙ bytes_put begun (length bs) (omega (arith, short)) (lacks_after b (hop_begun (order_of b) f c i) (content.List Route) size (aligned (4 + length bs)) room (omega (arith, begun_len))) in
        ap (λ (r : Option BuildError). settled begun (or_next r (bytes_refusal begun (held_in (content.List Route) n no_flags) (length bs))) filled) none ∙ ap (λ (r : Option BuildError). settled begun r filled) fits

    closed : building.close filled ≡ ended filled 2
    closed =
        let k : OpenHead = record { start = length b.front; content = content.List Route } in
        let fits : close_refusal filled ≡ None = closes filled k h hs (ap (λ (ks : List OpenHead). k ∷ ks) heads) (omega (arith, filled_len, short)) in
        ap (λ (r : Option BuildError). settled filled (or_next r (close_refusal filled)) (ended filled 2)) none ∙ ap (λ (r : Option BuildError). settled filled r (ended filled 2)) fits

    -- it is what its bytes make, with its length in them
    pub hop_whole : (head : List ℕ) → head ≡ num size 2 (order_of b) ++ rest → grown (grown b head) attr ≡ put_hop b f c i n bs
    hop_whole head e =
        let o = order_of b in
        let s = length b.front in
        let zero = num 0 2 o in
        let m = length filled.front - s in
        let field = num m 2 o in
        let all : filled.front ≡ b.front ++ (zero ++ (rest ++ attr)) = append_assoc b.front (zero ++ rest) attr ∙ ap (λ (ys : List ℕ). b.front ++ ys) (append_assoc zero rest attr) in
        let over : splice filled.front s (s + length field) field ≡ b.front ++ (field ++ (rest ++ attr)) =
        ap (λ (ys : List ℕ). splice ys s (s + length field) field) all ∙ over_head b.front zero (rest ++ attr) field s (s + length field) refl (length-num o 0 2 ∙ sym (length-num o m 2)) refl in
        let set : field ++ rest ≡ head = ap (λ k. num k 2 o ++ rest) filled_len ∙ sym e in
        let front : splice filled.front s (s + length field) field ≡ (b.front ++ head) ++ attr =
        over ∙ ap (λ (ys : List ℕ). b.front ++ ys) (sym (append_assoc field rest attr) ∙ ap (λ (ys : List ℕ). ys ++ attr) set) ∙ sym (append_assoc b.front head attr) in
        let head_len : length head ≡ 8 = ap (length {A = ℕ}) e ∙ length-append (num size 2 o) rest ∙ omega (arith, length-num o size 2, rest_len) in
        let len : length (hop_begun o f c i) ≡ length head = begun_len ∙ sym head_len in
        let made : building.close (put (open_hop b f c i) n no_flags bs) ≡ ended filled 2 = ap (λ (x : Built). building.close x) (ap (λ (x : Built). put x n no_flags bs) opens ∙ fills) ∙ closed in
        sym (
        made
        ∙ ap (λ (ys : List ℕ). record b { front = ys; free = drop (length attr) (drop (length (hop_begun o f c i)) b.free) }) front
        ∙ ap (λ k. record b { front = (b.front ++ head) ++ attr; free = drop (length attr) (drop k b.free) }) len
        )

-- the same, behind the innermost head
pub hop_put : (b : Built) (f c : ℕ) (i : ℤ) (n : ℕ) (bs : List ℕ) → option_map (λ (h : OpenHead). h.content) (top b.heads) ≡ Some content.Hops → b.refusal ≡ None
    → held_in (content.List Route) n no_flags ≡ Ok content.Bytes → 8 + aligned (4 + length bs) ≤ LONGEST_CONTAINER → lacks b (8 + aligned (4 + length bs)) ≡ None
    → (head : List ℕ) → head ≡ num (8 + aligned (4 + length bs)) 2 (order_of b) ++ (f ∷ c ∷ num (cast_unsigned w32 i) 4 (order_of b))
    → grown (grown b head) (with_padding (attr_item (order_of b) n no_flags bs)) ≡ put_hop b f c i n bs
hop_put b f c i n bs e none is short room head g = at b.heads refl e where
  at : (hs : List OpenHead) → b.heads ≡ hs → option_map (λ (h : OpenHead). h.content) (top hs) ≡ Some content.Hops
      → grown (grown b head) (with_padding (attr_item (order_of b) n no_flags bs)) ≡ put_hop b f c i n bs
  at [] k x = absurd (cc)
  at (h ∷ hs) k x = let one : h.content ≡ content.Hops = cc in hop_whole b f c i n bs h hs k one none is short room head g
