-- The bytes of a request.
use Rattle.std.proofs.Common.{◌≡◌, ℕ, zero, suc, ◌+◌, ◌-◌, ◌≤◌, List, [], ◌∷◌, ◌++◌, length, take, drop, set, get_or, replicate, refl, sym, ap, ◌∙◌, arith, take_at, append-nil, append_assoc, length-append, length-drop, length-set}
use Rattle.nl_dump.proofs.Common.{length-take-le, set-append_right, drop-cons, Order, aligned, Family, head_size, zeros, is_family, header_fields, Dump}
use Rattle.std.proofs.lemmas.List.Edits.{paste_all}
use Rattle.std.proofs.lemmas.Slice.{put_mid-paste}
use Rattle.std.proofs.Math.ListN.{drop_of_length-le}
use borrow.Rule.Slice.PartMut.{put_mid}
use Rattle.nl_route.specs.declared.family.Family.TheVariants.{Link}
use Rattle.nl_route.specs.Fields as fields
use Rattle.nl_route.proofs.Fields.{length-zeros, length-written}
use Rattle.nl_frame.specs.Written.{body_len, header_for, message_item}
use Rattle.nl_frame.proofs.WrittenLayouts.{length-message}
use Rattle.nl_dump.specs.Request.{request_message, request_of}

least_head : (g : Family) → 1 ≤ head_size g
least_head Link = omega arith
least_head g = omega arith

-- a request is never padded
no_padding : (g : Family) → aligned (16 + head_size g) ≡ 16 + head_size g
no_padding g = omega (arith, (is_family g).whole)

-- the body of a request is a whole head
body_is_head : (d : Dump) → body_len (request_message d).body ≡ head_size d.kind
body_is_head d = omega (arith, length-zeros (head_size d.kind - 1), least_head d.kind)

-- a request is its header, the address family, and zeros
request_is : (o : Order) (d : Dump) → request_of o d ≡ fields.written o (header_fields (header_for (request_message d))) ++ (d.family ∷ zeros (head_size d.kind - 1))
request_is o d =
    let it = message_item o (request_message d) in
    let len : length it ≡ 16 + head_size d.kind = length-message o (request_message d) ∙ ap (λ k. 16 + k) (body_is_head d) in
    let none : aligned (length it) - length it ≡ 0 = omega (arith, ap aligned len, len, no_padding d.kind) in
    ap (λ k. (it ++ replicate k 0) ++ []) none ∙ append-nil (it ++ []) ∙ append-nil it

-- ---- the parts of a request, written one after another

zeros_are : (n : ℕ) → replicate n 0 ≡ zeros n
zeros_are zero = refl
zeros_are (suc n) = ap (λ xs. 0 ∷ xs) (zeros_are n)

-- a header over the front of a list, and the address family behind it
abbrev with_byte : List ℕ → List ℕ → ℕ → List ℕ
with_byte front old family = set (front ++ drop 16 old) 16 family

-- how many bytes are behind the family
abbrev behind : List ℕ → List ℕ → ℕ → ℕ
behind front old family = length (take (length (with_byte front old family) - 17) (drop 17 (with_byte front old family)))

-- others in their place
abbrev with_gap : List ℕ → List ℕ → ℕ → List ℕ → List ℕ
with_gap front old family gap = put_mid 17 (length (with_byte front old family) - 17) (with_byte front old family) gap

module _ (front old : List ℕ) (family n : ℕ) (header : length front ≡ 16) (room : length old ≡ 17 + n) where
  byte_put : with_byte front old family ≡ (front ++ family ∷ []) ++ drop 17 old
  byte_put =
      let rest : drop 16 old ≡ get_or old 16 0 ∷ drop 17 old = drop-cons old 16 0 (omega arith) in
      ap (λ xs. set (front ++ xs) 16 family) rest ∙ set-append_right front (get_or old 16 0 ∷ drop 17 old) 16 16 family header (omega arith) ∙ sym (append_assoc front (family ∷ []) (drop 17 old))

  zeros_put : (gap : List ℕ) → gap ≡ replicate (behind front old family) 0 → with_gap front old family gap ≡ front ++ (family ∷ zeros n)
  zeros_put gap e =
      let all = with_byte front old family in
      let size : length all ≡ 17 + n = omega (arith, length-set (front ++ drop 16 old) 16 family, length-append front (drop 16 old), length-drop 16 old) in
      let left : behind front old family ≡ n = omega (arith, length-take-le (length all - 17) (drop 17 all) (omega (arith, length-drop 17 all)), size) in
      let gap_is : gap ≡ zeros n = rw (e, left) (zeros_are n) in
      let pasted = put_mid-paste 17 (length all - 17) all gap (zeros n) n gap_is (omega (arith, size)) (sym (length-zeros n)) ∙ paste_all all 17 (zeros n) n (sym (length-zeros n)) in
      let first : take 17 all ≡ front ++ family ∷ [] = ap (take 17) byte_put ∙ take_at (front ++ family ∷ []) (drop 17 old) 17 (omega (arith, length-append front (family ∷ []))) in
      let none : drop (17 + n) all ≡ [] = drop_of_length-le all (omega (arith, size)) in
      pasted ∙ rw (first, none, append-nil) (append_assoc front (family ∷ []) (zeros n))

-- the header, the family and zeros, over as many bytes as the request has
pub request_put : (o : Order) (d : Dump) (front old gap : List ℕ) → length old ≡ 16 + head_size d.kind → front ≡ fields.written o (header_fields (header_for (request_message d)))
    → gap ≡ replicate (behind front old d.family) 0 → with_gap front old d.family gap ≡ request_of o d
request_put o d front old gap room is zero_gap =
    let header : length front ≡ 16 = ap length is ∙ length-written o (header_fields (header_for (request_message d))) in
    let put = zeros_put front old d.family (head_size d.kind - 1) header (omega (arith, least_head d.kind)) gap zero_gap in
    put ∙ ap (λ xs. xs ++ (d.family ∷ zeros (head_size d.kind - 1))) is ∙ sym (request_is o d)
