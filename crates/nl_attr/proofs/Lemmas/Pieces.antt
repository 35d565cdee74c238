-- Pieces of a region: the item at the front of one whose head is sound, their lengths and their bytes.
use Rattle.nl_attr.proofs.Common.{◌≡◌, ℕ, ◌+◌, ◌-◌, ◌*◌, ◌/◌, ◌^◌, ◌<◌, ◌≤◌, min, List, ◌++◌, length, take, drop, replicate, None, sym, ap, ◌∙◌, subst, arith, inl, inr, append_assoc, length-append, length-drop, take-append-drop, take-take, length-take, length-replicate, nil_from_length, cases_lt, Order, AreBytes, aligned, num, len_of, span_of, broken_length, IsPadded, IsPiece, with_padding}
use Rattle.std.proofs.Math.Seq.{drop-append_seam, take-append_seam}
use Rattle.nl_attr.proofs.Lemmas.Numbers.{front_is, front_below, bytes_take, bytes_drop}
use Rattle.nl_attr.proofs.Lemmas.Reading.{sound_within, span_at_least}

-- bytes that begin with their own length
begins : (o : Order) (w : ℕ) (left : List ℕ) → AreBytes left → w ≤ len_of o w left → len_of o w left ≤ length left → take (len_of o w left) left ≡ num (len_of o w left) w o ++ drop w (take (len_of o w left) left)
begins o w left fits low high =
    let k = len_of o w left in
    sym (take-append-drop w (take k left)) ∙ ap (λ (t : List ℕ). t ++ drop w (take k left)) (take-take w k left low ∙ sym (front_is o w left fits (omega arith)))

padded : (len n : ℕ) (rest : List ℕ) → len ≤ n → length rest ≡ n - min ((len + 3) / 4 * 4) n → IsPadded len (min ((len + 3) / 4 * 4) n - len) rest
padded len n rest le e =
    elim (cases_lt n ((len + 3) / 4 * 4)) [
      | inl short ↦ inr (omega arith, nil_from_length rest (omega arith))
      | inr long ↦ inl (omega arith)
    ]

pub piece_at : (o : Order) (h w : ℕ) (left : List ℕ) → w ≤ h → AreBytes left → broken_length o h w left ≡ None → IsPiece o h w left (take (len_of o w left) left) (drop (len_of o w left) (take (span_of o w left) left)) (drop (span_of o w left) left)
piece_at o h w left le fits e =
    let i = sound_within o h w left e in
    let len = len_of o w left in
    let span = span_of o w left in
    let a : len ≤ span = span_at_least o w left i.high in
    let whole : span ≤ length left = below len (length left) in
    let item-len : length (take len left) ≡ len = omega (arith, length-take len left, i.high) in
    let pad-len : length (drop len (take span left)) ≡ span - len = omega (arith, length-drop len (take span left), length-take span left) in
    record {
      parts = sym (sym (append_assoc (take len left) (drop len (take span left)) (drop span left))
          ∙ ap (λ (t : List ℕ). t ++ drop span left) (ap (λ (t : List ℕ). t ++ drop len (take span left)) (sym (take-take len span left a)) ∙ take-append-drop len (take span left))
          ∙ take-append-drop span left);
      least = omega (arith, i.low, item-len);
      fits = rw item-len (front_below o w left fits (omega (arith, i.head)));
      body = drop w (take len left);
      says = rw item-len (begins o w left fits (omega (arith, i.low)) i.high);
      padded = rw (item-len, pad-len) (padded len (length left) (drop span left) i.high (length-drop span left));
    } where
      below : (len n : ℕ) → min ((len + 3) / 4 * 4) n ≤ n
      below len n = omega arith

-- a piece and the rest are within the region
pub apart : (o : Order) (h w : ℕ) (region it pad rest : List ℕ) → IsPiece o h w region it pad rest → length it + length rest ≤ length region
apart o h w region it pad rest p = omega (arith, ap (length {A = ℕ}) p.parts, length-append it (pad ++ rest), length-append pad rest)

-- a region is as long as its first piece and the rest, each rounded up
pub two_parts : (o : Order) (h w : ℕ) (region it pad rest : List ℕ) → IsPiece o h w region it pad rest → aligned (length region) ≡ aligned (length it) + aligned (length rest)
two_parts o h w region it pad rest p = cut p.padded where
  all : length region ≡ length it + (length pad + length rest)
  all = ap (length {A = ℕ}) p.parts ∙ length-append it (pad ++ rest) ∙ ap (λ k. length it + k) (length-append pad rest)

  whole : (a b c n : ℕ) → n ≡ a + (b + c) → a + b ≡ aligned a → aligned n ≡ aligned a + aligned c
  whole a b c n e f = omega (arith, e, f)

  part : (a b c n : ℕ) → n ≡ a + (b + c) → a + b < aligned a → c ≡ 0 → aligned n ≡ aligned a + aligned c
  part a b c n e f g = omega (arith, e, f, g)

  cut : IsPadded (length it) (length pad) rest → aligned (length region) ≡ aligned (length it) + aligned (length rest)
  cut (inl e) = whole (length it) (length pad) (length rest) (length region) all e
  cut (inr e) = part (length it) (length pad) (length rest) (length region) all e.0 (ap (length {A = ℕ}) e.1)

-- an item as it is written is a piece
pub made : (o : Order) (h w : ℕ) (it body rest : List ℕ) → it ≡ num (length it) w o ++ body → h ≤ length it → length it < 256 ^ w → IsPiece o h w (with_padding it ++ rest) it (replicate (aligned (length it) - length it) 0) rest
made o h w it body rest says low high =
    record {
      parts = append_assoc it (replicate (aligned (length it) - length it) 0) rest;
      least = low;
      fits = high;
      body = body;
      says = says;
      padded = inl (ap (λ k. length it + k) (length-replicate {A = ℕ} (aligned (length it) - length it) 0) ∙ gap_after (length it));
    } where
      gap_after : (n : ℕ) → n + (aligned n - n) ≡ aligned n
      gap_after n = omega arith

-- a piece and what is behind it are bytes, as the region is
pub piece_bytes : {o : Order} {h w : ℕ} {region item pad rest : List ℕ} → AreBytes region → IsPiece o h w region item pad rest → AreBytes item × AreBytes rest
piece_bytes {region = region} {item = item} {pad = pad} {rest = rest} fit piece =
    let front : take (length item) region ≡ item = ap (take (length item)) piece.parts ∙ take-append_seam item (pad ++ rest) in
    let behind : drop (length item) region ≡ pad ++ rest = ap (drop (length item)) piece.parts ∙ drop-append_seam item (pad ++ rest) in (
      subst AreBytes front (bytes_take (length item) region fit),
      subst AreBytes (ap (drop (length pad)) behind ∙ drop-append_seam pad rest) (bytes_drop (length pad) (drop (length item) region) (bytes_drop (length item) region fit)),
    )
