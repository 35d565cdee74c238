-- The pieces of bytes, by their places, and one piece more.
use Rattle.rtnl.proofs.Common.{◌≡◌, ℕ, zero, suc, ◌-◌, ◌<◌, ◌≤◌, List, [], ◌∷◌, ◌++◌, get_or, take, drop, length, refl, sym, ap, ◌∙◌, arith, length-append, inl, inr, slice_range, cases_lt, drop-append_seam, Rise, pieces}
use Rattle.std.proofs.lemmas.List.{drop-append-le, get_or_read, length-drop, take-append-le, take_all}

-- there is a piece for each end
pub length-pieces : (start : ℕ) (bytes ends : List ℕ) → length (pieces start bytes ends) ≡ length ends
length-pieces start bytes [] = refl
length-pieces start bytes (end ∷ ends) = ap (λ n. suc n) (length-pieces end bytes ends)

-- each piece goes from the end before it to its own
pub piece_at : (start : ℕ) (bytes ends : List ℕ) (i d : ℕ) (e : List ℕ) → i < length ends →
    get_or (pieces start bytes ends) i e ≡ slice_range bytes (get_or (start ∷ ends) i d) (get_or ends i d)
piece_at start bytes [] i d e below = absurd (omega arith)
piece_at start bytes (end ∷ ends) zero d e below = refl
piece_at start bytes (end ∷ ends) (suc i) d e below = piece_at end bytes ends i d e (omega arith)

-- the first place is not behind the last
pub start-le-last : (start : ℕ) (ends : List ℕ) (last : ℕ) → Rise start ends last → start ≤ last
start-le-last start [] last rise = omega (arith, rise)
start-le-last start (end ∷ ends) last rise = omega (arith, rise.0, start-le-last end ends last rise.1)

-- an end stands behind the one before it, and not behind the last
pub ends_at : (start : ℕ) (ends : List ℕ) (last i d : ℕ) → Rise start ends last → i < length ends →
    (get_or (start ∷ ends) i d ≤ get_or ends i d) × (get_or ends i d ≤ last)
ends_at start [] last i d rise below = absurd (omega arith)
ends_at start (end ∷ ends) last zero d rise below = (rise.0, start-le-last end ends last rise.1)
ends_at start (end ∷ ends) last (suc i) d rise below = ends_at end ends last i d rise.1 (omega arith)

-- one end more
pub Rise-push : (start : ℕ) (ends : List ℕ) (last next : ℕ) → Rise start ends last → last ≤ next → Rise start (ends ++ next ∷ []) next
Rise-push start [] last next rise le = (omega (arith, rise), refl)
Rise-push start (end ∷ ends) last next rise le = (rise.0, Rise-push end ends last next rise.1 le)

front_piece : (bytes more : List ℕ) (start end : ℕ) → end ≤ length bytes → slice_range (bytes ++ more) start end ≡ slice_range bytes start end
front_piece bytes more start end le =
    elim (cases_lt start end) [
      | inl below ↦
          ap (take (end - start)) (drop-append-le start bytes more (omega arith))
          ∙ take-append-le (end - start) (drop start bytes) more (omega (arith, length-drop start bytes))
      | inr past ↦
          let none : end - start ≡ 0 = omega arith in
          rw none refl
    ]

-- bytes behind those that are there make one piece more
pub pieces_push : (start : ℕ) (bytes ends more : List ℕ) (next : ℕ) → Rise start ends (length bytes) → next ≡ length (bytes ++ more) →
    pieces start (bytes ++ more) (ends ++ next ∷ []) ≡ pieces start bytes ends ++ more ∷ []
pieces_push start bytes [] more next rise e =
    let rest : drop start (bytes ++ more) ≡ more = ap (λ k. drop k (bytes ++ more)) rise ∙ drop-append_seam bytes more in
    let whole : slice_range (bytes ++ more) start next ≡ more = ap (take (next - start)) rest ∙ take_all (next - start) more (omega (arith, rise, e, length-append bytes more)) in
    ap (λ p. p ∷ []) whole
pieces_push start bytes (end ∷ ends) more next rise e =
    let le = start-le-last end ends (length bytes) rise.1 in
    (λ i. front_piece bytes more start end le i ∷ pieces_push end bytes ends more next rise.1 e i)

-- what is cut out between two ends is the piece at a place
pub cut : (bytes ends : List ℕ) (i start end : ℕ) → Rise 0 ends (length bytes) → i < length ends → start ≡ get_or (0 ∷ ends) i 0 → end ≡ get_or ends i end →
    (start ≤ end) × (end ≤ length bytes) × (slice_range bytes start end ≡ get_or (pieces 0 bytes ends) i [])
cut bytes ends i start end rise below from to =
    let to0 = get_or_read ends i end below to 0 in
    let sides = ends_at 0 ends (length bytes) i 0 rise below in (
      omega (arith, from, to0, sides.0),
      omega (arith, to0, sides.1),
      rw (from, to0) (sym (piece_at 0 bytes ends i 0 [] below)),
    )

-- there is an end for each piece
pub within : (bytes ends : List ℕ) (i : ℕ) (all : List (List ℕ)) → pieces 0 bytes ends ≡ all → i < length all → i < length ends
within bytes ends i all is below = omega (arith, length-pieces 0 bytes ends, ap length is, below)
