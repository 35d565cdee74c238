-- All that a walk gives is its pieces in order, and then its end or its fault.
use Rattle.nl_attr.proofs.Common.{◌≡◌, ℕ, ◌+◌, ◌≤◌, List, [], ◌∷◌, length, take, drop, None, Result, Ok, Err, refl, sym, ap, subst, ◌∙◌, arith, ◌⊎◌, inl, inr, length-drop, length-take, drop-take, drop-drop, Fault, Part, HopPart, Order, AreBytes, len_of, span_of, Region, Gives, broken_length, payload_of, after, IsPart, IsHopPart, spans_of, LiesIn, EachLies, IsWalk, IsWalkOver}
use Rattle.std.specs.Iterator.{Yields, Drains}
use Rattle.nl_attr.proofs.Lemmas.Numbers.{bytes_drop}
use Rattle.nl_attr.proofs.Lemmas.Reading.{sound_within, span_at_least, payload_length}
use Rattle.nl_attr.proofs.Lemmas.Scan.{span_within}
use Rattle.nl_attr.proofs.Lemmas.Pieces.{piece_at}

nothing_more : {P : Type 0} (h : ℕ) (Is : P → Region → Type 0) (r : Region) (ps : List (Result P Fault)) → r.left ≡ [] → Drains (Gives h Is) r ps → ps ≡ []
nothing_more h Is r [] e d = refl
nothing_more h Is r (Ok p ∷ ps) e d = absurd (d.1.1.1.0 e)
nothing_more h Is r (Err f ∷ ps) e d = absurd (d.1.1.1.0 e)

-- the item and its padding are the span
span_parts : (o : Order) (h : ℕ) (left : List ℕ) → broken_length o h 2 left ≡ None → length (take (len_of o 2 left) left) + length (drop (len_of o 2 left) (take (span_of o 2 left) left)) ≡ span_of o 2 left
span_parts o h left e =
    let w = sound_within o h 2 left e in
    omega (arith, length-take (len_of o 2 left) left, length-drop (len_of o 2 left) (take (span_of o 2 left) left), length-take (span_of o 2 left) left, span_at_least o 2 left w.high, w.high, span_within o 2 left)

pub walk_is : {P : Type 0} (h : ℕ) (Is : P → Region → Type 0) (r : Region) (ps : List (Result P Fault)) → 2 ≤ h → AreBytes r.left → Drains (Gives h Is) r ps → IsWalk h Is r.order r.place r.left ps
walk_is h Is r [] four fits d = ap (λ (x : Region). x.left) d.1.1 ∙ d.1.2.0
walk_is h Is r (Ok p ∷ ps) four fits d =
    let step = d.1.1.1 in
    let rest = walk_is h Is d.1.1.0 ps four (subst (λ (x : Region). AreBytes x.left) (sym step.3) (bytes_drop (span_of r.order 2 r.left) r.left fits)) (d.0, (d.1.0, d.1.1.2, d.1.2)) in
    let place : (after r).place ≡ r.place + length (take (len_of r.order 2 r.left) r.left) + length (drop (len_of r.order 2 r.left) (take (span_of r.order 2 r.left) r.left)) = omega (arith, span_parts r.order h r.left step.1.0) in (
      take (len_of r.order 2 r.left) r.left,
      drop (len_of r.order 2 r.left) (take (span_of r.order 2 r.left) r.left),
      drop (span_of r.order 2 r.left) r.left,
      piece_at r.order h 2 r.left four fits step.1.0,
      step.2,
      subst (λ (x : ℕ). IsWalk h Is r.order x (drop (span_of r.order 2 r.left) r.left) ps) place (subst (λ (x : Region). IsWalk h Is x.order x.place x.left ps) step.3 rest),
    )
walk_is h Is r (Err f ∷ ps) four fits d =
    let step = d.1.1.1 in
    (step.0, step.2, step.1, nothing_more h Is d.1.1.0 ps (ap (λ (x : Region). x.left) step.3) (d.0, (d.1.0, d.1.1.2, d.1.2)))

-- ---- what was handed out so far

lies_here : (o : Order) (h : ℕ) (bytes left : List ℕ) (place : ℕ) → broken_length o h 2 left ≡ None → left ≡ drop place bytes → place ≤ length bytes → LiesIn bytes h place (span_of o 2 left) (payload_of o h 2 left)
lies_here o h bytes left place e at le =
    let w = sound_within o h 2 left e in
    let size = payload_length o h 2 left w in
    let len : length left + place ≡ length bytes = omega (arith, ap (length {A = ℕ}) at, length-drop place bytes) in
    record {
      within = omega (arith, span_within o 2 left, len);
      holds = omega (arith, size, span_at_least o 2 left w.high);
      part = payload_take o h left (length (payload_of o h 2 left)) w.low (omega arith) ∙ ap (take (length (payload_of o h 2 left))) (ap (drop h) at ∙ drop-drop h place bytes);
    } where
      payload_take : (o : Order) (h : ℕ) (left : List ℕ) (n : ℕ) → h ≤ len_of o 2 left → n + h ≡ len_of o 2 left → payload_of o h 2 left ≡ take n (drop h left)
      payload_take o h left n low e = let k : len_of o 2 left ≡ h + n = omega arith in ap (λ (m : ℕ). drop h (take m left)) k ∙ drop-take h n left

-- a walk stands at what is left of the bytes, or at its end
abbrev pub Stands : List ℕ → Region → Type 0
Stands bytes r = (r.place ≤ length bytes) × ((r.left ≡ []) ⊎ (r.left ≡ drop r.place bytes))

-- what a part says of its place in the region
pub record Placed {P : Type 0} (h : ℕ) (Is : P → Region → Type 0) (place span : P → ℕ) (payload : P → List ℕ) : Type 0 where
  pub place_is : (p : P) (r : Region) → Is p r → place p ≡ r.place
  pub span_is : (p : P) (r : Region) → Is p r → span p ≡ span_of r.order 2 r.left
  pub payload_is : (p : P) (r : Region) → Is p r → payload p ≡ payload_of r.order h 2 r.left

module _ {P : Type 0} {h : ℕ} {Is : P → Region → Type 0} {place span : P → ℕ} {payload : P → List ℕ} (placed : Placed h Is place span payload) where
  -- the place is the sum of the spans
  pub seen_is : (r s : Region) (ps : List (Result P Fault)) → Yields (Gives h Is) r ps s → s.place ≡ r.place + spans_of span ps
  seen_is r s [] y = omega (arith, ap (λ (x : Region). x.place) y)
  seen_is r s (Ok p ∷ ps) y = omega (arith, seen_is y.0 s ps y.2, ap (λ (x : Region). x.place) y.1.3, placed.span_is p r y.1.2)
  seen_is r s (Err f ∷ ps) y = omega (arith, seen_is y.0 s ps y.2, ap (λ (x : Region). x.place) y.1.3)

  -- the parts lie in the bytes
  pub each_lies : (bytes : List ℕ) (r s : Region) (ps : List (Result P Fault)) → Stands bytes r → Yields (Gives h Is) r ps s → EachLies (λ p. LiesIn bytes h (place p) (span p) (payload p)) ps
  each_lies bytes r s [] at y = tt
  each_lies bytes r s (Ok p ∷ ps) at y =
      let left : r.left ≡ drop r.place bytes = elim at.1 [ inl none ↦ absurd (y.1.0 none) | inr e ↦ e ] in
      let e = y.1.1.0 in
      let n = span_of r.order 2 r.left in
      let lies = lies_here r.order h bytes r.left r.place e left at.0 in
      let next : Stands bytes (after r) = (lies.within, inr (ap (drop n) left ∙ drop-drop n r.place bytes)) in (
        lies_same (placed.place_is p r y.1.2) (placed.span_is p r y.1.2) (placed.payload_is p r y.1.2) lies,
        each_lies bytes y.0 s ps (subst (Stands bytes) (sym y.1.3) next) y.2,
      ) where
        lies_same : {a b c d : ℕ} {xs ys : List ℕ} → a ≡ b → c ≡ d → xs ≡ ys → LiesIn bytes h b d ys → LiesIn bytes h a c xs
        lies_same f g k l = rw (f, g, k) l
  each_lies bytes r s (Err f ∷ ps) at y = each_lies bytes y.0 s ps (subst (Stands bytes) (sym y.1.3) (at.0, inl refl)) y.2

pub part_placed : Placed 4 IsPart (λ (p : Part). p.place) (λ p. p.span) (λ p. p.payload.now)
part_placed = record { place_is = λ p r i. i.place; span_is = λ p r i. i.span; payload_is = λ p r i. i.payload }

pub hop_placed : Placed 8 IsHopPart (λ (p : HopPart). p.place) (λ p. p.span) (λ p. p.rest.now)
hop_placed = record { place_is = λ p r i. i.place; span_is = λ p r i. i.span; payload_is = λ p r i. i.rest }

-- a walk that begins with these bytes
pub walks_over : {P : Type 0} {h : ℕ} {Is : P → Region → Type 0} {place span : P → ℕ} {payload : P → List ℕ} → Placed h Is place span payload → 2 ≤ h → (o : Order) (bytes : List ℕ) → AreBytes bytes
    → IsWalkOver h Is place span payload o bytes (record { order = o; place = 0; left = bytes })
walks_over {h = h} {Is = Is} placed two o bytes fits =
    let r : Region = record { order = o; place = 0; left = bytes } in
    record {
      start = refl;
      walk = λ parts d. walk_is h Is r parts two fits d;
      inside = λ parts rest y. each_lies placed bytes r rest parts (omega arith, inr refl) y;
      seen = λ parts rest y. omega (arith, seen_is placed r rest parts y);
    }
