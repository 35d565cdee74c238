-- A text in colours is the plain one with escapes put in.
use Rattle.std.proofs.Common.{◌≡◌, ℕ, ◌+◌, ◌-◌, List, [], ◌∷◌, ◌++◌, take, drop, length, map, refl, sym, ap, subst, ◌∙◌, append_assoc, append-nil, arith, codes, length-drop, inl, inr}
use Rattle.rtnl.proofs.Common.{after_first, join_with_byte, position_or_len, prefix_len, starts_with, nat_eq, cases_Bool, cases_lt, drop-drop, drop_all, take-append-drop, join_with_byte-slice_split, Order, Bounds, Verdict, lines_of, Answer, Shows, datagram_text}
use Rattle.rtnl.specs.ByteRows.{painted as in_colour, red, unpaint}
use Rattle.rtnl.specs.Painted.{Colours, nothing, byte, put_in, IsEscape, ShowsColoured, bold, coloured_text, cyan, first_in, is_space, painted, painted_line, painted_words, third, third_in}
use Rattle.rtnl.specs.Runs.{texts_from}

plain : (text : List ℕ) → Colours text text
plain [] = nothing
plain (b ∷ text) = byte b text text (plain text)

-- one text and then another
both : (c p d q : List ℕ) → Colours c p → Colours d q → Colours (c ++ d) (p ++ q)
both c p d q nothing second = second
both c p d q (byte b c₁ p₁ first) second = byte b (c₁ ++ d) (p₁ ++ q) (both c₁ p₁ d q first second)
both c p d q (put_in piece c₁ p₁ is first) second =
    subst (λ (t : List ℕ). Colours t (p₁ ++ q)) (sym (append_assoc piece c₁ d)) (put_in piece (c₁ ++ d) (p₁ ++ q) is (both c₁ p₁ d q first second))

-- what begins a colour is an escape, and so is what ends it
abbrev IsColour : List ℕ → Type 0
IsColour colour = IsEscape colour × IsEscape (unpaint colour)

red_is : IsColour red
red_is = (inr (inr (inl refl)), inr (inr (inr refl)))

bold_is : IsColour bold
bold_is = (inl refl, inr (inr (inr refl)))

cyan_is : IsColour cyan
cyan_is = (inr (inl refl), inr (inr (inr refl)))

-- a text in a colour
coloured : (colour text : List ℕ) → IsColour colour → Colours (in_colour colour text) text
unfolding in_colour
coloured colour text is =
    put_in colour (text ++ unpaint colour) text is.0
    (subst (Colours (text ++ unpaint colour)) (append-nil text) (both text text (unpaint colour) [] (plain text) (ending (unpaint colour) is.1))) where
      ending : (piece : List ℕ) → IsEscape piece → Colours piece []
      ending piece e = subst (λ (t : List ℕ). Colours t []) (append-nil piece) (put_in piece [] [] e nothing)

-- words of which the first is in a colour
first_is : (colour words : List ℕ) → IsColour colour → Colours (first_in colour words) words
unfolding first_in
first_is colour words is =
    let n = position_or_len is_space words in
    subst (Colours (in_colour colour (take n words) ++ drop n words)) (take-append-drop n words)
    (both (in_colour colour (take n words)) (take n words) (drop n words) (drop n words) (coloured colour (take n words) is) (plain (drop n words)))

-- what is left of a list stands behind as many elements as are gone
suffix : (k : ℕ) (xs : List ℕ) → drop (length xs - length (drop k xs)) xs ≡ drop k xs
suffix k xs = elim (cases_lt (length xs) k) [
  | inl short ↦
      let none : drop k xs ≡ [] = drop_all k xs (omega arith) in
      rw none (drop_all (length xs - 0) xs (omega arith))
  | inr long ↦
      let n : length xs - length (drop k xs) ≡ k = omega (arith, length-drop k xs) in
      ap (λ i. drop i xs) n
]

third_behind : (words : List ℕ) → drop (length words - length (third words)) words ≡ third words
third_behind words =
    let i = position_or_len is_space words + 1 in
    let j = position_or_len is_space (after_first is_space words) + 1 in
    let whole : third words ≡ drop (i + j) words = drop-drop j i words in
    ap (λ t. drop (length words - length t) words) whole ∙ suffix (i + j) words ∙ sym whole

-- words of which the third is in a colour
third_is : (colour words : List ℕ) → IsColour colour → Colours (third_in colour words) words
unfolding third_in
third_is colour words is =
    let n = length words - length (third words) in
    let whole : take n words ++ third words ≡ words = ap (λ t. take n words ++ t) (sym (third_behind words)) ∙ take-append-drop n words in
    subst (Colours (take n words ++ first_in colour (third words))) whole
    (both (take n words) (take n words) (first_in colour (third words)) (third words) (plain (take n words)) (first_is colour (third words) is))

-- the words of a line
words_are : (words : List ℕ) → Colours (painted_words words) words
unfolding painted_words
words_are words = elim (cases_Bool (starts_with nat_eq words (codes "message "))) [
  | inl is_so ↦ rw is_so (third_is bold words bold_is)
  | inr other ↦ rw other (elim (cases_Bool (starts_with nat_eq words (codes "attr "))) [
    | inl is_so ↦ rw is_so (third_is cyan words cyan_is)
    | inr other ↦ rw other (plain words)
  ])
]

-- a line
line_is : (line : List ℕ) → Colours (painted_line line) line
unfolding painted_line
line_is line = elim (cases_Bool (starts_with nat_eq line (codes "refused "))) [
  | inl is_so ↦ rw is_so (coloured red line red_is)
  | inr other ↦
      let n = prefix_len is_space line in
      rw other (subst (Colours (take n line ++ painted_words (drop n line))) (take-append-drop n line)
      (both (take n line) (take n line) (painted_words (drop n line)) (drop n line) (plain (take n line)) (words_are (drop n line))))
]

-- lines, with a newline between each two
lines_are : (lines : List (List ℕ)) → Colours (join_with_byte 10 (map painted_line lines)) (join_with_byte 10 lines)
lines_are [] = nothing
lines_are (line ∷ []) = line_is line
lines_are (line ∷ next ∷ lines) =
    let more = join_with_byte 10 (map painted_line (next ∷ lines)) in
    let rest = join_with_byte 10 (next ∷ lines) in
    both (painted_line line) line (10 ∷ more) (10 ∷ rest) (line_is line) (byte 10 more rest (lines_are (next ∷ lines)))

-- a text
pub painted_is : (text : List ℕ) → Colours (painted text) text
unfolding painted
painted_is text = subst (Colours (join_with_byte 10 (map painted_line (lines_of text)))) (join_with_byte-slice_split 10 text) (lines_are (lines_of text))

-- the texts of datagrams
texts_are : (o : Order) (n : ℕ) (ds : List (List ℕ)) (found : List Answer) → Colours (texts_from (coloured_text o) n ds found) (texts_from (datagram_text o) n ds found)
unfolding texts_from
texts_are o n [] found = nothing
texts_are o n (d ∷ ds) [] = nothing
texts_are o n (d ∷ ds) (a ∷ found) =
    both (coloured_text o n d a) (datagram_text o n d a) (texts_from (coloured_text o) (n + 1) ds found) (texts_from (datagram_text o) (n + 1) ds found)
    (painted_is (datagram_text o n d a)) (texts_are o (n + 1) ds found)

-- what is shown of them in colours
pub shown_is : (b : Bounds) (ds : List (List ℕ)) (text : List ℕ) (v : Verdict) → ShowsColoured b ds text v → (p : List ℕ) × Colours text p × Shows b ds p v
shown_is b ds text v h =
    let p = texts_from (datagram_text b.shape.order) 1 ds h.0 in
    (p, subst (λ (t : List ℕ). Colours t p) (sym h.2) (texts_are b.shape.order 1 ds h.0), (h.0, h.1, refl, h.3))
