-- Texts in colours, line by line and word by word.
use Rattle.rtnl.proofs.Common.{◌≡◌, ℕ, ◌+◌, ◌<◌, ◌≤◌, List, [], ◌∷◌, ◌++◌, get_or, take, drop, length, map, refl, sym, ap, ◌∙◌, append_assoc, arith, join_with_byte, position_or_len, position_or_len_is, length-slice_split, lines_of, is_newline}
use Rattle.memchr.specs.Find.{NoneBefore, Nowhere, Passes, is_byte}
use Rattle.rtnl.specs.Painted.{is_space, painted, painted_line}
use Rattle.rtnl.proofs.Cuts.{fails, last_line, line_found}

-- the first blank ends the first word
pub word_found : (xs : List ℕ) (k : ℕ) → NoneBefore (Passes (is_byte 32) xs) 0 (length xs) k → Passes (is_byte 32) xs k → k ≡ position_or_len is_space xs
word_found xs k none here =
    let within : k ≤ length xs = omega (arith, none.high) in
    sym (position_or_len_is is_space xs k 0 within (λ i below. fails (is_space (get_or xs i 0)) (none.before i (omega arith) below)) (λ below. here))

-- without a blank all is one word
pub word_alone : (xs : List ℕ) → Nowhere (Passes (is_byte 32) xs) 0 (length xs) → length xs ≡ position_or_len is_space xs
word_alone xs none =
    sym (position_or_len_is is_space xs (length xs) 0 (omega arith) (λ i below. fails (is_space (get_or xs i 0)) (none i (omega arith) below)) (λ below. absurd (omega arith)))

-- a line in front of others
ahead : (line : List ℕ) (lines : List (List ℕ)) → 0 < length lines → join_with_byte 10 (map painted_line (line ∷ lines)) ≡ painted_line line ++ (10 ∷ join_with_byte 10 (map painted_line lines))
ahead line [] some = absurd (omega arith)
ahead line (next ∷ lines) some = refl

-- the first line of a text, and those behind it
pub painted_more : (xs : List ℕ) (k : ℕ) → NoneBefore (Passes (is_byte 10) xs) 0 (length xs) k → Passes (is_byte 10) xs k
    → painted xs ≡ painted_line (take k xs) ++ (10 ∷ painted (drop (k + 1) xs))
unfolding painted
painted_more xs k none here =
    let some : 0 < length (lines_of (drop (k + 1) xs)) = omega (arith, length-slice_split is_newline (drop (k + 1) xs)) in
    ap (λ lines. join_with_byte 10 (map painted_line lines)) (line_found xs k none here) ∙ ahead (take k xs) (lines_of (drop (k + 1) xs)) some

-- the last line
pub painted_last : (xs : List ℕ) → Nowhere (Passes (is_byte 10) xs) 0 (length xs) → painted xs ≡ painted_line xs
unfolding painted
painted_last xs none = ap (λ lines. join_with_byte 10 (map painted_line lines)) (last_line xs none)

-- a line was written behind others, and what is left is behind it
pub line_written : (before xs : List ℕ) (k : ℕ) → NoneBefore (Passes (is_byte 10) xs) 0 (length xs) k → Passes (is_byte 10) xs k
    → ((before ++ painted_line (take k xs)) ++ (10 ∷ [])) ++ painted (drop (k + 1) xs) ≡ before ++ painted xs
line_written before xs k none here =
    append_assoc (before ++ painted_line (take k xs)) (10 ∷ []) (painted (drop (k + 1) xs))
    ∙ append_assoc before (painted_line (take k xs)) (10 ∷ painted (drop (k + 1) xs))
    ∙ ap (λ text. before ++ text) (sym (painted_more xs k none here))
