-- The lines of a recording, read one after another, and their datagrams, put one behind the other.
use Rattle.std.proofs.Common.{◌≡◌, true, false, ℕ, ◌+◌, ◌≤◌, List, [], ◌∷◌, ◌++◌, drop, length, Option, Some, None, Result, Ok, Err, refl, ap, ◌∙◌, arith, length-append, rules, ◌==◌, if◌then◌else◌, Bool, not, filter, ◌<◌, unwrap_or, get_or, sym, subst, append_assoc, append-nil}
use Rattle.rtnl.proofs.Common.{sum_by, list_any, sum_by-drop_more, count_by-le-length, length-filter, at_drop_more, at_drop_all, decode_of, FromHexError, decode_of-ok, RunError, BadLine, ReadFault, WriteFault, Memory}
use Rattle.std.specs.Result.{result_unwrap_or}
use Rattle.rtnl.specs.Lines.{Adds, Rise, pieces, datagrams, datagrams_from, line_at, lines_of, Fails, compact, decoded, digits_at, is_blank, is_comment, with_first, ◌>>=◌}
use Rattle.rtnl.proofs.Cuts.{total-lines_of}
use Rattle.rtnl.proofs.PieceEnds.{Rise-push, pieces_push}

-- a list without what a filter takes out stays whole
pub filter_none : (test : ℕ → Bool) (xs : List ℕ) → list_any test xs ≡ false → filter (λ x. not (test x)) xs ≡ xs
filter_none test [] none = refl
filter_none test (x ∷ xs) none = by_case (test x) refl (λ h. filter_none test xs h) where
  by_case : (b : Bool) → test x ≡ b → (list_any test xs ≡ false → filter (λ y. not (test y)) xs ≡ xs) → filter (λ y. not (test y)) (x ∷ xs) ≡ x ∷ xs
  by_case true is rest = let h : true ≡ false = search (rules, sym is, none) in absurd cc
  by_case false is rest = rw is (ap (λ l. x ∷ l) (rest (rw is at none)))

-- datagrams, and then those that are read
abbrev pub with_front : List (List ℕ) → Result (List (List ℕ)) ℕ → Result (List (List ℕ)) ℕ
with_front front read = read >>= λ rest. Ok (front ++ rest)

-- datagrams, and then that of a line, if it has one
abbrev pub grown : List (List ℕ) → Option (List ℕ) → List (List ℕ)
grown found None = found
grown found (Some datagram) = found ++ datagram ∷ []

-- the n-th line of all stands at that place
abbrev pub IsLine : List (List ℕ) → ℕ → List ℕ → Type 0
IsLine lines n line = (n < length lines) × (line ≡ get_or lines n line)

-- the place of a line, under another name
pub line_at_place : (lines : List (List ℕ)) (n place : ℕ) (line : List ℕ) → n ≡ place → IsLine lines place line → IsLine lines n line
line_at_place lines n place line same at = subst (λ k. IsLine lines k line) (sym same) at

front_again : (found : List (List ℕ)) (datagram : Option (List ℕ)) (read : Result (List (List ℕ)) ℕ) →
    with_front found (read >>= λ more. Ok (with_first datagram more)) ≡ with_front (grown found datagram) read
front_again found None (Ok more) = refl
front_again found (Some datagram) (Ok more) = ap Ok (sym (append_assoc found (datagram ∷ []) more))
front_again found None (Err e) = refl
front_again found (Some datagram) (Err e) = refl

one_line : (found lines : List (List ℕ)) (n : ℕ) (line : List ℕ) → IsLine lines n line →
    with_front found (datagrams_from (n + 1) (drop n lines)) ≡ with_front found (line_at (n + 1) line >>= λ d. datagrams_from (n + 1 + 1) (drop (n + 1) lines) >>= λ more. Ok (with_first d more))
unfolding datagrams_from
one_line found lines n line at =
    at_drop_more (λ ls. with_front found (datagrams_from (n + 1) ls)) lines n line at.0
    ∙ ap (λ x. with_front found (line_at (n + 1) x >>= λ d. datagrams_from (n + 1 + 1) (drop (n + 1) lines) >>= λ more. Ok (with_first d more))) (sym at.1)

-- a line that is read goes to the datagrams before it
pub next_line : (found lines : List (List ℕ)) (n : ℕ) (line : List ℕ) (datagram : Option (List ℕ)) (all : Result (List (List ℕ)) ℕ) →
    IsLine lines n line → line_at (n + 1) line ≡ Ok datagram →
    with_front found (datagrams_from (n + 1) (drop n lines)) ≡ all →
    with_front (grown found datagram) (datagrams_from (n + 1 + 1) (drop (n + 1) lines)) ≡ all
next_line found lines n line datagram all at read so_far =
    sym (front_again found datagram (datagrams_from (n + 1 + 1) (drop (n + 1) lines)))
    ∙ sym (ap (λ r. with_front found (r >>= λ d. datagrams_from (n + 1 + 1) (drop (n + 1) lines) >>= λ more. Ok (with_first d more))) read)
    ∙ sym (one_line found lines n line at)
    ∙ so_far

bad_line : (found lines : List (List ℕ)) (n bad : ℕ) (line : List ℕ) (all : Result (List (List ℕ)) ℕ) →
    IsLine lines n line → line_at (n + 1) line ≡ Err bad →
    with_front found (datagrams_from (n + 1) (drop n lines)) ≡ all → all ≡ Err bad
bad_line found lines n bad line all at read so_far =
    sym so_far
    ∙ one_line found lines n line at
    ∙ ap (λ r. with_front found (r >>= λ d. datagrams_from (n + 1 + 1) (drop (n + 1) lines) >>= λ more. Ok (with_first d more))) read

-- an error at a line is that of the whole
pub failed_line : (found lines : List (List ℕ)) (n : ℕ) (line : List ℕ) (all : Result (List (List ℕ)) ℕ) (e : RunError) →
    IsLine lines n line → Fails e (line_at (n + 1) line) →
    with_front found (datagrams_from (n + 1) (drop n lines)) ≡ all → Fails e all
failed_line found lines n line all (BadLine bad) at read so_far = bad_line found lines n bad line all at read so_far
failed_line found lines n line all ReadFault at read so_far = read
failed_line found lines n line all WriteFault at read so_far = read
failed_line found lines n line all Memory at read so_far = tt

-- after the last line
pub no_line : (found lines : List (List ℕ)) (n : ℕ) (all : Result (List (List ℕ)) ℕ) → n ≡ length lines →
    with_front found (datagrams_from (n + 1) (drop n lines)) ≡ all → all ≡ Ok found
unfolding datagrams_from
no_line found lines n all past so_far =
    sym so_far ∙ at_drop_all (λ ls. with_front found (datagrams_from (n + 1) ls)) lines n (omega (arith, past)) ∙ ap Ok (append-nil found)

decoded_ok : (number : ℕ) (read : Result (List ℕ) FromHexError) (datagram : List ℕ) → decoded number read ≡ Ok (Some datagram) → read ≡ Ok datagram
decoded_ok number (Ok bytes) datagram is = ap (λ r. Ok (unwrap_or (result_unwrap_or r None) [])) is
decoded_ok number (Err e) datagram is = cc is

some_digits : (none : Bool) (number : ℕ) (read : Result (List ℕ) FromHexError) (datagram : List ℕ) →
    (if none then Ok None else decoded number read) ≡ Ok (Some datagram) → read ≡ Ok datagram
some_digits true number read datagram is = cc is
some_digits false number read datagram is = decoded_ok number read datagram is

no_comment : (comment : Bool) (number : ℕ) (digits datagram : List ℕ) → (if comment then Ok None else digits_at number digits) ≡ Ok (Some datagram) → decode_of digits ≡ Ok datagram
no_comment true number digits datagram is = cc is
no_comment false number digits datagram is = some_digits (length digits == 0) number (decode_of digits) datagram is

-- the datagram of a line is not longer than the line
pub line_long : (number : ℕ) (line datagram : List ℕ) → line_at number line ≡ Ok (Some datagram) → length datagram ≤ length line
line_long number line datagram is =
    let pairs = decode_of-ok (compact line) datagram (no_comment (is_comment line) number (compact line) datagram is) in
    omega (arith, pairs.2, length-filter (λ byte. not (is_blank byte)) line, count_by-le-length (λ byte. not (is_blank byte)) line)

-- ---- datagrams one behind the other

-- the first n lines are read: the pieces of the bytes and what the rest says are what all say, and with the bytes of the rest they are no more than most
abbrev pub AreRead : List (List ℕ) → Result (List (List ℕ)) ℕ → ℕ → ℕ → List ℕ → List ℕ → Type 0
AreRead lines all most n bytes ends =
    Rise 0 ends (length bytes)
    × (length bytes + sum_by length (drop n lines) ≤ most)
    × (with_front (pieces 0 bytes ends) (datagrams_from (n + 1) (drop n lines)) ≡ all)

-- bytes grow by no more than a line has, so with the lines that are left they stay within the input
room_left : (lines : List (List ℕ)) (n most size added : ℕ) (line : List ℕ) → IsLine lines n line → added ≤ length line →
    size + sum_by length (drop n lines) ≤ most → size + added + sum_by length (drop (n + 1) lines) ≤ most
room_left lines n most size added line at fits room = omega (arith, fits, room, sum_by-drop_more length lines n line at.0, ap length at.1)

module _ (lines : List (List ℕ)) (all : Result (List (List ℕ)) ℕ) (most n : ℕ) (line bytes ends new : List ℕ) (at : IsLine lines n line) where
  -- a line with a datagram
  pub one_more : (datagram : Option (List ℕ)) → line_at (n + 1) line ≡ Ok datagram → Adds datagram true bytes new →
      AreRead lines all most n bytes ends → AreRead lines all most (n + 1) new (ends ++ length new ∷ [])
  one_more None read adds so_far = cc adds.0
  one_more (Some d) read adds so_far =
      let long : length new ≡ length bytes + length d = ap length adds.1 ∙ length-append bytes d in
      let same : pieces 0 new (ends ++ length new ∷ []) ≡ pieces 0 bytes ends ++ d ∷ [] =
      ap (λ b. pieces 0 b (ends ++ length new ∷ [])) adds.1 ∙ pieces_push 0 bytes ends d (length new) so_far.0 (ap length adds.1) in (
        Rise-push 0 ends (length bytes) (length new) so_far.0 (omega (arith, long)),
        rw long (room_left lines n most (length bytes) (length d) line at (line_long (n + 1) line d read) so_far.1),
        rw same (next_line (pieces 0 bytes ends) lines n line (Some d) all at read so_far.2),
      )

  -- a line without one
  pub none_more : (datagram : Option (List ℕ)) → line_at (n + 1) line ≡ Ok datagram → Adds datagram false bytes new →
      AreRead lines all most n bytes ends → AreRead lines all most (n + 1) new ends
  none_more (Some d) read adds so_far = cc adds.0
  none_more None read adds so_far =
      let room = room_left lines n most (length bytes) 0 line at (omega arith) so_far.1 in
      rw adds.1 (so_far.0, omega (arith, room), next_line (pieces 0 bytes ends) lines n line None all at read so_far.2)

whole_front : (read : Result (List (List ℕ)) ℕ) → with_front [] read ≡ read
whole_front (Ok rest) = refl
whole_front (Err number) = refl

-- no line is read
pub none_read : (input bytes ends : List ℕ) → bytes ≡ [] → ends ≡ [] → AreRead (lines_of input) (datagrams input) (length input) 0 bytes ends
none_read input bytes ends no_bytes no_ends = rw (no_bytes, no_ends) (refl, omega (arith, total-lines_of input), whole_front (datagrams input))
