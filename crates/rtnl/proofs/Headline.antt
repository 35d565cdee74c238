-- A run over a recording keeps the headline of a session's calls, since what its lines decode to is bytes.
use Rattle.rtnl.proofs.Common.{◌≡◌, ℕ, ◌+◌, ◌==◌, Bool, true, false, cond, List, [], ◌∷◌, ◌++◌, length, Option, Some, None, Result, Ok, Err, refl, subst, AllByRecursion, decode_of, FromHexError, decode_of-ok, Answered, HeadlineOfTables, calls_of, datagrams_of, feeds_after}
use Rattle.nl_attr.specs.Numbers.{AreBytes}
use Rattle.nl_dump.specs.Whole.{Call}
use Rattle.nl_dump.specs.Headline.{FeedBytes}
use Rattle.nl_dump.proofs.Headlines.{headline}
use Rattle.rtnl.specs.Lines.{compact, datagrams_from, decoded, digits_at, is_comment, line_at, lines_of, with_first, ◌>>=◌}

-- ---- the datagrams of lines are bytes

-- the datagram of a line, if it has one, is bytes
abbrev IsOfBytes : Result (Option (List ℕ)) ℕ → Type 0
IsOfBytes (Ok None) = Unit {0}
IsOfBytes (Ok (Some bytes)) = AreBytes bytes
IsOfBytes (Err number) = Unit {0}

-- the datagrams of lines, if none of them is bad, are bytes
abbrev AreOfBytes : Result (List (List ℕ)) ℕ → Type 0
AreOfBytes (Ok ds) = AllByRecursion AreBytes ds
AreOfBytes (Err number) = Unit {0}

digits_bytes : (number : ℕ) (digits : List ℕ) → IsOfBytes (digits_at number digits)
digits_bytes number digits = by (length digits == 0) (read (decode_of digits) refl)
  where
    read : (r : Result (List ℕ) FromHexError) → decode_of digits ≡ r → IsOfBytes (decoded number r)
    read (Ok bytes) h = (decode_of-ok digits bytes h).3
    read (Err x) h = tt

    by : (b : Bool) → IsOfBytes (decoded number (decode_of digits)) → IsOfBytes (cond b (Ok None) (decoded number (decode_of digits)))
    by true fit = tt
    by false fit = fit

line_bytes : (number : ℕ) (line : List ℕ) → IsOfBytes (line_at number line)
line_bytes number line = by (is_comment line)
  where
    by : (b : Bool) → IsOfBytes (cond b (Ok None) (digits_at number (compact line)))
    by true = tt
    by false = digits_bytes number (compact line)

with_line : (x : Result (Option (List ℕ)) ℕ) (y : Result (List (List ℕ)) ℕ) → IsOfBytes x → AreOfBytes y → AreOfBytes (x >>= λ found. y >>= λ rest. Ok (with_first found rest))
with_line (Err n) y p q = tt
with_line (Ok found) (Err n) p q = tt
with_line (Ok None) (Ok rest) p q = q
with_line (Ok (Some bytes)) (Ok rest) p q = (p, q)

datagrams_bytes : (number : ℕ) (lines : List (List ℕ)) → AreOfBytes (datagrams_from number lines)
unfolding datagrams_from
datagrams_bytes number [] = tt
datagrams_bytes number (line ∷ lines) = with_line (line_at number line) (datagrams_from (number + 1) lines) (line_bytes number line) (datagrams_bytes (number + 1) lines)

-- ---- and so is what a run feeds

front_bytes : (xs ys : List (List ℕ)) → AllByRecursion AreBytes (xs ++ ys) → AllByRecursion AreBytes xs
front_bytes [] ys a = tt
front_bytes (x ∷ xs) ys a = (a.0, front_bytes xs ys a.1)

fed_bytes : (before : List Call) (fed : List Answered) → FeedBytes before → AllByRecursion AreBytes (datagrams_of fed) → FeedBytes (feeds_after before fed)
fed_bytes before [] b a = b
fed_bytes before (f ∷ fed) b a = (last_bytes (datagrams_of fed) f.0 a, fed_bytes before fed b (front_bytes (datagrams_of fed) (f.0 ∷ []) a))
  where
    last_bytes : (xs : List (List ℕ)) (x : List ℕ) → AllByRecursion AreBytes (xs ++ x ∷ []) → AreBytes x
    last_bytes [] x a = a.0
    last_bytes (y ∷ ys) x a = last_bytes ys x a.1

pub headline_of_tables : HeadlineOfTables
headline_of_tables t b d input ds text verdict limits read tables =
    let all = subst (AllByRecursion AreBytes) tables.run.order (subst AreOfBytes read (datagrams_bytes 1 (lines_of input))) in
    let fed = front_bytes (datagrams_of tables.fed) tables.unfed all in
    headline b (calls_of d tables.request tables.fed) tables.session limits (fed_bytes (calls_of d tables.request []) tables.fed tt fed) tables.run.calls
