-- Over lines of which none is bad, what is followed are the datagrams that a recording has.
use Rattle.std.proofs.Common.{◌≡◌, ◌==◌, ◌↔◌, ◌+◌, ◌≤◌, ℕ, Bool, true, false, if◌then◌else◌, List, [], ◌∷◌, ◌++◌, length, Option, Some, None, Result, Ok, Err, refl, sym, ap, ◌∙◌, subst, arith}
use Rattle.rtnl.proofs.Common.{nat_le, sum_by, Appends, common_steps, nat_tests, sum_by-cons, decode_of, FromHexError, LONGEST_LINE, HeardLine, Hears, Steps, TellsAsPrinted, alone, all_said, bad_at, bad_from, kept_of, line_says, never, refused_in, refused_one, said_by, said_of, Verdict, Clean, NotClean, Followed}
use Rattle.std.specs.Result.{result_unwrap_or}
use Rattle.rtnl.specs.Lines.{compact, datagrams_from, decoded, digits_at, is_comment, line_at, lines_of, with_first, ◌>>=◌}
use Rattle.rtnl.specs.Runs.{EachIs, texts_from, verdict_from, with_one}
use Rattle.rtnl.proofs.Cuts.{total-lines_of}

-- what a good line says does not depend on its number
line_any : (m n : ℕ) (line : List ℕ) (d : Option (List ℕ)) → line_at n line ≡ Ok d → line_at m line ≡ Ok d
line_any m n line d = by_comment (is_comment line) where
  by_digits : (r : Result (List ℕ) FromHexError) → decoded n r ≡ Ok d → decoded m r ≡ Ok d
  by_digits (Ok bytes) is = is
  by_digits (Err e) is = cc is

  by_number : (none : Bool) → (if none then Ok None else decoded n (decode_of (compact line))) ≡ Ok d → (if none then Ok None else decoded m (decode_of (compact line))) ≡ Ok d
  by_number true is = is
  by_number false is = by_digits (decode_of (compact line)) is

  by_comment : (comment : Bool) → (if comment then Ok None else digits_at n (compact line)) ≡ Ok d → (if comment then Ok None else digits_at m (compact line)) ≡ Ok d
  by_comment true is = is
  by_comment false is = by_number (length (compact line) == 0) is

-- a short line is kept
short_kept : (line : List ℕ) → length line ≤ LONGEST_LINE → kept_of line ≡ Some line
short_kept line short =
    let is : nat_le (length line) LONGEST_LINE ≡ true = grind (arith, common_steps, nat_tests) in
    rw is refl

first_then : (d : Option (List ℕ)) (rest : List (List ℕ)) → said_by (Ok d) ++ rest ≡ with_first d rest
first_then None rest = refl
first_then (Some d) rest = refl

-- lines of which none is bad
abbrev AreGood : List (List ℕ) → List (List ℕ) → Type 0
AreGood lines ds = (all_said (line_at 0) lines ≡ ds) × ((m : ℕ) → bad_from (line_at 0) m lines ≡ [])

good_lines : (n : ℕ) (lines ds : List (List ℕ)) → sum_by length lines ≤ LONGEST_LINE → datagrams_from n lines ≡ Ok ds → AreGood lines ds
unfolding datagrams_from
good_lines n [] ds short is = (ap (λ r. result_unwrap_or r []) is, λ m. refl)
good_lines n (l ∷ ls) ds short is =
    by_case (line_at n l) (datagrams_from (n + 1) ls) refl is (λ more rest. good_lines (n + 1) ls more (omega (arith, short, sum_by-cons length l ls)) rest) refl where
      says : (d : Option (List ℕ)) → line_at n l ≡ Ok d → line_says (line_at 0) l ≡ Ok d
      says d is = ap (said_of (line_at 0)) (short_kept l (omega (arith, short, sum_by-cons length l ls))) ∙ line_any 0 n l d is

      by_case : (r : Result (Option (List ℕ)) ℕ) (others : Result (List (List ℕ)) ℕ) → line_at n l ≡ r
          → (r >>= λ d. others >>= λ more. Ok (with_first d more)) ≡ Ok ds → ((more : List (List ℕ)) → others ≡ Ok more → AreGood ls more) → others ≡ others → AreGood (l ∷ ls) ds
      by_case (Err e) others this is rest same = cc is
      by_case (Ok d) (Err e) this is rest same = cc is
      by_case (Ok d) (Ok more) this is rest same =
          let good = rest more refl in
          let e = says d this in
          (ap (λ r. said_by r ++ all_said (line_at 0) ls) e ∙ ap (λ x. said_by (Ok d) ++ x) good.0 ∙ first_then d more ∙ ap (λ r. result_unwrap_or r []) is, λ m. ap (λ r. bad_at m (kept_of l) r ++ bad_from (line_at 0) (m + 1) ls) e ∙ good.1 (m + 1))

module _ {X : Type 0} (Is : List ℕ → X → Type 0) (text : ℕ → List ℕ → X → List ℕ) (is_accepted : X → Bool) where
  stays : (b : Bool) → with_one NotClean b ≡ NotClean
  stays true = refl
  stays false = refl

  not_clean : (found : List X) → verdict_from is_accepted NotClean found ≡ NotClean
  not_clean [] = refl
  not_clean (x ∷ found) = ap (λ v. verdict_from is_accepted v found) (stays (is_accepted x)) ∙ not_clean found

  -- nothing is refused where the verdict is clean
  clean : (found : List X) → (verdict_from is_accepted Clean found ≡ Clean) ↔ (refused_in is_accepted found ≡ 0)
  clean [] = (λ e. refl, λ e. refl)
  clean (x ∷ found) = by_case (is_accepted x) (clean found) where
    by_case : (b : Bool) → (verdict_from is_accepted Clean found ≡ Clean) ↔ (refused_in is_accepted found ≡ 0)
        → (verdict_from is_accepted (with_one Clean b) found ≡ Clean) ↔ (refused_one b + refused_in is_accepted found ≡ 0)
    by_case true rest = (λ e. let r : refused_in is_accepted found ≡ 0 = rest.0 e in omega arith, λ e. rest.1 (omega arith))
    by_case false rest = (λ e. let f : NotClean ≡ Clean = sym (not_clean found) ∙ e in cc, λ e. absurd (omega arith))

  -- one after another, where nothing is kept, each is found by itself
  each_alone : (ds : List (List ℕ)) (found : List X) (a b : Unit {0}) → Steps (alone Is) never a ds found b → EachIs Is ds found
  each_alone [] [] a b steps = tt
  each_alone [] (x ∷ found) a b steps = absurd steps
  each_alone (d ∷ ds) [] a b steps = absurd steps
  each_alone (d ∷ ds) (x ∷ found) a b steps = (steps.2, each_alone ds found steps.1 b steps.3)

  module _ {B : Type 0} (heard : B → Option (List HeardLine)) (is_over : B → Type 0) where
    pub as_printed : TellsAsPrinted Is text is_accepted heard is_over
    as_printed input ds s g h old new short good told =
        let are = good_lines 1 (lines_of input) ds (omega (arith, short, total-lines_of input)) good in
        let verdict : Verdict = verdict_from is_accepted Clean told.found in
        let found = each_alone ds told.found tt tt (subst (λ l. Steps (alone Is) never tt l told.found tt) are.0 told.each) in (
          texts_from text 1 ds told.found,
          verdict,
          (told.found, found, refl, refl),
          subst (λ l. Appends old new (texts_from text 1 l told.found)) are.0 told.written,
          subst (λ l. Hears heard is_over g l h) (are.1 1) told.bad,
          subst (λ (t : Followed). (verdict ≡ Clean) ↔ (t.refused ≡ 0)) (sym told.counts) (clean told.found),
          ap (λ (t : Followed). t.bad_lines) told.counts ∙ ap (length {A = HeardLine}) (are.1 1),
        )
