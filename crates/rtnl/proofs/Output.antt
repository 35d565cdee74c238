-- Datagrams that are said while their recording is read.
use Rattle.std.proofs.Common.{◌≡◌, ◌+◌, ◌≤◌, ℕ, Bool, true, false, List, [], ◌∷◌, ◌++◌, length, Option, Some, None, Result, Ok, Err, refl, sym, ap, ◌∙◌, subst, append_assoc, append-nil, arith, length-append, add-zero}
use Rattle.std.specs.Option.{is_some}
use Rattle.rtnl.specs.Lines.{Adds, datagrams, datagrams_from, line_at, lines_of, with_first, ◌>>=◌}
use Rattle.rtnl.proofs.Common.{joined, IsSaid, SaysInput, Verdict, Clean}
use Rattle.rtnl.specs.Runs.{EachIs, Prints, texts_from, verdict_from, with_one}
use Rattle.rtnl.specs.declared.runs.output.Output.{Output}
use Rattle.rtnl.proofs.Cuts.{length-lines_of}
use Rattle.rtnl.proofs.Following.{lines_more, one_ended}
use Rattle.rtnl.proofs.Reading.{grown}

-- ---- one line more

first_alone : (read : Result (Option (List ℕ)) ℕ) → (read >>= λ d. Ok (with_first d [])) ≡ (read >>= λ d. Ok (grown [] d))
first_alone (Ok None) = refl
first_alone (Ok (Some d)) = refl
first_alone (Err m) = refl

first_grown : (first more : Option (List ℕ)) (ds : List (List ℕ)) → with_first first (grown ds more) ≡ grown (with_first first ds) more
first_grown None more ds = refl
first_grown (Some d) None ds = refl
first_grown (Some d) (Some e) ds = refl

first_behind : (read : Result (Option (List ℕ)) ℕ) (rest : Result (List (List ℕ)) ℕ) (last : Result (Option (List ℕ)) ℕ) →
    (read >>= λ d. (rest >>= λ ds. last >>= λ e. Ok (grown ds e)) >>= λ more. Ok (with_first d more)) ≡ ((read >>= λ d. rest >>= λ more. Ok (with_first d more)) >>= λ ds. last >>= λ e. Ok (grown ds e))
first_behind (Err m) rest last = refl
first_behind (Ok d) (Err m) last = refl
first_behind (Ok d) (Ok ds) (Err m) = refl
first_behind (Ok d) (Ok ds) (Ok e) = ap Ok (first_grown d e ds)

-- the datagrams of lines, and then that of one more
pub datagrams_push : (n : ℕ) (lines : List (List ℕ)) (line : List ℕ) → datagrams_from n (lines ++ line ∷ []) ≡ (datagrams_from n lines >>= λ ds. line_at (n + length lines) line >>= λ d. Ok (grown ds d))
unfolding datagrams_from
datagrams_push n [] line = first_alone (line_at n line) ∙ ap (λ k. line_at k line >>= λ d. Ok (grown [] d)) (sym (add-zero n))
datagrams_push n (l ∷ ls) line =
    let same : n + 1 + length ls ≡ n + length (l ∷ ls) = omega arith in
    ap (λ r. line_at n l >>= λ d. r >>= λ more. Ok (with_first d more)) (datagrams_push (n + 1) ls line ∙ ap (λ k. datagrams_from (n + 1) ls >>= λ ds. line_at k line >>= λ d. Ok (grown ds d)) same)
    ∙ first_behind (line_at n l) (datagrams_from (n + 1) ls) (line_at (n + length (l ∷ ls)) line)

module _ {X : Type 0} (Is : List ℕ → X → Type 0) (text : ℕ → List ℕ → X → List ℕ) (is_accepted : X → Bool) where
  each_push : (ds : List (List ℕ)) (found : List X) (d : List ℕ) (x : X) → EachIs Is ds found → Is d x → EachIs Is (ds ++ d ∷ []) (found ++ x ∷ [])
  each_push [] [] d x each is = (is, tt)
  each_push [] (y ∷ found) d x each is = absurd each
  each_push (e ∷ ds) [] d x each is = absurd each
  each_push (e ∷ ds) (y ∷ found) d x each is = (each.0, each_push ds found d x each.1 is)

  text_push : (n : ℕ) (ds : List (List ℕ)) (found : List X) (d : List ℕ) (x : X) → EachIs Is ds found → texts_from text n (ds ++ d ∷ []) (found ++ x ∷ []) ≡ texts_from text n ds found ++ text (n + length ds) d x
  unfolding texts_from
  text_push n [] [] d x each = append-nil (text n d x) ∙ ap (λ k. text k d x) (sym (add-zero n))
  text_push n [] (y ∷ found) d x each = absurd each
  text_push n (e ∷ ds) [] d x each = absurd each
  text_push n (e ∷ ds) (y ∷ found) d x each =
      let same : n + 1 + length ds ≡ n + length (e ∷ ds) = omega arith in
      ap (λ t. text n e y ++ t) (text_push (n + 1) ds found d x each.1 ∙ ap (λ k. texts_from text (n + 1) ds found ++ text k d x) same)
      ∙ sym (append_assoc (text n e y) (texts_from text (n + 1) ds found) (text (n + length (e ∷ ds)) d x))

  verdict_push : (v : Verdict) (found : List X) (x : X) → verdict_from is_accepted v (found ++ x ∷ []) ≡ with_one (verdict_from is_accepted v found) (is_accepted x)
  verdict_push v [] x = refl
  verdict_push v (y ∷ found) x = verdict_push (with_one v (is_accepted y)) found x

  -- nothing is printed of none
  pub prints_none : Prints Is text is_accepted [] [] Clean
  unfolding texts_from
  prints_none = ([], tt, refl, refl)

  -- a datagram more
  pub prints_more : (ds : List (List ℕ)) (d printed next : List ℕ) (v w : Verdict) (x : X) → Prints Is text is_accepted ds printed v → Is d x → next ≡ printed ++ text (length ds + 1) d x → w ≡ with_one v (is_accepted x)
      → Prints Is text is_accepted (ds ++ d ∷ []) next w
  prints_more ds d printed next v w x h is more then =
      let same : length ds + 1 ≡ 1 + length ds = omega arith in (
        h.0 ++ x ∷ [],
        each_push ds h.0 d x h.1 is,
        more ∙ (λ i. h.2 i ++ text (same i) d x) ∙ sym (text_push 1 ds h.0 d x h.1),
        then ∙ ap (λ u. with_one u (is_accepted x)) h.3 ∙ sym (verdict_push Clean h.0 x),
      )

  -- ---- a line more, by what is read of it

  module _ (done : List (List ℕ)) (line : List ℕ) (s t : Output) where
    pushed : IsSaid Is text is_accepted (datagrams_from 1 done >>= λ ds. line_at (1 + length done) line >>= λ d. Ok (grown ds d)) t → IsSaid Is text is_accepted (datagrams_from 1 (done ++ line ∷ [])) t
    pushed h = subst (λ r. IsSaid Is text is_accepted r t) (sym (datagrams_push 1 done line)) h

    -- behind a bad line nothing is said
    pub behind_bad : is_some s.bad_line ≡ true → t.bad_line ≡ s.bad_line → IsSaid Is text is_accepted (datagrams_from 1 done) s → IsSaid Is text is_accepted (datagrams_from 1 (done ++ line ∷ [])) t
    behind_bad bad same h = pushed (by_case (datagrams_from 1 done) h) where
      by_case : (r : Result (List (List ℕ)) ℕ) → IsSaid Is text is_accepted r s → IsSaid Is text is_accepted (r >>= λ ds. line_at (1 + length done) line >>= λ d. Ok (grown ds d)) t
      by_case (Ok ds) said = let e : false ≡ true = sym (ap is_some said.0) ∙ bad in cc
      by_case (Err k) said = same ∙ said

    -- the line is bad
    pub is_bad : (m : ℕ) → is_some s.bad_line ≡ false → line_at (1 + length done) line ≡ Err m → t.bad_line ≡ Some m → IsSaid Is text is_accepted (datagrams_from 1 done) s → IsSaid Is text is_accepted (datagrams_from 1 (done ++ line ∷ [])) t
    is_bad m good read bad h = pushed (by_case (datagrams_from 1 done) h) where
      by_case : (r : Result (List (List ℕ)) ℕ) → IsSaid Is text is_accepted r s → IsSaid Is text is_accepted (r >>= λ ds. line_at (1 + length done) line >>= λ d. Ok (grown ds d)) t
      by_case (Ok ds) said = subst (λ q. IsSaid Is text is_accepted (q >>= λ d. Ok (grown ds d)) t) (sym read) bad
      by_case (Err k) said = let e : true ≡ false = sym (ap is_some said) ∙ good in cc

    -- the line has no datagram
    pub has_none : (d : Option (List ℕ)) (bytes : List ℕ) → is_some s.bad_line ≡ false → line_at (1 + length done) line ≡ Ok d → Adds d false [] bytes
        → t.bad_line ≡ s.bad_line → t.datagrams ≡ s.datagrams → joined t.parts.items ++ t.part.items ≡ joined s.parts.items ++ s.part.items → t.verdict ≡ s.verdict
        → IsSaid Is text is_accepted (datagrams_from 1 done) s → IsSaid Is text is_accepted (datagrams_from 1 (done ++ line ∷ [])) t
    has_none (Some d) bytes good read adds bad count printed verdict h = cc adds.0
    has_none None bytes good read adds bad count printed verdict h = pushed (by_case (datagrams_from 1 done) h) where
      by_case : (r : Result (List (List ℕ)) ℕ) → IsSaid Is text is_accepted r s → IsSaid Is text is_accepted (r >>= λ ds. line_at (1 + length done) line >>= λ d. Ok (grown ds d)) t
      by_case (Ok ds) said = subst (λ q. IsSaid Is text is_accepted (q >>= λ d. Ok (grown ds d)) t) (sym read) (bad ∙ said.0, count ∙ said.1, (said.2.0, said.2.1, printed ∙ said.2.2, verdict ∙ said.2.3))
      by_case (Err k) said = let e : true ≡ false = sym (ap is_some said) ∙ good in cc

    -- the line has a datagram
    pub has_one : (d : Option (List ℕ)) (bytes : List ℕ) (x : X) → is_some s.bad_line ≡ false → line_at (1 + length done) line ≡ Ok d → Adds d true [] bytes
        → t.bad_line ≡ s.bad_line → t.datagrams ≡ s.datagrams + 1 → Is bytes x → joined t.parts.items ++ t.part.items ≡ (joined s.parts.items ++ s.part.items) ++ text (s.datagrams + 1) bytes x
        → t.verdict ≡ with_one s.verdict (is_accepted x)
        → IsSaid Is text is_accepted (datagrams_from 1 done) s → IsSaid Is text is_accepted (datagrams_from 1 (done ++ line ∷ [])) t
    has_one None bytes x good read adds bad count is printed verdict h = cc adds.0
    has_one (Some d) bytes x good read adds bad count is printed verdict h = pushed (by_case (datagrams_from 1 done) h) where
      by_case : (r : Result (List (List ℕ)) ℕ) → IsSaid Is text is_accepted r s → IsSaid Is text is_accepted (r >>= λ ds. line_at (1 + length done) line >>= λ d. Ok (grown ds d)) t
      by_case (Ok ds) said =
          let one : bytes ≡ d = adds.1 in
          let more = prints_more ds d (joined s.parts.items ++ s.part.items) (joined t.parts.items ++ t.part.items) s.verdict t.verdict x said.2 (subst (λ b. Is b x) one is)
          (printed ∙ (λ i. (joined s.parts.items ++ s.part.items) ++ text (said.1 i + 1) (one i) x)) verdict in
          let size : length (ds ++ d ∷ []) ≡ length ds + 1 = length-append ds (d ∷ []) in
          subst (λ q. IsSaid Is text is_accepted (q >>= λ d. Ok (grown ds d)) t) (sym read) (bad ∙ said.0, count ∙ ap (λ k. k + 1) said.1 ∙ sym size, more)
      by_case (Err k) said = let e : true ≡ false = sym (ap is_some said) ∙ good in cc

  -- ---- an input

  -- a line has ended
  pub line_said : (input part : List ℕ) (s t : Output) → lines_of part ≡ part ∷ [] → (h : SaysInput Is text is_accepted input s) → t.lines ≡ s.lines + 1 → t.unfinished.items ≡ []
      → IsSaid Is text is_accepted (datagrams_from 1 (h.0 ++ (s.unfinished.items ++ part) ∷ [])) t → SaysInput Is text is_accepted (input ++ (part ++ 10 ∷ [])) t
  line_said input part s t one h count none said = (
    h.0 ++ (s.unfinished.items ++ part) ∷ [],
    lines_more input (part ++ 10 ∷ []) h.0 s.unfinished.items part ([] ∷ []) h.1 (one_ended part one) ∙ sym (append_assoc h.0 ((s.unfinished.items ++ part) ∷ []) ([] ∷ []))
        ∙ ap (λ r. (h.0 ++ (s.unfinished.items ++ part) ∷ []) ++ r ∷ []) (sym none),
    count ∙ ap (λ k. k + 1) h.2 ∙ sym (length-append h.0 ((s.unfinished.items ++ part) ∷ [])),
    said,
  )

  same_said : (r : Result (List (List ℕ)) ℕ) (s t : Output) → t.bad_line ≡ s.bad_line → t.datagrams ≡ s.datagrams → joined t.parts.items ++ t.part.items ≡ joined s.parts.items ++ s.part.items → t.verdict ≡ s.verdict
      → IsSaid Is text is_accepted r s → IsSaid Is text is_accepted r t
  same_said (Ok ds) s t bad count printed verdict said = (bad ∙ said.0, count ∙ said.1, (said.2.0, said.2.1, printed ∙ said.2.2, verdict ∙ said.2.3))
  same_said (Err k) s t bad count printed verdict said = bad ∙ said

  -- a part of a line is kept
  pub part_kept : (input part whole : List ℕ) (s t : Output) → input ++ part ≡ whole → lines_of part ≡ part ∷ [] → t.unfinished.items ≡ s.unfinished.items ++ part → t.lines ≡ s.lines
      → t.bad_line ≡ s.bad_line → t.datagrams ≡ s.datagrams → joined t.parts.items ++ t.part.items ≡ joined s.parts.items ++ s.part.items → t.verdict ≡ s.verdict
      → SaysInput Is text is_accepted input s → SaysInput Is text is_accepted whole t
  part_kept input part whole s t all one kept lines bad count printed verdict h = (
    h.0,
    ap lines_of (sym all) ∙ lines_more input part h.0 s.unfinished.items part [] h.1 one ∙ ap (λ r. h.0 ++ r ∷ []) (sym kept),
    lines ∙ h.2,
    same_said (datagrams_from 1 h.0) s t bad count printed verdict h.3,
  )

  -- nothing is read
  pub none_said : (s : Output) → s.bad_line ≡ None → s.verdict ≡ Clean → s.parts.items ≡ [] → s.part.items ≡ [] → s.lines ≡ 0 → s.datagrams ≡ 0 → s.unfinished.items ≡ [] → SaysInput Is text is_accepted [] s
  unfolding datagrams_from prints_none
  none_said s bad verdict parts part lines count kept = (
    [],
    ap (λ r. r ∷ []) (sym kept),
    lines,
    (bad, count, ([], tt, (λ i. joined (parts i) ++ part i) ∙ (prints_none).2, verdict)),
  )

  -- the last line has ended
  pub all_said : (input : List ℕ) (s t : Output) (h : SaysInput Is text is_accepted input s) → IsSaid Is text is_accepted (datagrams_from 1 (h.0 ++ (s.unfinished.items ++ []) ∷ [])) t → IsSaid Is text is_accepted (datagrams input) t
  all_said input s t h said = subst (λ ls. IsSaid Is text is_accepted (datagrams_from 1 ls) t) (ap (λ r. h.0 ++ r ∷ []) (append-nil s.unfinished.items) ∙ sym h.1) said

  -- there are no more lines than bytes
  pub few_lines : (input : List ℕ) (s : Output) → SaysInput Is text is_accepted input s → s.lines ≤ length input
  few_lines input s h =
      let size : length (lines_of input) ≡ length h.0 + 1 = ap length h.1 ∙ length-append h.0 (s.unfinished.items ∷ []) in
      omega (arith, size, h.2, length-lines_of input)

  -- no bad line
  pub good_said : (r : Result (List (List ℕ)) ℕ) (s : Output) → IsSaid Is text is_accepted r s → s.bad_line ≡ None → (ds : List (List ℕ)) × (r ≡ Ok ds) × Prints Is text is_accepted ds (joined s.parts.items ++ s.part.items) s.verdict
  good_said (Ok ds) s said good = (ds, refl, said.2)
  good_said (Err k) s said good = let e : Some k ≡ None = sym said ∙ good in cc
