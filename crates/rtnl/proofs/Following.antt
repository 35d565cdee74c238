-- Lines of an input that comes in pieces, and what is told of them one after another.
use Rattle.std.proofs.Common.{◌≡◌, ◌+◌, ◌<◌, ◌≤◌, ◌^◌, ℕ, Bool, true, false, cond, List, [], ◌∷◌, ◌++◌, length, not, Option, Some, None, Result, Ok, Err, refl, sym, ap, ◌∙◌, subst, append_assoc, append-nil, arith, length-append, add-zero}
use Rattle.rtnl.proofs.Common.{onto_first, Appends, Consumes, common_steps, nat_tests, AppendsPrefix, Gains, Read, all_moved, Appends-trans, Appends-nil, Consumes-nil, Consumes-trans, is_newline, lines_of, Follows, GoesOn, HasRead, HeardLine, Hears, IsCounted, LONGEST_LINE, Steps, Stops, Tells, TellsOne, TellsPart, TellsReads, TellsSome, TellsUpTo, ToldBehind, all_said, bad_at, bad_from, kept_of, line_says, none_followed, refused_in, refused_one, said_by, said_of, with_part, Followed}
use Rattle.std.specs.Prelude.{nat_le, if◌then◌else◌}
use Rattle.rtnl.proofs.Cuts.{length-lines_of}
use Rattle.rtnl.proofs.KnownBytes.{prefix_more}
use Rattle.rtnl.specs.Runs.{texts_from}

-- ---- the lines of one input and then another

-- lines and then others, where the last of the lines and the first of the others are one
abbrev pub glue : List (List ℕ) → List (List ℕ) → List (List ℕ)
glue [] others = others
glue (line ∷ []) [] = line ∷ []
glue (line ∷ []) (first ∷ others) = (line ++ first) ∷ others
glue (line ∷ more ∷ lines) others = line ∷ glue (more ∷ lines) others

-- an input has a line
abbrev IsSome : List (List ℕ) → Type 0
IsSome [] = ⊥
IsSome (line ∷ lines) = Unit {0}

some_line : (input : List ℕ) → IsSome (lines_of input)
some_line [] = tt
some_line (x ∷ xs) = by_case (is_newline x) (lines_of xs) where
  by_case : (b : Bool) (ls : List (List ℕ)) → IsSome (cond b ([] ∷ ls) (onto_first x ls))
  by_case true ls = tt
  by_case false [] = tt
  by_case false (l ∷ ls) = tt

glue_onto : (x : ℕ) (ls bs : List (List ℕ)) → IsSome ls → IsSome bs → onto_first x (glue ls bs) ≡ glue (onto_first x ls) bs
glue_onto x [] bs s t = absurd s
glue_onto x (l ∷ []) [] s t = absurd t
glue_onto x (l ∷ []) (b ∷ bs) s t = refl
glue_onto x (l ∷ m ∷ ls) bs s t = refl

glue_new : (ls bs : List (List ℕ)) → IsSome ls → [] ∷ glue ls bs ≡ glue ([] ∷ ls) bs
glue_new [] bs s = absurd s
glue_new (l ∷ ls) bs s = refl

glue_nil : (bs : List (List ℕ)) → IsSome bs → bs ≡ glue ([] ∷ []) bs
glue_nil [] s = absurd s
glue_nil (b ∷ bs) s = refl

-- the lines of two inputs are those of both, glued
pub lines_append : (a b : List ℕ) → lines_of (a ++ b) ≡ glue (lines_of a) (lines_of b)
lines_append [] b = glue_nil (lines_of b) (some_line b)
lines_append (x ∷ a) b = by_case (is_newline x) (lines_append a b) where
  by_case : (c : Bool) → lines_of (a ++ b) ≡ glue (lines_of a) (lines_of b)
      → cond c ([] ∷ lines_of (a ++ b)) (onto_first x (lines_of (a ++ b))) ≡ glue (cond c ([] ∷ lines_of a) (onto_first x (lines_of a))) (lines_of b)
  by_case true rest = ap (λ l. [] ∷ l) rest ∙ glue_new (lines_of a) (lines_of b) (some_line a)
  by_case false rest = ap (onto_first x) rest ∙ glue_onto x (lines_of a) (lines_of b) (some_line a) (some_line b)

glue_at : (lines : List (List ℕ)) (rest first : List ℕ) (others : List (List ℕ)) → glue (lines ++ rest ∷ []) (first ∷ others) ≡ lines ++ (rest ++ first) ∷ others
glue_at [] rest first others = refl
glue_at (l ∷ []) rest first others = refl
glue_at (l ∷ m ∷ ls) rest first others = ap (λ x. l ∷ x) (glue_at (m ∷ ls) rest first others)

glue_longer : (ls bs : List (List ℕ)) → IsSome bs → length ls ≤ length (glue ls bs)
glue_longer [] bs s = omega arith
glue_longer (l ∷ []) [] s = absurd s
glue_longer (l ∷ []) (b ∷ bs) s = omega arith
glue_longer (l ∷ m ∷ ls) bs s = let rest = glue_longer (m ∷ ls) bs s in omega (arith, rest)

-- an input that goes on has no fewer lines
pub more_lines : (a b : List ℕ) → length (lines_of a) ≤ length (lines_of (a ++ b))
more_lines a b = subst (λ l. length (lines_of a) ≤ length {A = List ℕ} l) (sym (lines_append a b)) (glue_longer (lines_of a) (lines_of b) (some_line b))

-- the last line of an input goes on with the first of what comes
pub lines_more : (input part : List ℕ) (lines : List (List ℕ)) (rest first : List ℕ) (others : List (List ℕ)) → lines_of input ≡ lines ++ rest ∷ [] → lines_of part ≡ first ∷ others
    → lines_of (input ++ part) ≡ lines ++ (rest ++ first) ∷ others
lines_more input part lines rest first others cut more =
    lines_append input part ∙ (λ i. glue (cut i) (more i)) ∙ glue_at lines rest first others

-- ---- what is told of one line more

module _ {Y : Type 0} (says : List ℕ → Result (Option Y) ℕ) where
  said_more : (lines : List (List ℕ)) (line : List ℕ) → all_said says (lines ++ line ∷ []) ≡ all_said says lines ++ said_by (line_says says line)
  said_more [] line = append-nil (said_by (line_says says line))
  said_more (l ∷ ls) line = ap (λ x. said_by (line_says says l) ++ x) (said_more ls line) ∙ sym (append_assoc (said_by (line_says says l)) (all_said says ls) (said_by (line_says says line)))

  bad_more : (n : ℕ) (lines : List (List ℕ)) (line : List ℕ) → bad_from says n (lines ++ line ∷ []) ≡ bad_from says n lines ++ bad_at (n + length lines) (kept_of line) (line_says says line)
  bad_more n [] line = append-nil (bad_at n (kept_of line) (line_says says line)) ∙ ap (λ k. bad_at k (kept_of line) (line_says says line)) (sym (add-zero n))
  bad_more n (l ∷ ls) line =
      let same : n + 1 + length ls ≡ n + length (l ∷ ls) = omega arith in
      ap (λ x. bad_at n (kept_of l) (line_says says l) ++ x) (bad_more (n + 1) ls line ∙ ap (λ k. bad_from says (n + 1) ls ++ bad_at k (kept_of line) (line_says says line)) same)
      ∙ sym (append_assoc (bad_at n (kept_of l) (line_says says l)) (bad_from says (n + 1) ls) (bad_at (n + length (l ∷ ls)) (kept_of line) (line_says says line)))

-- one bad line more was heard of
hears_more : {B : Type 0} (heard : B → Option (List HeardLine)) (is_over : B → Type 0) (g m h : B) (lines : List HeardLine) (line : HeardLine)
    → Hears heard is_over g lines m → (is_over m → ⊥) → Gains (heard m) (heard h) (line ∷ []) → Hears heard is_over g (lines ++ line ∷ []) h
hears_more heard is_over g m h [] line same on more = (subst (λ k. is_over k → ⊥) same on, h, subst (λ k. Gains (heard k) (heard h) (line ∷ [])) same more, refl)
hears_more heard is_over g m h (l ∷ ls) line first on more = (first.0, first.1, first.2, hears_more heard is_over first.1 m h ls line first.3 on more)

-- what is told goes on behind a line that says so, and stops at one that doesn't
module _ {Y X T B : Type 0} (says : List ℕ → Result (Option Y) ℕ) (Is : T → Y → X → T → Type 0) (text : ℕ → Y → X → List ℕ) (is_accepted : X → Bool) (ends : T → Bool) (heard : B → Option (List HeardLine)) (is_over : B → Type 0)
    (line : Option (List ℕ)) (a b : T) (s t : Followed) (g h : B) (old new : Option (List ℕ)) where
  negated : (c : Bool) → true ≡ not c → c ≡ false
  negated true e = cc e
  negated false e = refl

  affirmed : (c : Bool) → false ≡ not c → c ≡ true
  affirmed true e = refl
  affirmed false e = cc e

  pub goes_more : (r : Result (Option Y) ℕ) → TellsOne says Is text is_accepted ends heard is_over line r true a b s t g h old new → GoesOn ends is_over a g → GoesOn ends is_over b h
  goes_more (Ok None) one on = (ap ends one.0 ∙ on.0, subst (λ k. is_over k → ⊥) (sym one.2) on.1)
  goes_more (Ok (Some d)) one on = (negated (ends b) one.5, subst (λ k. is_over k → ⊥) (sym one.3) on.1)
  goes_more (Err e) one on = (ap ends one.0 ∙ on.0, λ over. let same : true ≡ false = one.4.0 over in cc)

  pub stops_so : (r : Result (Option Y) ℕ) → TellsOne says Is text is_accepted ends heard is_over line r false a b s t g h old new → GoesOn ends is_over a g → Stops ends is_over r b h
  stops_so (Ok None) one on = cc one.4
  stops_so (Ok (Some d)) one on = (affirmed (ends b) one.5, subst (λ k. is_over k → ⊥) (sym one.3) on.1)
  stops_so (Err e) one on = (ap ends one.0 ∙ on.0, one.4.1 refl)

module _ {Y X T B : Type 0} (says : List ℕ → Result (Option Y) ℕ) (Is : T → Y → X → T → Type 0) (text : ℕ → Y → X → List ℕ) (is_accepted : X → Bool) (ends : T → Bool) (heard : B → Option (List HeardLine)) (is_over : B → Type 0) where
  -- of one thing more that was said it is found so
  each_more : (a m b : T) (ds : List Y) (found : List X) (d : Y) (x : X) → Steps Is ends a ds found m → ends m ≡ false → Is m d x b → Steps Is ends a (ds ++ d ∷ []) (found ++ x ∷ []) b
  each_more a m b [] [] d x each on is = (subst (λ k. ends k ≡ false) each on, b, subst (λ k. Is k d x b) each is, refl)
  each_more a m b [] (y ∷ found) d x each on is = absurd each
  each_more a m b (e ∷ ds) [] d x each on is = absurd each
  each_more a m b (e ∷ ds) (y ∷ found) d x each on is = (each.0, each.1, each.2, each_more each.1 m b ds found d x each.3 on is)

  -- and has its text behind the others
  text_more : (n : ℕ) (a b : T) (ds : List Y) (found : List X) (d : Y) (x : X) → Steps Is ends a ds found b → texts_from text n (ds ++ d ∷ []) (found ++ x ∷ []) ≡ texts_from text n ds found ++ text (n + length ds) d x
  unfolding texts_from
  text_more n a b [] [] d x each = append-nil (text n d x) ∙ ap (λ k. text k d x) (sym (add-zero n))
  text_more n a b [] (y ∷ found) d x each = absurd each
  text_more n a b (e ∷ ds) [] d x each = absurd each
  text_more n a b (e ∷ ds) (y ∷ found) d x each =
      let same : n + 1 + length ds ≡ n + length (e ∷ ds) = omega arith in
      ap (λ t. text n e y ++ t) (text_more (n + 1) each.1 b ds found d x each.3 ∙ ap (λ k. texts_from text (n + 1) ds found ++ text k d x) same)
      ∙ sym (append_assoc (text n e y) (texts_from text (n + 1) ds found) (text (n + length (e ∷ ds)) d x))

  refused_more : (found : List X) (x : X) → refused_in is_accepted (found ++ x ∷ []) ≡ refused_in is_accepted found + refused_one (is_accepted x)
  refused_more [] x = omega arith
  refused_more (y ∷ found) x = omega (arith, refused_more found x)

  module _ (lines : List (List ℕ)) (line : List ℕ) where
    -- a line more that says nothing, or one that is not bad
    said_without : (r : Result (Option Y) ℕ) → line_says says line ≡ r → said_by r ≡ [] → all_said says (lines ++ line ∷ []) ≡ all_said says lines
    said_without r is empty = said_more says lines line ∙ ap (λ x. all_said says lines ++ x) (ap said_by is ∙ empty) ∙ append-nil (all_said says lines)

    bad_without : (d : Option Y) → line_says says line ≡ Ok d → bad_from says 1 (lines ++ line ∷ []) ≡ bad_from says 1 lines
    bad_without d is = bad_more says 1 lines line ∙ ap (λ r. bad_from says 1 lines ++ bad_at (1 + length lines) (kept_of line) r) is ∙ append-nil (bad_from says 1 lines)

  module _ (lines : List (List ℕ)) (line : List ℕ) (d : Y) (is : line_says says line ≡ Ok (Some d)) where
    -- a line more that says something
    said_with : all_said says (lines ++ line ∷ []) ≡ all_said says lines ++ d ∷ []
    said_with = said_more says lines line ∙ ap (λ r. all_said says lines ++ said_by r) is

    each_with : (a m b : T) (found : List X) (x : X) → Steps Is ends a (all_said says lines) found m → ends m ≡ false → Is m d x b → Steps Is ends a (all_said says (lines ++ line ∷ [])) (found ++ x ∷ []) b
    each_with a m b found x each on is = subst (λ l. Steps Is ends a l (found ++ x ∷ []) b) (sym said_with) (each_more a m b (all_said says lines) found d x each on is)

    text_with : (a m : T) (found : List X) (x : X) → Steps Is ends a (all_said says lines) found m
        → texts_from text 1 (all_said says lines) found ++ text (length (all_said says lines) + 1) d x ≡ texts_from text 1 (all_said says (lines ++ line ∷ [])) (found ++ x ∷ [])
    text_with a m found x each =
        let same : length (all_said says lines) + 1 ≡ 1 + length (all_said says lines) = omega arith in
        ap (λ k. texts_from text 1 (all_said says lines) found ++ text k d x) same ∙ sym (text_more 1 a m (all_said says lines) found d x each) ∙ ap (λ l. texts_from text 1 l (found ++ x ∷ [])) (sym said_with)

  -- the counts of lines, by what is found of what they say
  abbrev counted : List (List ℕ) → List X → Followed
  counted lines found = record { lines = length lines; datagrams = length (all_said says lines); refused = refused_in is_accepted found; bad_lines = length (bad_from says 1 lines) }

  -- what one line more says is told of it
  module _ (lines : List (List ℕ)) (line : List ℕ) (a m b : T) (s t : Followed) (g k h : B) (old mid new : Option (List ℕ))
      (told : Tells says Is text is_accepted ends heard is_over lines a m s g k old mid) (on : GoesOn ends is_over m k) where
    long : length (lines ++ line ∷ []) ≡ length lines + 1
    long = length-append lines (line ∷ [])

    more_by : (r : Result (Option Y) ℕ) (goes_on : Bool) → line_says says line ≡ r → TellsOne says Is text is_accepted ends heard is_over (kept_of line) r goes_on m b s t k h mid new
        → Tells says Is text is_accepted ends heard is_over (lines ++ line ∷ []) a b t g h old new
    more_by (Ok None) goes_on is one =
        let ds = said_without lines line (Ok None) is refl in
        let bs = bad_without lines line None is in
        record {
          found = told.found;
          each = subst (λ l. Steps Is ends a l told.found b) (sym ds) (subst (λ c. Steps Is ends a (all_said says lines) told.found c) (sym one.0) told.each);
          written = subst (Appends old new) (ap (λ l. texts_from text 1 l told.found) (sym ds)) (subst (λ x. Appends old x (texts_from text 1 (all_said says lines) told.found)) (sym one.3) told.written);
          bad = subst (λ l. Hears heard is_over g l h) (sym bs) (subst (λ c. Hears heard is_over g (bad_from says 1 lines) c) (sym one.2) told.bad);
          counts =
              one.1 ∙ ap (λ (x : Followed). record x { lines = x.lines + 1 }) told.counts
              ∙ λ i. record { lines = sym long i; datagrams = length (sym ds i); refused = refused_in is_accepted told.found; bad_lines = length (sym bs i) };
        }
    more_by (Ok (Some d)) goes_on is one =
        let ds = said_with lines line d is in
        let bs = bad_without lines line (Some d) is in
        let x = one.0 in
        let many : s.datagrams + 1 ≡ length (all_said says lines) + 1 = ap (λ (y : Followed). y.datagrams + 1) told.counts in
        let texts = Appends-trans old mid new (texts_from text 1 (all_said says lines) told.found) (text (s.datagrams + 1) d x) told.written one.4 in
        let size : length (all_said says lines) + 1 ≡ length (all_said says (lines ++ line ∷ [])) = sym (ap length ds ∙ length-append (all_said says lines) (d ∷ [])) in
        let turned : refused_in is_accepted told.found + refused_one (is_accepted x) ≡ refused_in is_accepted (told.found ++ x ∷ []) = sym (refused_more told.found x) in
        record {
          found = told.found ++ x ∷ [];
          each = each_with lines line d is a m b told.found x told.each on.0 one.1;
          written = subst (Appends old new) (ap (λ k. texts_from text 1 (all_said says lines) told.found ++ text k d x) many ∙ text_with lines line d is a m told.found x told.each) texts;
          bad = subst (λ l. Hears heard is_over g l h) (sym bs) (subst (λ c. Hears heard is_over g (bad_from says 1 lines) c) (sym one.3) told.bad);
          counts =
              one.2 ∙ ap (λ (y : Followed). record y { lines = y.lines + 1; datagrams = y.datagrams + 1; refused = y.refused + refused_one (is_accepted x) }) told.counts
              ∙ λ i. record { lines = sym long i; datagrams = size i; refused = turned i; bad_lines = length (sym bs i) };
        }
    more_by (Err e) goes_on is one =
        let ds = said_without lines line (Err e) is refl in
        let bs : bad_from says 1 (lines ++ line ∷ []) ≡ bad_from says 1 lines ++ record { number = 1 + length lines; line = kept_of line } ∷ [] =
        bad_more says 1 lines line ∙ ap (λ r. bad_from says 1 lines ++ bad_at (1 + length lines) (kept_of line) r) is in
        let number : s.lines + 1 ≡ 1 + length lines = ap (λ (y : Followed). y.lines + 1) told.counts ∙ omega arith in
        let this : Gains (heard k) (heard h) (record { number = 1 + length lines; line = kept_of line } ∷ []) = subst (λ n. Gains (heard k) (heard h) (record { number = n; line = kept_of line } ∷ [])) number one.2 in
        let size : length (bad_from says 1 lines) + 1 ≡ length (bad_from says 1 (lines ++ line ∷ [])) = sym (ap (length {A = HeardLine}) bs ∙ length-append (bad_from says 1 lines) (record { number = 1 + length lines; line = kept_of line } ∷ [])) in
        record {
          found = told.found;
          each = subst (λ l. Steps Is ends a l told.found b) (sym ds) (subst (λ c. Steps Is ends a (all_said says lines) told.found c) (sym one.0) told.each);
          written = subst (Appends old new) (ap (λ l. texts_from text 1 l told.found) (sym ds)) (subst (λ x. Appends old x (texts_from text 1 (all_said says lines) told.found)) (sym one.3) told.written);
          bad = subst (λ l. Hears heard is_over g l h) (sym bs) (hears_more heard is_over g k h (bad_from says 1 lines) (record { number = 1 + length lines; line = kept_of line }) told.bad on.1 this);
          counts =
              one.1 ∙ ap (λ (y : Followed). record y { lines = y.lines + 1; bad_lines = y.bad_lines + 1 }) told.counts
              ∙ λ i. record { lines = sym long i; datagrams = length (sym ds i); refused = refused_in is_accepted told.found; bad_lines = size i };
        }

    pub tells_more : (goes_on : Bool) → TellsOne says Is text is_accepted ends heard is_over (kept_of line) (line_says says line) goes_on m b s t k h mid new → Tells says Is text is_accepted ends heard is_over (lines ++ line ∷ []) a b t g h old new
    tells_more goes_on one = more_by (line_says says line) goes_on refl one

-- ---- an input so far

-- a part more of a line is kept as the line with it is
kept_more : (rest part : List ℕ) → with_part (kept_of rest) part ≡ kept_of (rest ++ part)
kept_more rest part = by_case (nat_le (length rest) LONGEST_LINE) refl where
  by_case : (b : Bool) → nat_le (length rest) LONGEST_LINE ≡ b → with_part (if b then Some rest else None) part ≡ kept_of (rest ++ part)
  by_case true is = refl
  by_case false is =
      let long : nat_le (length (rest ++ part)) LONGEST_LINE ≡ false = grind (arith, common_steps, nat_tests, length-append rest part) in
      rw long refl

-- the lines of a part without a newline, and of the newline
pub one_ended : (part : List ℕ) → lines_of part ≡ part ∷ [] → lines_of (part ++ 10 ∷ []) ≡ part ∷ [] ∷ []
one_ended part one = lines_more part (10 ∷ []) [] part [] ([] ∷ []) one refl ∙ ap (λ l. l ∷ [] ∷ []) (append-nil part)

-- the first line of a part that ends it
first_ended : (part more : List ℕ) → lines_of part ≡ part ∷ [] → (others : List (List ℕ)) × (lines_of ((part ++ 10 ∷ []) ++ more) ≡ part ∷ others)
first_ended part more one = by_case (lines_of more) refl (some_line more) where
  by_case : (ls : List (List ℕ)) → lines_of more ≡ ls → IsSome ls → (others : List (List ℕ)) × (lines_of ((part ++ 10 ∷ []) ++ more) ≡ part ∷ others)
  by_case [] is some = absurd some
  by_case (l ∷ ls) is some = (l ∷ ls, lines_more (part ++ 10 ∷ []) more (part ∷ []) [] l ls (one_ended part one) is)

module _ {Y X T B : Type 0} (says : List ℕ → Result (Option Y) ℕ) (Is : T → Y → X → T → Type 0) (text : ℕ → Y → X → List ℕ) (is_accepted : X → Bool) (ends : T → Bool) (heard : B → Option (List HeardLine)) (is_over : B → Type 0) where
  -- nothing is read yet
  pub follows_none : (a : T) (g : B) (old : Option (List ℕ)) → Follows says Is text is_accepted ends heard is_over [] (Some []) a a none_followed g g old old
  unfolding texts_from
  follows_none a g old =
      record {
        lines = [];
        rest = [];
        cut = refl;
        keeps = refl;
        tells = record { found = []; each = refl; written = Appends-nil old; bad = refl; counts = refl };
      }

  module _ (input : List ℕ) (kept : Option (List ℕ)) (a m : T) (s : Followed) (g k : B) (old mid : Option (List ℕ)) (h : Follows says Is text is_accepted ends heard is_over input kept a m s g k old mid) where
    -- a part without a newline has come
    pub follows_part : (part : List ℕ) → lines_of part ≡ part ∷ [] → Follows says Is text is_accepted ends heard is_over (input ++ part) (with_part kept part) a m s g k old mid
    follows_part part one =
        record {
          lines = h.lines;
          rest = h.rest ++ part;
          cut = lines_more input part h.lines h.rest part [] h.cut one;
          keeps = ap (λ r. with_part r part) h.keeps ∙ kept_more h.rest part;
          tells = h.tells;
        }

    -- what is kept of the line that ends behind this part
    keeps_with : (part : List ℕ) → with_part kept part ≡ kept_of (h.rest ++ part)
    keeps_with part = ap (λ r. with_part r part) h.keeps ∙ kept_more h.rest part

    -- what was written of it
    pub told_behind : ends m ≡ false → ToldBehind says Is text ends a input old mid
    told_behind on = record { lines = h.lines; rest = h.rest; cut = h.cut; found = h.tells.found; kept = m; each = h.tells.each; goes_on = on; written = h.tells.written }

    first_of : (more : List ℕ) (ls : List (List ℕ)) → lines_of more ≡ ls → IsSome ls → (others : List (List ℕ)) × (lines_of (input ++ more) ≡ h.lines ++ others)
    first_of more [] is some = absurd some
    first_of more (l ∷ ls) is some = ((h.rest ++ l) ∷ ls, lines_more input more h.lines h.rest l ls h.cut is)

    -- the other lines are not told, whatever comes
    pub follows_some : (more : List ℕ) → TellsSome says Is text is_accepted ends heard is_over (input ++ more) a m s g k old mid
    follows_some more =
        let f = first_of more (lines_of more) refl (some_line more) in
        record { lines = h.lines; others = f.0; cut = f.1; tells = h.tells }

    module _ (on : GoesOn ends is_over m k) where
      -- a line has ended, and was told of
      module _ (part : List ℕ) (one : lines_of part ≡ part ∷ []) (goes_on : Bool) (b : T) (t : Followed) (l : B) (new : Option (List ℕ))
          (told : TellsOne says Is text is_accepted ends heard is_over (with_part kept part) (said_of says (with_part kept part)) goes_on m b s t k l mid new) where
        told_whole : TellsOne says Is text is_accepted ends heard is_over (kept_of (h.rest ++ part)) (line_says says (h.rest ++ part)) goes_on m b s t k l mid new
        told_whole = subst (λ r. TellsOne says Is text is_accepted ends heard is_over r (said_of says r) goes_on m b s t k l mid new) (keeps_with part) told

        tells_line : Tells says Is text is_accepted ends heard is_over (h.lines ++ (h.rest ++ part) ∷ []) a b t g l old new
        tells_line = tells_more says Is text is_accepted ends heard is_over h.lines (h.rest ++ part) a m b s t g k l old mid new h.tells on goes_on told_whole

        pub follows_line : Follows says Is text is_accepted ends heard is_over (input ++ (part ++ 10 ∷ [])) (Some []) a b t g l old new
        follows_line =
            record {
              lines = h.lines ++ (h.rest ++ part) ∷ [];
              rest = [];
              cut = lines_more input (part ++ 10 ∷ []) h.lines h.rest part ([] ∷ []) h.cut (one_ended part one) ∙ sym (append_assoc h.lines ((h.rest ++ part) ∷ []) ([] ∷ []));
              keeps = refl;
              tells = tells_line;
            }

      -- and what is told stops at it
      module _ (part : List ℕ) (one : lines_of part ≡ part ∷ []) (b : T) (t : Followed) (l : B) (new : Option (List ℕ))
          (told : TellsOne says Is text is_accepted ends heard is_over (with_part kept part) (said_of says (with_part kept part)) false m b s t k l mid new) where
        up_to : (before piece : List ℕ) (others : List (List ℕ)) → lines_of (before ++ piece) ≡ h.lines ++ (h.rest ++ part) ∷ others → length (lines_of before) ≤ length (lines_of input) → TellsUpTo says Is text is_accepted ends heard is_over before piece a b t g l old new
        up_to before piece others cut fewer =
            let size : length (lines_of input) ≡ length h.lines + 1 = ap (length {A = List ℕ}) h.cut ∙ length-append h.lines (h.rest ∷ []) in
            record {
              front = h.lines;
              line = h.rest ++ part;
              others = others;
              cut = cut ∙ sym (append_assoc h.lines ((h.rest ++ part) ∷ []) others);
              stops = stops_so says Is text is_accepted ends heard is_over (kept_of (h.rest ++ part)) m b s t k l mid new (line_says says (h.rest ++ part)) (told_whole part one false b t l new told) on;
              tells = tells_line part one false b t l new told;
              soon = omega (arith, fewer, size);
            }

        -- in the middle of an input
        pub stops_at_line : (before piece more : List ℕ) → input ++ ((part ++ 10 ∷ []) ++ more) ≡ before ++ piece → length (lines_of before) ≤ length (lines_of input) → TellsUpTo says Is text is_accepted ends heard is_over before piece a b t g l old new
        stops_at_line before piece more is fewer =
            let f = first_ended part more one in
            up_to before piece f.0 (ap lines_of (sym is) ∙ lines_more input ((part ++ 10 ∷ []) ++ more) h.lines h.rest part f.0 h.cut f.1) fewer

      -- the last line was told of
      module _ (goes_on : Bool) (b : T) (t : Followed) (l : B) (new : Option (List ℕ)) (told : TellsOne says Is text is_accepted ends heard is_over kept (said_of says kept) goes_on m b s t k l mid new) where
        told_last : TellsOne says Is text is_accepted ends heard is_over (kept_of h.rest) (line_says says h.rest) goes_on m b s t k l mid new
        told_last = subst (λ r. TellsOne says Is text is_accepted ends heard is_over r (said_of says r) goes_on m b s t k l mid new) h.keeps told

        tells_last : Tells says Is text is_accepted ends heard is_over (h.lines ++ h.rest ∷ []) a b t g l old new
        tells_last = tells_more says Is text is_accepted ends heard is_over h.lines h.rest a m b s t g k l old mid new h.tells on goes_on told_last

        pub follows_last : Tells says Is text is_accepted ends heard is_over (lines_of input) a b t g l old new
        follows_last = subst (λ ls. Tells says Is text is_accepted ends heard is_over ls a b t g l old new) (sym h.cut) tells_last

      -- and what is told stops at it
      pub stops_at_last : (before piece : List ℕ) → input ≡ before ++ piece → length (lines_of before) ≤ length (lines_of input) → (b : T) (t : Followed) (l : B) (new : Option (List ℕ))
          → TellsOne says Is text is_accepted ends heard is_over kept (said_of says kept) false m b s t k l mid new → TellsUpTo says Is text is_accepted ends heard is_over before piece a b t g l old new
      stops_at_last before piece is fewer b t l new told =
          let size : length (lines_of input) ≡ length h.lines + 1 = ap (length {A = List ℕ}) h.cut ∙ length-append h.lines (h.rest ∷ []) in
          record {
            front = h.lines;
            line = h.rest;
            others = [];
            cut = ap lines_of (sym is) ∙ h.cut ∙ sym (append-nil (h.lines ++ h.rest ∷ []));
            stops = stops_so says Is text is_accepted ends heard is_over (kept_of h.rest) m b s t k l mid new (line_says says h.rest) (told_last false b t l new told) on;
            tells = tells_last false b t l new told;
            soon = omega (arith, fewer, size);
          }

      -- the line that has ended says something, and of the text of that a front was written
      module _ (line : List ℕ) (others : List (List ℕ)) (all : List ℕ) (cut : lines_of all ≡ h.lines ++ line ∷ others) where
        follows_front : (d : Y) (x : X) (b : T) (l : B) (w : Option (List ℕ)) → line_says says line ≡ Ok (Some d) → Is m d x b → l ≡ k → AppendsPrefix mid w (text (s.datagrams + 1) d x) → TellsPart says Is text is_accepted ends heard is_over all a b g l old w
        follows_front d x b l w told is same front =
            let t = h.tells in
            let many : s.datagrams + 1 ≡ length (all_said says h.lines) + 1 = ap (λ (y : Followed). y.datagrams + 1) t.counts in
            record {
              lines = h.lines ++ line ∷ [];
              others = others;
              cut = cut ∙ sym (append_assoc h.lines (line ∷ []) others);
              found = t.found ++ x ∷ [];
              each = each_with says Is text is_accepted ends heard is_over h.lines line d told a m b t.found x t.each on.0 is;
              written =
                  subst (AppendsPrefix old w) (ap (λ n. texts_from text 1 (all_said says h.lines) t.found ++ text n d x) many ∙ text_with says Is text is_accepted ends heard is_over h.lines line d told a m t.found x t.each)
                  (prefix_more old mid w (texts_from text 1 (all_said says h.lines) t.found) (text (s.datagrams + 1) d x) t.written front);
              bad = subst (λ ls. Hears heard is_over g ls l) (sym (bad_without says Is text is_accepted ends heard is_over h.lines line (Some d) told)) (subst (λ c. Hears heard is_over g (bad_from says 1 h.lines) c) (sym same) t.bad);
            }

      -- so it is with a line in the middle
      pub part_of_line : (part more : List ℕ) (d : Y) (x : X) (b : T) (l : B) (w : Option (List ℕ)) → lines_of part ≡ part ∷ [] → said_of says (with_part kept part) ≡ Ok (Some d) → Is m d x b → l ≡ k
          → AppendsPrefix mid w (text (s.datagrams + 1) d x) → TellsPart says Is text is_accepted ends heard is_over (input ++ ((part ++ 10 ∷ []) ++ more)) a b g l old w
      part_of_line part more d x b l w one said is same front =
          let f = first_ended part more one in
          follows_front (h.rest ++ part) f.0 (input ++ ((part ++ 10 ∷ []) ++ more)) (lines_more input ((part ++ 10 ∷ []) ++ more) h.lines h.rest part f.0 h.cut f.1) d x b l w (sym (ap (said_of says) (keeps_with part)) ∙ said) is same front

      -- and with the last
      pub part_of_last : (d : Y) (x : X) (b : T) (l : B) (w : Option (List ℕ)) → said_of says kept ≡ Ok (Some d) → Is m d x b → l ≡ k → AppendsPrefix mid w (text (s.datagrams + 1) d x) → TellsPart says Is text is_accepted ends heard is_over input a b g l old w
      part_of_last d x b l w said is same front = follows_front h.rest [] input h.cut d x b l w (sym (ap (said_of says) h.keeps) ∙ said) is same front

-- ---- reads

moved_more : (reads : List Read) (last : Read) → all_moved (reads ++ last ∷ []) ≡ all_moved reads ++ last.moved
moved_more [] last = append-nil last.moved
moved_more (r ∷ reads) last = ap (λ x. r.moved ++ x) (moved_more reads last) ∙ sym (append_assoc r.moved (all_moved reads) last.moved)

gains_more : {A : Type 0} (a b c : Option (List A)) (xs ys : List A) → Gains a b xs → Gains b c ys → Gains a c (xs ++ ys)
gains_more None b c xs ys p q = tt
gains_more (Some x) None c xs ys p q = absurd p
gains_more (Some x) (Some y) None xs ys p q = absurd q
gains_more (Some x) (Some y) (Some z) xs ys p q = q ∙ ap (λ l. l ++ ys) p ∙ append_assoc x xs ys

pub gains_none : {A : Type 0} (a : Option (List A)) → Gains a a []
gains_none None = tt
gains_none (Some x) = sym (append-nil x)

module _ {Y X T : Type 0} (says : List ℕ → Result (Option Y) ℕ) (Is : T → Y → X → T → Type 0) (text : ℕ → Y → X → List ℕ) (ends : T → Bool) where
  -- one read more
  told_more : (a : T) (old : Option (List ℕ)) (input : List ℕ) (reads : List Read) (last : Read) → TellsReads says Is text ends a old input reads → ToldBehind says Is text ends a (input ++ all_moved reads) old last.written
      → TellsReads says Is text ends a old input (reads ++ last ∷ [])
  told_more a old input [] last told this = (subst (λ i. ToldBehind says Is text ends a i old last.written) (append-nil input) this, tt)
  told_more a old input (r ∷ reads) last told this =
      (told.0, told_more a old (input ++ r.moved) reads last told.1 (subst (λ i. ToldBehind says Is text ends a i old last.written) (sym (append_assoc input r.moved (all_moved reads))) this))

  module _ {S : Type 0} (left : S → Option (List ℕ)) (reads_of : S → Option (List Read)) where
    pub read_none : (a : T) (old : Option (List ℕ)) (from : S) → HasRead says Is text ends left reads_of a old from from []
    read_none a old from = record { reads = []; given = Consumes-nil (left from); seen = gains_none (reads_of from); moved = refl; told = tt }

    pub read_more : (a : T) (old written : Option (List ℕ)) (from_old from_mid from_new : S) (input piece : List ℕ) → (r : HasRead says Is text ends left reads_of a old from_old from_mid input) → ToldBehind says Is text ends a input old written
        → Consumes (left from_mid) (left from_new) piece → Gains (reads_of from_mid) (reads_of from_new) (record { written = written; moved = piece } ∷ [])
        → (now : HasRead says Is text ends left reads_of a old from_old from_new (input ++ piece)) × (now.reads ≡ r.reads ++ record { written = written; moved = piece } ∷ [])
    read_more a old written from_old from_mid from_new input piece r this next seen =
        let last : Read = record { written = written; moved = piece } in (
          record {
            reads = r.reads ++ last ∷ [];
            given = Consumes-trans (left from_old) (left from_mid) (left from_new) input piece r.given next;
            seen = gains_more (reads_of from_old) (reads_of from_mid) (reads_of from_new) r.reads (last ∷ []) r.seen seen;
            moved = moved_more r.reads last ∙ ap (λ x. x ++ piece) r.moved;
            told = told_more a old [] r.reads last r.told (subst (λ i. ToldBehind says Is text ends a i old written) (sym r.moved) this);
          },
          refl,
        )

-- ---- counts

module _ {Y : Type 0} (says : List ℕ → Result (Option Y) ℕ) where
  few_said : (r : Result (Option Y) ℕ) → length (said_by r) ≤ 1
  few_said (Ok None) = omega arith
  few_said (Ok (Some d)) = omega arith
  few_said (Err e) = omega arith

  few_bad : (n : ℕ) (line : Option (List ℕ)) (r : Result (Option Y) ℕ) → length (bad_at n line r) ≤ 1
  few_bad n line (Ok d) = omega arith
  few_bad n line (Err e) = omega arith

  fewer_said : (lines : List (List ℕ)) → length (all_said says lines) ≤ length lines
  fewer_said [] = omega arith
  fewer_said (l ∷ ls) = omega (arith, length-append (said_by (line_says says l)) (all_said says ls), few_said (line_says says l), fewer_said ls)

  fewer_bad : (n : ℕ) (lines : List (List ℕ)) → length (bad_from says n lines) ≤ length lines
  fewer_bad n [] = omega arith
  fewer_bad n (l ∷ ls) = omega (arith, length-append (bad_at n (kept_of l) (line_says says l)) (bad_from says (n + 1) ls), few_bad n (kept_of l) (line_says says l), fewer_bad (n + 1) ls)

module _ {Y X T B : Type 0} (says : List ℕ → Result (Option Y) ℕ) (Is : T → Y → X → T → Type 0) (text : ℕ → Y → X → List ℕ) (is_accepted : X → Bool) (ends : T → Bool) (heard : B → Option (List HeardLine)) (is_over : B → Type 0) where
  one_refused : (b : Bool) → refused_one b ≤ 1
  one_refused true = omega arith
  one_refused false = omega arith

  fewer_refused : (a b : T) (ds : List Y) (found : List X) → Steps Is ends a ds found b → refused_in is_accepted found ≤ length ds
  fewer_refused a b [] [] each = omega arith
  fewer_refused a b [] (x ∷ found) each = absurd each
  fewer_refused a b (d ∷ ds) [] each = absurd each
  fewer_refused a b (d ∷ ds) (x ∷ found) each = omega (arith, one_refused (is_accepted x), fewer_refused each.1 b ds found each.3)

  -- no count is greater than that of the lines
  is_counted : (lines : List (List ℕ)) (a b : T) (s : Followed) (g h : B) (old new : Option (List ℕ)) (n : ℕ) → Tells says Is text is_accepted ends heard is_over lines a b s g h old new → length lines + n < 2 ^ 64 → IsCounted n s
  is_counted lines a b s g h old new n told few =
      let e = told.counts in
      record {
        lines = subst (λ (t : Followed). t.lines + n < 2 ^ 64) (sym e) few;
        datagrams = subst (λ (t : Followed). t.datagrams ≤ t.lines) (sym e) (fewer_said says lines);
        refused = subst (λ (t : Followed). t.refused ≤ t.datagrams) (sym e) (fewer_refused a b (all_said says lines) told.found told.each);
        bad_lines = subst (λ (t : Followed). t.bad_lines ≤ t.lines) (sym e) (fewer_bad says 1 lines);
      }

  -- lines are no more than the bytes of their input, and one
  pub follows_counted : (input : List ℕ) (kept : Option (List ℕ)) (a b : T) (s : Followed) (g h : B) (old new : Option (List ℕ)) (n : ℕ) → Follows says Is text is_accepted ends heard is_over input kept a b s g h old new → length input + n < 2 ^ 64 → IsCounted n s
  follows_counted input kept a b s g h old new n f few =
      let lines : length f.lines + 1 ≡ length (lines_of input) = sym (ap (length {A = List ℕ}) f.cut ∙ length-append f.lines (f.rest ∷ [])) in
      is_counted f.lines a b s g h old new n f.tells (omega (arith, lines, length-lines_of input))

  -- one line more is counted
  pub tells_counted : (line : Option (List ℕ)) (r : Result (Option Y) ℕ) (goes_on : Bool) (a b : T) (s t : Followed) (g h : B) (old new : Option (List ℕ)) (n : ℕ) → IsCounted (n + 1) s
      → TellsOne says Is text is_accepted ends heard is_over line r goes_on a b s t g h old new → IsCounted n t
  tells_counted line (Ok None) goes_on a b s t g h old new n c told = rw told.1 (record { lines = omega (arith, c.lines); datagrams = omega (arith, c.datagrams); refused = c.refused; bad_lines = omega (arith, c.bad_lines) })
  tells_counted line (Ok (Some d)) goes_on a b s t g h old new n c told =
      rw told.2 (record { lines = omega (arith, c.lines); datagrams = omega (arith, c.datagrams); refused = omega (arith, c.refused, one_refused (is_accepted told.0)); bad_lines = omega (arith, c.bad_lines) })
  tells_counted line (Err e) goes_on a b s t g h old new n c told = rw told.1 (record { lines = omega (arith, c.lines); datagrams = omega (arith, c.datagrams); refused = c.refused; bad_lines = omega (arith, c.bad_lines) })
