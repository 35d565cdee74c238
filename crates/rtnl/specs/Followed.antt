-- A recording that is followed line by line: what its lines say, and what is told of them.
use Rattle.std.specs.Prelude.{◌≡◌, ◌⊎◌, ◌↔◌, ◌+◌, ◌-◌, ◌^◌, ◌<◌, ◌≤◌, ℕ, List, [], ◌∷◌, ◌++◌, length, Bool, true, false, not, nat_le, if◌then◌else◌, Option, Some, None, Result, Ok, Err, OnOk, OnErr, IfErr, IfOk}
use Rattle.std.specs.Io.KnownBytes.{Appends, Consumes}
use Rattle.rtnl.specs.Lines.{datagrams, line_at, lines_of}
use Rattle.rtnl.specs.Runs.{LONGEST_INPUT, Prints, texts_from}
use Rattle.rtnl.specs.Streams.{AppendsPrefix, ConsumesMoreThan, Gains, IsRead, Read, StopsOnce, all_moved, one_more}
use Rattle.rtnl.specs.declared.error.RunError.{RunError}
use Rattle.rtnl.specs.declared.error.RunError.TheVariants.{BadLine, ReadFault, WriteFault, Memory}
use Rattle.rtnl.specs.declared.verdict.Verdict.{Verdict}
use Rattle.rtnl.specs.declared.verdict.Verdict.TheVariants.{Clean}
use Rattle.rtnl.specs.declared.runs.followed.Followed.{Followed}
use Rattle.rtnl.specs.declared.runs.per_line.Told.{Told}

-- the longest line that is followed, in bytes: as long as an input of the other commands, so that each line of theirs is followed
abbrev pub LONGEST_LINE : ℕ
LONGEST_LINE = 16_777_216

-- a line, if it is not too long
abbrev pub kept_of : List ℕ → Option (List ℕ)
kept_of line = if nat_le (length line) LONGEST_LINE then Some line else None

-- what is kept of a line, with a part more
abbrev pub with_part : Option (List ℕ) → List ℕ → Option (List ℕ)
with_part None part = None
with_part (Some line) part = kept_of (line ++ part)

-- what is said, if anything is
abbrev pub said_by : {Y : Type 0} → Result (Option Y) ℕ → List Y
said_by (Ok None) = []
said_by (Ok (Some y)) = y ∷ []
said_by (Err _) = []

-- what is heard of a bad line: its number, counted from 1, and the line, if it is not too long
pub record HeardLine : Type 0 where
  pub number : ℕ
  pub line : Option (List ℕ)

abbrev pub bad_at : {Y : Type 0} → ℕ → Option (List ℕ) → Result (Option Y) ℕ → List HeardLine
bad_at number line (Ok _) = []
bad_at number line (Err _) = record { number = number; line = line } ∷ []

-- what a line says, if it says anything, or it is bad, is a parameter: a datagram, say, as `line_at 0` has it
module _ {Y : Type 0} (says : List ℕ → Result (Option Y) ℕ) where
  -- what is said by what is kept of a line: one that is too long is bad
  abbrev pub said_of : Option (List ℕ) → Result (Option Y) ℕ
  said_of None = Err 0
  said_of (Some line) = says line

  -- what a line says, whatever its length
  abbrev pub line_says : List ℕ → Result (Option Y) ℕ
  line_says line = said_of (kept_of line)

  -- what lines say, in order: a bad line says nothing
  abbrev pub all_said : List (List ℕ) → List Y
  all_said [] = []
  all_said (line ∷ lines) = said_by (line_says line) ++ all_said lines

  -- the bad ones among lines, of which the first has this number
  abbrev pub bad_from : ℕ → List (List ℕ) → List HeardLine
  bad_from number [] = []
  bad_from number (line ∷ lines) = bad_at number (kept_of line) (line_says line) ++ bad_from (number + 1) lines

-- what something said that is taken or not adds to the refused
abbrev pub refused_one : Bool → ℕ
refused_one true = 0
refused_one false = 1

-- how many are not taken
abbrev pub refused_in : {X : Type 0} → (X → Bool) → List X → ℕ
refused_in is_accepted [] = 0
refused_in is_accepted (x ∷ found) = refused_one (is_accepted x) + refused_in is_accepted found

-- nothing is followed yet
abbrev pub none_followed : Followed
none_followed = record { lines = 0; datagrams = 0; refused = 0; bad_lines = 0 }

-- one line more that is bad
abbrev pub one_bad : Followed → Followed
one_bad s = record s { lines = s.lines + 1; bad_lines = s.bad_lines + 1 }

-- so many lines more can be counted
pub record IsCounted (more : ℕ) (s : Followed) : Type 0 where
  pub lines : s.lines + more < 2 ^ 64
  pub datagrams : s.datagrams ≤ s.lines
  pub refused : s.refused ≤ s.datagrams
  pub bad_lines : s.bad_lines ≤ s.lines

-- what is found of each datagram by itself: nothing is kept from one to the next
abbrev pub alone : {X : Type 0} → (List ℕ → X → Type 0) → Unit {0} → List ℕ → X → Unit {0} → Type 0
alone Is _ d x _ = Is d x

-- and none ends what is told
abbrev pub never : Unit {0} → Bool
never _ = false

module _ {Y X T : Type 0} (Is : T → Y → X → T → Type 0) (ends : T → Bool) where
  -- what is found of what is said, one after another, from what was kept before to what is kept behind, where none but the last ends what is told
  abbrev pub Steps : T → List Y → List X → T → Type 0
  Steps a [] [] b = b ≡ a
  Steps a [] (_ ∷ _) b = ⊥
  Steps a (_ ∷ _) [] b = ⊥
  Steps a (y ∷ ys) (x ∷ found) b = (ends a ≡ false) × (m : T) × Is a y x m × Steps m ys found b

module _ {B : Type 0} (heard : B → Option (List HeardLine)) (is_over : B → Type 0) where
  -- these lines were heard of one after another, and at none of them but the last it ended what is told
  abbrev pub Hears : B → List HeardLine → B → Type 0
  Hears g [] h = h ≡ g
  Hears g (line ∷ lines) h = (is_over g → ⊥) × (m : B) × Gains (heard g) (heard m) (line ∷ []) × Hears m lines h

-- what ends what is told: what is kept of what lines say, or what hears of bad lines
module _ {T B : Type 0} (ends : T → Bool) (is_over : B → Type 0) where
  -- neither did
  abbrev pub GoesOn : T → B → Type 0
  GoesOn b h = (ends b ≡ false) × (is_over h → ⊥)

  -- the line that says this did, and none before it
  abbrev pub Stops : {Y : Type 0} → Result (Option Y) ℕ → T → B → Type 0
  Stops (Ok None) b h = ⊥
  Stops (Ok (Some _)) b h = (ends b ≡ true) × (is_over h → ⊥)
  Stops (Err _) b h = (ends b ≡ false) × is_over h

module _ {Y X T : Type 0} (says : List ℕ → Result (Option Y) ℕ) (Is : T → Y → X → T → Type 0) (text : ℕ → Y → X → List ℕ) (ends : T → Bool) where
  -- the texts of the lines that had ended in an input were written, and nothing else; and none of these lines ended what is told
  pub record ToldBehind (a : T) (input : List ℕ) (old new : Option (List ℕ)) : Type 0 where
    pub lines : List (List ℕ)
    pub rest : List ℕ
    pub cut : lines_of input ≡ lines ++ rest ∷ []
    pub found : List X
    pub kept : T
    pub each : Steps Is ends a (all_said says lines) found kept
    pub goes_on : ends kept ≡ false
    pub written : Appends old new (texts_from text 1 (all_said says lines) found)

  -- so it was when each of these reads came, behind an input
  abbrev pub TellsReads : T → Option (List ℕ) → List ℕ → List Read → Type 0
  TellsReads a old input [] = Unit {0}
  TellsReads a old input (read ∷ reads) = ToldBehind a input old read.written × TellsReads a old (input ++ read.moved) reads

  -- what was read of a source, and what its sink had taken when each read came
  pub record HasRead {S : Type 0} (left : S → Option (List ℕ)) (reads_of : S → Option (List Read)) (a : T) (old : Option (List ℕ)) (from_old from_new : S) (input : List ℕ) : Type 0 where
    pub reads : List Read
    pub given : Consumes (left from_old) (left from_new) input
    pub seen : Gains (reads_of from_old) (reads_of from_new) reads
    pub moved : all_moved reads ≡ input
    pub told : TellsReads a old [] reads

-- what is told, by what a line says, what is found of that, its text, whether it is taken, and whether what is kept then ends it; and by what hears of bad lines says of itself: what it heard, and whether it ends it
module _ {Y X T B : Type 0} (says : List ℕ → Result (Option Y) ℕ) (Is : T → Y → X → T → Type 0) (text : ℕ → Y → X → List ℕ) (is_accepted : X → Bool) (ends : T → Bool) (heard : B → Option (List HeardLine)) (is_over : B → Type 0) where
  -- what one line more does, of which this is kept and which says that: to what is kept of what lines say, to the counts, to what hears of bad lines, and to what is written; and whether the next line is told
  abbrev pub TellsOne : Option (List ℕ) → Result (Option Y) ℕ → Bool → T → T → Followed → Followed → B → B → Option (List ℕ) → Option (List ℕ) → Type 0
  TellsOne line (Ok None) goes_on a b s t g h old new =
      (b ≡ a) × (t ≡ record s { lines = s.lines + 1 }) × (h ≡ g) × (new ≡ old) × (goes_on ≡ true)
  TellsOne line (Ok (Some y)) goes_on a b s t g h old new =
      (x : X) × Is a y x b × (t ≡ record s { lines = s.lines + 1; datagrams = s.datagrams + 1; refused = s.refused + refused_one (is_accepted x) })
      × (h ≡ g) × Appends old new (text (s.datagrams + 1) y x) × (goes_on ≡ not (ends b))
  TellsOne line (Err _) goes_on a b s t g h old new =
      (b ≡ a) × (t ≡ one_bad s) × Gains (heard g) (heard h) (record { number = s.lines + 1; line = line } ∷ []) × (new ≡ old) × (is_over h ↔ (goes_on ≡ false))

  -- what was told of lines: the texts of what they say in order, and those that are bad; and the counts
  pub record Tells (lines : List (List ℕ)) (a b : T) (s : Followed) (g h : B) (old new : Option (List ℕ)) : Type 0 where
    pub found : List X
    pub each : Steps Is ends a (all_said says lines) found b
    pub written : Appends old new (texts_from text 1 (all_said says lines) found)
    pub bad : Hears heard is_over g (bad_from says 1 lines) h
    pub counts : s ≡ record { lines = length lines; datagrams = length (all_said says lines); refused = refused_in is_accepted found; bad_lines = length (bad_from says 1 lines) }

  -- the lines of an input so far are told, but for the last, of which this is kept
  pub record Follows (input : List ℕ) (kept : Option (List ℕ)) (a b : T) (s : Followed) (g h : B) (old new : Option (List ℕ)) : Type 0 where
    pub lines : List (List ℕ)
    pub rest : List ℕ
    pub cut : lines_of input ≡ lines ++ rest ∷ []
    pub keeps : kept ≡ kept_of rest
    pub tells : Tells lines a b s g h old new

  -- the first lines of an input are told, and no others
  pub record TellsSome (input : List ℕ) (a b : T) (s : Followed) (g h : B) (old new : Option (List ℕ)) : Type 0 where
    pub lines : List (List ℕ)
    pub others : List (List ℕ)
    pub cut : lines_of input ≡ lines ++ others
    pub tells : Tells lines a b s g h old new

  -- the lines of an input are told up to the first one that ends what is told; that one had not ended before the last piece of the input
  pub record TellsUpTo (before piece : List ℕ) (a b : T) (s : Followed) (g h : B) (old new : Option (List ℕ)) : Type 0 where
    pub front : List (List ℕ)
    pub line : List ℕ
    pub others : List (List ℕ)
    pub cut : lines_of (before ++ piece) ≡ (front ++ line ∷ []) ++ others
    pub stops : Stops ends is_over (line_says says line) b h
    pub tells : Tells (front ++ line ∷ []) a b s g h old new
    pub soon : length (lines_of before) ≤ length front + 1

  -- of what is told of the first lines of an input a front was written
  pub record TellsPart (input : List ℕ) (a b : T) (g h : B) (old new : Option (List ℕ)) : Type 0 where
    pub lines : List (List ℕ)
    pub others : List (List ℕ)
    pub cut : lines_of input ≡ lines ++ others
    pub found : List X
    pub each : Steps Is ends a (all_said says lines) found b
    pub written : AppendsPrefix old new (texts_from text 1 (all_said says lines) found)
    pub bad : Hears heard is_over g (bad_from says 1 lines) h

  module _ {W : Type 0} (taken : W → Option (List ℕ)) (is_stalled : W → Type 0) (stalls failures : W → ℕ) where
    -- how the telling of a line ends, of which this is kept: what is answered is whether the next line is told
    pub record TellsLine (line : Option (List ℕ)) (a b : T) (s t : Followed) (g h : B) (to_old to_new : W) (result : Result Bool RunError) : Type 0 where
      pub told : IfOk result (λ goes_on. TellsOne line (said_of says line) goes_on a b s t g h (taken to_old) (taken to_new))
      -- no write failed, or took no byte
      pub sound : OnOk result ((failures to_new ≡ failures to_old) × (stalls to_new ≡ stalls to_old))
      pub errors : IfErr result (λ e. (e ≡ WriteFault) ⊎ (e ≡ Memory))
      -- one write failed, or took no byte, and of the text of what the line says a front was written
      pub write_fault : result ≡ Err WriteFault → StopsOnce is_stalled stalls failures to_old to_new
          × ((y : Y) × (x : X) × (said_of says line ≡ Ok (Some y)) × Is a y x b × AppendsPrefix (taken to_old) (taken to_new) (text (s.datagrams + 1) y x))
      -- nothing was written
      pub memory : result ≡ Err Memory → to_new ≡ to_old
      pub unheard : OnErr result (h ≡ g)

    -- how the following of a piece of an input ends, behind what came before it
    pub record FollowsPiece (before piece : List ℕ) (kept : Option (List ℕ)) (a b : T) (s : Followed) (g h : B) (old : Option (List ℕ)) (to_old to_new : W) (result : Result Bool RunError) : Type 0 where
      pub follows : result ≡ Ok true → Follows (before ++ piece) kept a b s g h old (taken to_new) × GoesOn ends is_over b h
      -- the lines behind the one that ends it are not told
      pub ended : result ≡ Ok false → TellsUpTo before piece a b s g h old (taken to_new)
      pub memory : result ≡ Err Memory → (m : T) × (t : Followed) × TellsSome (before ++ piece) a m t g h old (taken to_new) × GoesOn ends is_over m h
      pub write_fault : result ≡ Err WriteFault → TellsPart (before ++ piece) a b g h old (taken to_new) × (is_over h → ⊥)
      -- no write failed, or took no byte
      pub sound : OnOk result ((failures to_new ≡ failures to_old) × (stalls to_new ≡ stalls to_old))
      pub errors : IfErr result (λ e. (e ≡ WriteFault) ⊎ (e ≡ Memory))
      -- one write failed, or took no byte
      pub once : result ≡ Err WriteFault → StopsOnce is_stalled stalls failures to_old to_new

  module _ {S W : Type 0} (left : S → Option (List ℕ)) (is_ended : S → Type 0) (failed_reads : S → ℕ) (reads_of : S → Option (List Read))
      (taken : W → Option (List ℕ)) (is_stalled : W → Type 0) (stalls failed_writes : W → ℕ) where
    -- how the following of a recording ends, by what its source, its sink and what hears of bad lines say of themselves
    pub record FollowsAll (a b : T) (from_old from_new : S) (to_old to_new : W) (g h : B) (result : Result Followed RunError) : Type 0 where
      pub input : List ℕ
      -- each text was written before the next read
      pub read : HasRead says Is text ends left reads_of a (taken to_old) from_old from_new input
      -- the source came to its end, and all lines are told; or they are told up to the first one that ends it, and nothing was read behind the end of that line
      pub told : IfOk result (λ s.
          (IsRead left is_ended failed_reads from_old from_new × Tells (lines_of input) a b s g h (taken to_old) (taken to_new) × GoesOn ends is_over b h)
          ⊎ ((earlier : List Read) × (last : Read) × (read.reads ≡ earlier ++ last ∷ []) × TellsUpTo (all_moved earlier) last.moved a b s g h (taken to_old) (taken to_new)))
      -- no read failed; no write failed, or took no byte
      pub sound : OnOk result ((failed_reads from_new ≡ failed_reads from_old) × (failed_writes to_new ≡ failed_writes to_old) × (stalls to_new ≡ stalls to_old))
      pub errors : IfErr result (λ e. (e ≡ ReadFault) ⊎ (e ≡ WriteFault) ⊎ (e ≡ Memory))
      -- one read failed, or the input is too long to be counted; the whole lines of what was read are told
      pub read_fault : result ≡ Err ReadFault → ((failed_reads from_new ≡ one_more (failed_reads from_old)) ⊎ ((failed_reads from_new ≡ failed_reads from_old) × ConsumesMoreThan (2 ^ 64 - 65_537) (left from_old) (left from_new)))
          × ((kept : Option (List ℕ)) × (s : Followed) × Follows input kept a b s g h (taken to_old) (taken to_new) × GoesOn ends is_over b h)
      -- no read failed, one write failed or took no byte, and of what is told a front was written
      pub write_fault : result ≡ Err WriteFault → (failed_reads from_new ≡ failed_reads from_old) × StopsOnce is_stalled stalls failed_writes to_old to_new
          × TellsPart input a b g h (taken to_old) (taken to_new) × (is_over h → ⊥)
      -- no read failed, and the texts of the first lines are written whole
      pub memory : result ≡ Err Memory → (failed_reads from_new ≡ failed_reads from_old)
          × ((m : T) × (s : Followed) × TellsSome input a m s g h (taken to_old) (taken to_new) × GoesOn ends is_over m h)

-- over a recording that the other commands take, what is told of its lines is what they print of its datagrams, and none of them is bad
module _ {X B : Type 0} (Is : List ℕ → X → Type 0) (text : ℕ → List ℕ → X → List ℕ) (is_accepted : X → Bool) (heard : B → Option (List HeardLine)) (is_over : B → Type 0) where
  abbrev pub TellsAsPrinted : Type 0
  TellsAsPrinted = (input : List ℕ) (ds : List (List ℕ)) (s : Followed) (g h : B) (old new : Option (List ℕ)) → length input ≤ LONGEST_INPUT → datagrams input ≡ Ok ds
      → Tells (line_at 0) (alone Is) text is_accepted never heard is_over (lines_of input) tt tt s g h old new
      → (printed : List ℕ) × (verdict : Verdict) × Prints Is text is_accepted ds printed verdict × Appends old new printed × (h ≡ g) × ((verdict ≡ Clean) ↔ (s.refused ≡ 0)) × (s.bad_lines ≡ 0)

-- ---- for private clauses: what a command (`PerLine`) answers of a line

module _ {Y X T : Type 0} (Is : T → Y → X → T → Type 0) (text : Y → X → List ℕ) (is_accepted : X → Bool) (ends : T → Bool) (said : Result (Option Y) ℕ) (a b : T) (old new : List ℕ) where
  -- a line that says this has its text written; or it says nothing, and nothing changed
  abbrev pub TellsSaid : Option Told → Type 0
  TellsSaid None = (said ≡ Ok None) × (b ≡ a) × (new ≡ old)
  TellsSaid (Some told) = (y : Y) × (x : X) × (said ≡ Ok (Some y)) × Is a y x b × (new ≡ old ++ text y x) × (told.taken ≡ is_accepted x) × (told.goes_on ≡ not (ends b))

  -- or it is bad, and nothing changed; or memory ran out
  abbrev pub TellsSo : Result (Option Told) RunError → Type 0
  TellsSo (Ok told) = TellsSaid told
  TellsSo (Err (BadLine number)) = (said ≡ Err number) × (b ≡ a) × (new ≡ old)
  TellsSo (Err ReadFault) = ⊥
  TellsSo (Err WriteFault) = ⊥
  TellsSo (Err Memory) = Unit {0}
