-- A run over the datagrams of an input: what is found of each, what is printed of it, and the verdict.
use Rattle.std.specs.Prelude.{◌≡◌, ◌≢◌, ◌+◌, ◌⊎◌, ℕ, List, [], ◌∷◌, ◌++◌, Bool, true, false, Option, Result, Ok, Err, OnOk, OnErr, IfOk, IfErr}
use Rattle.std.specs.Io.KnownBytes.{Appends, Consumes}
use Rattle.rtnl.specs.Lines.{datagrams}
use Rattle.rtnl.specs.Streams.{AppendsPrefix, ConsumesAtMost, ConsumesMoreThan, IsRead, StopsOnce, one_more}
use Rattle.rtnl.specs.declared.error.RunError.{RunError}
use Rattle.rtnl.specs.declared.error.RunError.TheVariants.{BadLine, ReadFault, WriteFault, Memory}
use Rattle.rtnl.specs.declared.verdict.Verdict.{Verdict}
use Rattle.rtnl.specs.declared.verdict.Verdict.TheVariants.{Clean, NotClean}

-- the longest input that is read, in bytes: this project's own limit
abbrev pub LONGEST_INPUT : ℕ
LONGEST_INPUT = 16_777_216

-- what is found of datagrams, one finding for each
abbrev pub EachIs : {X : Type 0} → (List ℕ → X → Type 0) → List (List ℕ) → List X → Type 0
EachIs Is [] [] = Unit {0}
EachIs Is [] (_ ∷ _) = ⊥
EachIs Is (_ ∷ _) [] = ⊥
EachIs Is (d ∷ ds) (x ∷ found) = Is d x × EachIs Is ds found

-- the texts of datagrams, or of whatever has texts, from this number on
unfoldable pub texts_from : {Y X : Type 0} → (ℕ → Y → X → List ℕ) → ℕ → List Y → List X → List ℕ
texts_from text number [] _ = []
texts_from text number (y ∷ ys) [] = []
texts_from text number (y ∷ ys) (x ∷ found) = text number y x ++ texts_from text (number + 1) ys found

-- a verdict, and a datagram more
abbrev pub with_one : Verdict → Bool → Verdict
with_one verdict true = verdict
with_one verdict false = NotClean

-- clean exactly where each datagram is taken, and the verdict before was clean
abbrev pub verdict_from : {X : Type 0} → (X → Bool) → Verdict → List X → Verdict
verdict_from is_accepted verdict [] = verdict
verdict_from is_accepted verdict (x ∷ found) = verdict_from is_accepted (with_one verdict (is_accepted x)) found

-- the text of datagrams, and the verdict on them
abbrev pub Prints : {X : Type 0} → (List ℕ → X → Type 0) → (ℕ → List ℕ → X → List ℕ) → (X → Bool) → List (List ℕ) → List ℕ → Verdict → Type 0
Prints {X} Is text is_accepted ds printed verdict =
    (found : List X) × EachIs Is ds found × (printed ≡ texts_from text 1 ds found) × (verdict ≡ verdict_from is_accepted Clean found)

-- the bytes that were consumed are an input of whose datagrams this is what was appended
abbrev pub OfInput : (List (List ℕ) → List ℕ → Verdict → Type 0) → Option (List ℕ) → Option (List ℕ) → Option (List ℕ) → Option (List ℕ) → Verdict → Type 0
OfInput Of from_old from_new to_old to_new verdict =
    (input : List ℕ) × (ds : List (List ℕ)) × (text : List ℕ) × Consumes from_old from_new input × (datagrams input ≡ Ok ds)
    × Of ds text verdict × Appends to_old to_new text

-- the same, where only a front of it was appended
abbrev pub FrontOfInput : (List (List ℕ) → List ℕ → Verdict → Type 0) → Option (List ℕ) → Option (List ℕ) → Option (List ℕ) → Option (List ℕ) → Type 0
FrontOfInput Of from_old from_new to_old to_new =
    (input : List ℕ) × (ds : List (List ℕ)) × (text : List ℕ) × (verdict : Verdict) × Consumes from_old from_new input × (datagrams input ≡ Ok ds)
    × Of ds text verdict × AppendsPrefix to_old to_new text

-- the bytes that were consumed are an input with this bad line
abbrev pub HasBadLine : Option (List ℕ) → Option (List ℕ) → ℕ → Type 0
HasBadLine from_old from_new number = (input : List ℕ) × Consumes from_old from_new input × (datagrams input ≡ Err number)

-- how a run over a recording ends, by what its source and its sink say of themselves (the bytes left, the end, the failed calls; the bytes taken, a call that
-- took none, those calls, the failed calls), by what is said of datagrams, and by source, sink and answer
pub record Runs {S W : Type 0} (left : S → Option (List ℕ)) (is_ended : S → Type 0) (failed_reads : S → ℕ)
    (taken : W → Option (List ℕ)) (is_stalled : W → Type 0) (stalls : W → ℕ) (failed_writes : W → ℕ)
    (Says : List (List ℕ) → List ℕ → Verdict → Type 0) (from_old from_new : S) (to_old to_new : W) (result : Result Verdict RunError) : Type 0 where
  -- what was written is what is said of the datagrams of what was read, and the verdict is theirs
  pub said : IfOk result (OfInput Says (left from_old) (left from_new) (taken to_old) (taken to_new))
  -- the source came to its end, and no read failed
  pub ended : OnOk result (IsRead left is_ended failed_reads from_old from_new)
  -- no write failed, or took no byte
  pub sound : OnOk result ((failed_writes to_new ≡ failed_writes to_old) × (stalls to_new ≡ stalls to_old))
  -- the source came to its end, no read failed, and this line of its input is the first that is bad
  pub bad_line : (number : ℕ) → result ≡ Err (BadLine number)
      → IsRead left is_ended failed_reads from_old from_new × HasBadLine (left from_old) (left from_new) number
  -- one read failed; or none did, and the input is too long
  pub read_fault : result ≡ Err ReadFault → (failed_reads from_new ≡ one_more (failed_reads from_old))
      ⊎ ((failed_reads from_new ≡ failed_reads from_old) × ConsumesMoreThan LONGEST_INPUT (left from_old) (left from_new))
  -- the source came to its end, no read failed, and one write failed or took no byte
  pub write_fault : result ≡ Err WriteFault → IsRead left is_ended failed_reads from_old from_new × StopsOnce is_stalled stalls failed_writes to_old to_new
  -- no read failed
  pub memory : result ≡ Err Memory → failed_reads from_new ≡ failed_reads from_old
  -- nothing was written, but for a write fault
  pub nothing : OnErr result (result ≢ Err WriteFault → to_new ≡ to_old)
  -- and then a front of the text
  pub part : result ≡ Err WriteFault → FrontOfInput Says (left from_old) (left from_new) (taken to_old) (taken to_new)
  -- at most the longest input and one byte more are taken
  pub bounded : ConsumesAtMost (LONGEST_INPUT + 1) (left from_old) (left from_new)

-- how a run that reads nothing ends, by what its sink says of itself, its whole text, and sink and answer
pub record Writes {W : Type 0} (taken : W → Option (List ℕ)) (is_stalled : W → Type 0) (stalls : W → ℕ) (failed_writes : W → ℕ)
    {A : Type 0} (text : List ℕ) (to_old to_new : W) (result : Result A RunError) : Type 0 where
  -- the text was written
  pub written : OnOk result (Appends (taken to_old) (taken to_new) text)
  -- no write failed, or took no byte
  pub sound : OnOk result ((failed_writes to_new ≡ failed_writes to_old) × (stalls to_new ≡ stalls to_old))
  -- it fails for the sink or for memory
  pub errors : IfErr result (λ e. (e ≡ WriteFault) ⊎ (e ≡ Memory))
  -- one write failed, or took no byte
  pub write_fault : result ≡ Err WriteFault → StopsOnce is_stalled stalls failed_writes to_old to_new
  -- nothing was written, but for a write fault
  pub nothing : OnErr result (result ≢ Err WriteFault → to_new ≡ to_old)
  -- and then a front of the text
  pub part : result ≡ Err WriteFault → AppendsPrefix (taken to_old) (taken to_new) text
