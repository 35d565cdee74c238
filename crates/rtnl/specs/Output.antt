-- What is said of datagrams while their recording is read. For private clauses.
use Rattle.std.specs.Prelude.{◌≡◌, ℕ, List, [], ◌∷◌, ◌++◌, Bool, Some, None, Result, Ok, Err, length}
use Rattle.rtnl.specs.Lines.{datagrams_from, lines_of}
use Rattle.rtnl.specs.Parts.{joined}
use Rattle.rtnl.specs.Runs.{Prints}
use Rattle.rtnl.specs.declared.runs.output.Output.{Output}

module _ {X : Type 0} (Is : List ℕ → X → Type 0) (text : ℕ → List ℕ → X → List ℕ) (is_accepted : X → Bool) where
  -- the datagrams of lines are printed; or their first bad line is known
  abbrev pub IsSaid : Result (List (List ℕ)) ℕ → Output → Type 0
  IsSaid (Ok ds) s = (s.bad_line ≡ None) × (s.datagrams ≡ length ds) × Prints Is text is_accepted ds (joined s.parts.items ++ s.part.items) s.verdict
  IsSaid (Err number) s = s.bad_line ≡ Some number

  -- an input is said but for its last line, which is kept
  abbrev pub SaysInput : List ℕ → Output → Type 0
  SaysInput input s = (done : List (List ℕ)) × (lines_of input ≡ done ++ s.unfinished.items ∷ []) × (s.lines ≡ length done) × IsSaid (datagrams_from 1 done) s
