-- A builder without the open headers around the innermost, and what each of its calls does.
use Rattle.std.specs.Prelude.{◌≡◌, ◌≤◌, ℕ, List, ◌∷◌, length, take, drop, Option, Some, None, Result, Ok, Err, MatchResult}
use Rattle.nl_frame.specs.declared.building.refusal.BuildError.{BuildError}
use Rattle.nl_frame.specs.declared.building.OpenHead.{OpenHead}
use Rattle.nl_frame.specs.declared.building.top.BuilderTop.{BuilderTop}
use Rattle.nl_frame.specs.Building.{top}
use Rattle.nl_frame.specs.Parts.{Parts}

-- the builder's parts, with these as its open headers
abbrev pub parts_with : BuilderTop → List OpenHead → Parts
parts_with t hs = record { bounds = t.limits; len = t.len; heads = hs; refusal = t.refusal }

-- the parts without the open headers around the innermost
abbrev pub top_of : Parts → BuilderTop
top_of p = record { limits = p.bounds; len = p.len; head = top p.heads; refusal = p.refusal }

-- the accepted bytes are within the slice and the datagram limit
abbrev pub AreWithin : BuilderTop → List ℕ → Type 0
AreWithin t out = (t.len ≤ length out) × (t.len ≤ t.limits.datagram)

-- the open headers after a call that closes the innermost, or fails with this error
abbrev pub left : Option BuildError → List OpenHead → List OpenHead
left None hs = drop 1 hs
left (Some e) hs = hs

-- the parts after such a call
abbrev pub left_with : BuilderTop → Option BuildError → List OpenHead → Parts
left_with t r hs = record { bounds = t.limits; len = t.len; heads = left r hs; refusal = r }

-- the open headers after a call that opens one more, or fails
abbrev pub heads_after : Result OpenHead BuildError → List OpenHead → List OpenHead
heads_after (Ok h) hs = h ∷ hs
heads_after (Err e) hs = hs

-- the error of such a call, if any
abbrev pub refusal_of : Result OpenHead BuildError → Option BuildError
refusal_of (Ok h) = None
refusal_of (Err e) = Some e

-- a header was appended to the accepted bytes, and is the innermost now
pub record HasOpened (t u : BuilderTop) (out new : List ℕ) (h : OpenHead) : Type 0 where
  pub rest : u ≡ record t { len = u.len; head = Some h }
  pub none : t.refusal ≡ None
  pub grows : t.len ≤ u.len
  pub before : take t.len new ≡ take t.len out
  pub behind : drop u.len new ≡ drop u.len out

-- a call opens a header; or it keeps its error, and changes nothing else
abbrev pub Opens : BuilderTop → BuilderTop → List ℕ → List ℕ → Result OpenHead BuildError → Type 0
Opens t u out new r = MatchResult r (HasOpened t u out new) (λ e. (u ≡ record t { refusal = Some e }) × (new ≡ out))
