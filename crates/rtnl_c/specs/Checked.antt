-- The answer to C of a check.
use Rattle.std.specs.Prelude.{ℕ, List, false, Ok, Err}
use Rattle.nl_frame.specs.declared.reading.ReadError.{ReadError}
use Rattle.nl_frame.specs.declared.reading.ReadError.TheVariants.{TooLarge, Layout, Memory}
use Rattle.nl_frame.specs.Limits.{Bounds}
use Rattle.nl_frame.specs.Outcomes.{read_code}
use Rattle.rtnl.specs.Checked.{Finding, Finds}
use Rattle.rtnl_c.specs.declared.check.Checked.{Checked}

-- the place of a refusal
abbrev pub place_of : ReadError → ℕ
place_of TooLarge = 0
place_of (Layout f) = f.place
place_of Memory = 0

-- the answer to C of a finding
abbrev pub found : Finding → Checked
found (Ok canonical) = record { place = 0; code = 0; canonical = canonical }
found (Err e) = record { place = place_of e; code = read_code e; canonical = false }

-- not checked, for this reason
abbrev pub unchecked : ℕ → Checked
unchecked code = record { place = 0; code = code; canonical = false }

-- what a check finds of the datagram, or that memory ran out
pub data Checks (b : Bounds) (d : List ℕ) : Checked → Type 0 where
  finds : (f : Finding) → Finds b d f → Checks b d (found f)
  no_memory : Checks b d (unchecked 13)
