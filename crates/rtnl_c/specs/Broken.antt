-- The answer to C of the header that breaks a rule.
use Rattle.std.specs.Prelude.{◌<◌, ◌≤◌, ℕ, List, length, Bool, true, false, Option, Some, None, Result, Ok, Err}
use Rattle.nl_attr.specs.Fixed as fixed
use Rattle.nl_attr.specs.Codes.{fault_code}
use Rattle.nl_attr.specs.declared.broken.BrokenHead.{BrokenHead}
use Rattle.nl_attr.specs.declared.broken.HeadKind.{HeadKind}
use Rattle.nl_attr.specs.declared.broken.HeadKind.TheVariants.{Message, Attribute, NextHop}
use Rattle.nl_frame.specs.declared.scanning.ScanError.{ScanError}
use Rattle.nl_frame.specs.declared.scanning.ScanError.TheVariants.{TooLarge, Layout as Fails}
use Rattle.nl_frame.specs.Broken.{IsBrokenHead}
use Rattle.nl_frame.specs.Heads.{IsFirstFault, whole}
use Rattle.nl_frame.specs.Layout.{Layout}
use Rattle.nl_frame.specs.Limits.{Bounds}
use Rattle.nl_frame.specs.Message.{MessageVal}
use Rattle.rtnl_c.specs.Codes.{too_large}
use Rattle.rtnl_c.specs.declared.broken.Broken.{Broken}

-- the sort of a header by its kind: that of bytes for any attribute
abbrev pub sort_of : HeadKind → ℕ
sort_of Message = fixed.SORT_MESSAGE
sort_of Attribute = fixed.SORT_BYTES
sort_of NextHop = fixed.SORT_NEXT_HOP

-- a number that a header says, or 0
abbrev pub or_zero : Option ℕ → ℕ
or_zero None = 0
or_zero (Some n) = n

-- whether a header says a length: it is whole
abbrev pub is_said : Option ℕ → Bool
is_said None = false
is_said (Some n) = true

-- there is no header that breaks a rule, for this reason
abbrev pub unbroken : ℕ → Broken
unbroken code = record { place = 0; len = 0; left = 0; number = 0; level = 0; sort = 0; whole = false; code = code }

-- a header that breaks a rule
abbrev pub broken_of : BrokenHead → Broken
broken_of h = record {
  place = h.fault.place;
  len = or_zero h.len;
  left = h.left;
  number = or_zero h.number;
  level = h.level;
  sort = sort_of h.kind;
  whole = is_said h.len;
  code = fault_code h.fault;
}

-- what a scan answered
abbrev pub answered : Result (Unit {0}) ScanError → Broken
answered (Ok u) = unbroken 0
answered (Err TooLarge) = unbroken too_large
answered (Err (Fails h)) = broken_of h

-- what C is answered: the datagram is too large; or it has a layout; or this header breaks the rule of its first fault
pub data Breaks (b : Bounds) (d : List ℕ) : Broken → Type 0 where
  large : b.datagram < length d → Breaks b d (unbroken too_large)
  accepted : length d ≤ b.datagram → (ms : List MessageVal) → Layout b.shape ms d → Breaks b d (unbroken 0)
  faulty : length d ≤ b.datagram → (h : BrokenHead) → IsFirstFault b.shape (whole d) h.fault.place h.fault.reason → IsBrokenHead b.shape (whole d) h
      → Breaks b d (broken_of h)
