-- The head that breaks a rule, which a fault is about.
use Rattle.std.specs.Prelude.{◌≡◌, ◌%◌, ℕ, nat_lt, if◌then◌else◌, List, length, Option, Some, None}
use Rattle.nl_attr.specs.declared.order.Order.{Order}
use Rattle.nl_attr.specs.declared.fault.Fault.{Fault}
use Rattle.nl_attr.specs.declared.fault.Reason.{Reason}
use Rattle.nl_attr.specs.Fixed.{NUMBERS}
use Rattle.nl_attr.specs.declared.broken.HeadKind.{HeadKind}
use Rattle.nl_attr.specs.declared.broken.HeadKind.TheVariants.{Attribute, NextHop}
use Rattle.nl_attr.specs.declared.broken.BrokenHead.{BrokenHead}
use Rattle.nl_attr.specs.Shape.{Shape}
use Rattle.nl_attr.specs.Numbers.{kind_of, len_of}
use Rattle.nl_attr.specs.Heads.{Sort, attr_head, hop_head, Head, HeadAt, least, broken}

-- the length in the first w bytes of a head of h bytes, where the head is not cut
abbrev pub length_said : Order → ℕ → ℕ → List ℕ → Option ℕ
length_said o h w left = if nat_lt (length left) h then None else Some (len_of o w left)

-- the type of an attribute without its two flag bits, where the head is not cut
abbrev pub number_said : Order → Sort → List ℕ → Option ℕ
number_said o attr_head left = if nat_lt (length left) 4 then None else Some (kind_of o left % NUMBERS)
number_said o hop_head left = None

-- what a caller is answered for the sort of a head
abbrev pub head_kind : Sort → HeadKind
head_kind attr_head = Attribute
head_kind hop_head = NextHop

-- of a head that breaks this rule: its place and the rule, its kind, its level, its type, its length, and the bytes that are left
abbrev pub facts_of : Order → Reason → Head → BrokenHead
facts_of o r h = record {
  fault = record { place = h.place; reason = r };
  kind = head_kind h.sort;
  level = h.level;
  number = number_said o h.sort h.left;
  len = length_said o (least h.sort) 2 h.left;
  left = length h.left;
}

-- a head of the region that begins at start breaks this rule, and these are its facts
abbrev pub IsBrokenHead : Shape → Head → BrokenHead → Type 0
IsBrokenHead S start b = (h : Head) × HeadAt S start h × (broken S h ≡ Some b.fault.reason) × (b ≡ facts_of S.order b.fault.reason h)

-- the fault that a head is about, where there is one
abbrev pub fault_in : Option BrokenHead → Option Fault
fault_in None = None
fault_in (Some b) = Some b.fault
