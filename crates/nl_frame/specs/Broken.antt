-- The head of a datagram that breaks a rule, which a fault is about.
use Rattle.std.specs.Prelude.{◌≡◌, ℕ, nat_lt, if◌then◌else◌, List, length, Option, Some, None}
use Rattle.nl_attr.specs.declared.order.Order.{Order}
use Rattle.nl_attr.specs.declared.fault.Reason.{Reason}
use Rattle.nl_attr.specs.declared.broken.HeadKind.TheVariants.{Message}
use Rattle.nl_attr.specs.declared.broken.BrokenHead.{BrokenHead}
use Rattle.nl_attr.specs.Shape.{Shape}
use Rattle.nl_attr.specs.Heads.{Head}
use Rattle.nl_attr.specs.Broken.{length_said}
use Rattle.nl_attr.specs.Broken as region
use Rattle.nl_frame.specs.Header.{header_of}
use Rattle.nl_frame.specs.Heads.{AnyHead, header, inner, Rest, HeadAt, broken}

-- the type of a message, where its header is not cut
abbrev pub kind_said : Order → List ℕ → Option ℕ
kind_said o left = if nat_lt (length left) 16 then None else Some (header_of o left).kind

-- of the message at the front, whose header breaks this rule: its place and the rule, its type, its length, and the bytes that are left
abbrev pub message_facts : Order → Reason → Rest → BrokenHead
message_facts o why r = record {
  fault = record { place = r.place; reason = why };
  kind = Message;
  level = 0;
  number = kind_said o r.left;
  len = length_said o 16 4 r.left;
  left = length r.left;
}

-- of a head that breaks this rule
abbrev pub facts_of : Order → Reason → AnyHead → BrokenHead
facts_of o why (header r) = message_facts o why r
facts_of o why (inner h) = region.facts_of o why h

module _ (S : Shape) where
  -- a head of the bytes from s on breaks this rule, and these are its facts
  abbrev pub IsBrokenHead : Rest → BrokenHead → Type 0
  IsBrokenHead s b = (h : AnyHead) × HeadAt S s h × (broken S h ≡ Some b.fault.reason) × (b ≡ facts_of S.order b.fault.reason h)

  -- a head does of the region of a message's attributes, where there is one
  abbrev pub IsBrokenIn : Option Head → BrokenHead → Type 0
  IsBrokenIn None b = ⊥
  IsBrokenIn (Some h) b = region.IsBrokenHead S h b
