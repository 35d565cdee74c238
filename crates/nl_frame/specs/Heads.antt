-- The headers of a datagram: where they stand, which rule each breaks, and what reading visits.
use Rattle.std.specs.Prelude.{◌+◌, ℕ, List, drop, Option, Some, None}
use Rattle.nl_attr.specs.declared.fault.Reason.{Reason}
use Rattle.nl_attr.specs.Shape.{Shape}
use Rattle.nl_attr.specs.Grammar.{Grammar}
use Rattle.nl_attr.specs.Grammar as grammar
use Rattle.nl_attr.specs.Heads.{Head, start_of}
use Rattle.nl_attr.specs.Heads as region
use Rattle.nl_route.specs.Families.{head_size, context_of}
use Rattle.nl_frame.specs.declared.form.Form.{Form}
use Rattle.nl_frame.specs.declared.form.Form.TheVariants as form
use Rattle.nl_frame.specs.Front.{form_at, span_at, payload_at, broken_frame, broken_message}

-- the bytes of a datagram from an offset on
pub record Rest : Type 0 where
  pub place : ℕ
  pub left : List ℕ

-- the whole datagram
abbrev pub whole : List ℕ → Rest
whole d = record { place = 0; left = d }

-- the first attribute header in a payload at an offset, where the body is a family's
abbrev pub region_in : Form → ℕ → List ℕ → Option Head
region_in (form.Object g) place payload = Some (start_of (context_of g) 0 (place + head_size g) (drop (head_size g) payload))
region_in f place payload = None

-- a header: of a message, with the bytes from there on; or of an attribute or a next hop
pub data AnyHead : Type 0 where
  header : Rest → AnyHead
  inner : Head → AnyHead

-- the offset of a header, in bytes from the front of the datagram
abbrev pub place_of : AnyHead → ℕ
place_of (header r) = r.place
place_of (inner h) = h.place

-- the bytes from there to the end of the datagram, or of its region
abbrev pub left_of : AnyHead → List ℕ
left_of (header r) = r.left
left_of (inner h) = h.left

-- the header of an attribute or a next hop, where there is one
abbrev pub some_inner : Option Head → Option AnyHead
some_inner None = None
some_inner (Some h) = Some (inner h)

module _ (S : Shape) where
  -- the bytes behind a message and its padding
  abbrev pub behind : Rest → Rest
  behind r = record { place = r.place + span_at S.order r.left; left = drop (span_at S.order r.left) r.left }

  -- the region of a message's attributes, where its body is a family's
  abbrev pub region_of : Rest → Option Head
  region_of r = region_in (form_at S.order r.left) (r.place + 16) (payload_at S.order r.left)

  -- the first rule that a header breaks
  abbrev pub broken : AnyHead → Option Reason
  broken (header r) = broken_message S.order r.left
  broken (inner h) = region.broken S h

  -- the rule of lengths that it breaks; ShortBody of a message isn't one
  abbrev pub unsound : AnyHead → Option Reason
  unsound (header r) = broken_frame S.order r.left
  unsound (inner h) = region.unsound S h

  -- the rule for which a scan does not count it; for a message any
  abbrev pub uncounted : AnyHead → Option Reason
  uncounted (header r) = broken_message S.order r.left
  uncounted (inner h) = region.unsound S h

  -- how many bytes a walk visits with it; a message's header counts none
  abbrev pub visited : AnyHead → ℕ
  visited (header r) = 0
  visited (inner h) = region.span_at S h

  -- the header of the next message, attribute or next hop
  abbrev pub follower : AnyHead → AnyHead
  follower (header r) = header (behind r)
  follower (inner h) = inner (region.follower S h)

  -- the first header in a message's body, or nested in an attribute or a next hop
  abbrev pub inner_of : AnyHead → Option AnyHead
  inner_of (header r) = some_inner (region_of r)
  inner_of (inner h) = some_inner (region.inner_of S h)

  -- the grammar of datagrams: headers of messages, and of items in those that break no rule
  unfoldable pub heads : Grammar AnyHead
  heads = record { place = place_of; left = left_of; broken = broken; unsound = unsound; uncounted = uncounted; visited = visited; follower = follower; inner = inner_of }

  -- the headers that stand in the bytes from r on
  abbrev pub HeadAt : Rest → AnyHead → Type 0
  HeadAt r = grammar.HeadAt heads (header r)

  -- a header at this offset breaks this rule, and none at an earlier offset breaks any
  abbrev pub FaultAt : Rest → ℕ → Reason → Type 0
  FaultAt r = grammar.FaultAt heads (header r)

  -- this is the first error: there is no other FaultAt at an earlier offset
  abbrev pub IsFirstFault : Rest → ℕ → Reason → Type 0
  IsFirstFault r = grammar.IsFirstFault heads (header r)

  -- a walk visits so many bytes of attributes and next hops, up to an offset
  abbrev pub Visits : Rest → ℕ → ℕ → Type 0
  Visits r = grammar.Visits heads (header r)
