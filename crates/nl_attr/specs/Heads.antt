-- The headers of attributes and of next hops: their fields, the rules that each must keep, and
-- which stand where in a region.
use Rattle.std.specs.Prelude.{◌≡◌, ◌≤◌, ◌+◌, ◌%◌, ℕ, nat_lt, if◌then◌else◌, List, drop, Option, Some, None}
use Rattle.nl_attr.specs.Fixed.{LONGEST_CONTAINER, NUMBERS}
use Rattle.nl_attr.specs.declared.fault.Reason.{Reason}
use Rattle.nl_attr.specs.declared.fault.Reason.TheVariants.{TooLong, TooDeep}
use Rattle.nl_attr.specs.declared.tree.Ctx.{Ctx}
use Rattle.nl_attr.specs.declared.tree.Ctx.TheVariants.{Route}
use Rattle.nl_attr.specs.declared.tree.Content.{Content}
use Rattle.nl_attr.specs.declared.tree.Content.TheVariants as content
use Rattle.nl_attr.specs.declared.order.Order.{Order}
use Rattle.nl_attr.specs.Shape.{Shape}
use Rattle.nl_attr.specs.Grammar.{Grammar}
use Rattle.nl_attr.specs.Grammar as grammar
use Rattle.nl_attr.specs.Numbers.{len_of, kind_of, span_of}
use Rattle.nl_attr.specs.Walk.{flags_of, broken_length, payload_of}
use Rattle.nl_attr.specs.Tree.{holds_of}

-- the kind of a header: that of an attribute, rtattr of 4 bytes, or of a next hop, rtnexthop of 8
pub data Sort : Type 0 where
  attr_head : Sort
  hop_head : Sort

-- a header: its offset, its kind, its context, its nesting level, and the bytes from there to the
-- end of its region
pub record Head : Type 0 where
  pub place : ℕ
  pub sort : Sort
  pub ctx : Ctx
  pub level : ℕ
  pub left : List ℕ

-- the size of a header of this kind, in bytes
abbrev pub least : Sort → ℕ
least attr_head = 4
least hop_head = 8

-- how many levels a nested attribute opens
abbrev pub opens : Content → ℕ
opens content.Bytes = 0
opens (content.List c) = 1
opens content.Hops = 2

-- a region of such headers may stand at this level, within this depth limit: the attributes of a
-- next hop lie one level further down
abbrev pub MayStand : ℕ → Sort → ℕ → Type 0
MayStand depth attr_head l = l ≤ depth
MayStand depth hop_head l = l + 1 ≤ depth

-- what the attribute at the front holds, by its context, its type and its flags
abbrev pub content_at : Order → Ctx → List ℕ → Content
content_at o ctx left = holds_of ctx (kind_of o left % NUMBERS) (flags_of (kind_of o left))

-- the first of two rules, where it is broken; else the second
abbrev pub or_else : Option Reason → Option Reason → Option Reason
or_else None s = s
or_else (Some r) s = Some r

-- the first header in a payload, where the attribute holds attributes or next hops
abbrev pub inner_in : Content → ℕ → ℕ → List ℕ → Option Head
inner_in content.Bytes place l payload = None
inner_in (content.List c) place l payload = Some (record { place = place; sort = attr_head; ctx = c; level = l; left = payload })
inner_in content.Hops place l payload = Some (record { place = place; sort = hop_head; ctx = Route; level = l; left = payload })

-- the first header of a region of attributes
abbrev pub start_of : Ctx → ℕ → ℕ → List ℕ → Head
start_of ctx l place left = record { place = place; sort = attr_head; ctx = ctx; level = l; left = left }

module _ (S : Shape) where
  -- the rules of nested attributes, in their order
  abbrev pub broken_container : ℕ → Content → ℕ → Option Reason
  broken_container l content.Bytes len = None
  broken_container l (content.List c) len = if nat_lt LONGEST_CONTAINER len then Some TooLong else (if nat_lt S.depth (l + 1) then Some TooDeep else None)
  broken_container l content.Hops len = if nat_lt LONGEST_CONTAINER len then Some TooLong else (if nat_lt S.depth (l + 2) then Some TooDeep else None)

  -- the first rule that the header at the front of these bytes breaks
  abbrev pub broken_in : Ctx → ℕ → Sort → List ℕ → Option Reason
  broken_in ctx l hop_head left = broken_length S.order 8 2 left
  broken_in ctx l attr_head left = or_else (broken_length S.order 4 2 left) (broken_container l (content_at S.order ctx left) (len_of S.order 2 left))

  -- the first rule that a header breaks
  abbrev pub broken : Head → Option Reason
  broken h = broken_in h.ctx h.level h.sort h.left

  -- how many bytes the attribute or next hop of a header occupies, with its padding as far as
  -- present
  abbrev pub span_at : Head → ℕ
  span_at h = span_of S.order 2 h.left

  -- the rule of lengths that a header breaks: Cut or BadLength
  abbrev pub unsound : Head → Option Reason
  unsound h = broken_length S.order (least h.sort) 2 h.left

  -- the header is whole, and its length field is valid
  abbrev pub IsSound : Head → Type 0
  IsSound h = unsound h ≡ None

  -- the header behind the item of this one, and behind its padding
  abbrev pub follower : Head → Head
  follower h = record h { place = h.place + span_at h; left = drop (span_at h) h.left }

  -- the first header nested in the item at the front, where it holds headers
  abbrev pub inner_at : Sort → ℕ → Ctx → ℕ → List ℕ → Option Head
  inner_at attr_head place ctx l left = inner_in (content_at S.order ctx left) (place + 4) (l + 1) (payload_of S.order 4 2 left)
  inner_at hop_head place ctx l left = inner_in (content.List Route) (place + 8) (l + 1) (payload_of S.order 8 2 left)

  -- the first header nested in the item of this one, where it holds headers
  abbrev pub inner_of : Head → Option Head
  inner_of h = inner_at h.sort h.place h.ctx h.level h.left

  -- The grammar of attributes and next hops. A walk counts each header whose length is valid, and
  -- can go on behind it.
  unfoldable pub heads : Grammar Head
  heads = record {
    place = λ h. h.place;
    left = λ h. h.left;
    broken = broken;
    unsound = unsound;
    uncounted = unsound;
    visited = span_at;
    follower = follower;
    inner = inner_of;
  }

  -- the second header stands in the region that begins with the first
  abbrev pub HeadAt : Head → Head → Type 0
  HeadAt = grammar.HeadAt heads

  -- a header at this offset breaks this rule, which is the first that it breaks
  abbrev pub FaultAt : Head → ℕ → Reason → Type 0
  FaultAt = grammar.FaultAt heads

  -- and no header at an earlier offset breaks any
  abbrev pub IsFirstFault : Head → ℕ → Reason → Type 0
  IsFirstFault = grammar.IsFirstFault heads
