-- A builder that C keeps over a buffer of its own, and the answers to C of its calls.
use Rattle.std.specs.Prelude.{◌≡◌, ◌==◌, ◌≤◌, ◌+◌, ◌%◌, nat_le, ℕ, if◌then◌else◌, List, [], ◌∷◌, length, slice_index_or, slice_set, Option, Some, None, Result, Ok, Err}
use Rattle.nl_attr.specs.declared.order.Order.{Order}
use Rattle.nl_attr.specs.declared.order.Order.TheVariants.{Little, Big}
use Rattle.nl_attr.specs.declared.tree.AttrFlags.{AttrFlags}
use Rattle.nl_attr.specs.declared.tree.Ctx.{Ctx}
use Rattle.nl_attr.specs.declared.tree.Content.{Content}
use Rattle.nl_attr.specs.declared.tree.Content.TheVariants as content
use Rattle.nl_frame.specs.declared.building.OpenHead.{OpenHead}
use Rattle.nl_frame.specs.declared.building.refusal.BuildError.{BuildError}
use Rattle.nl_frame.specs.declared.building.refusal.BuildError.TheVariants.{Mismatch, TooDeep, TooLong, TooLarge, NoRoom, NothingOpen, StillOpen}
use Rattle.nl_frame.specs.BuildCodes.{build_code}
use Rattle.nl_frame.specs.declared.building.top.BuilderTop.{BuilderTop}
use Rattle.nl_frame.specs.Building.{Built, AreOpen, finish, top}
use Rattle.nl_frame.specs.Tops.{parts_with}
use Rattle.nl_frame.specs.Limits.{AreLimits}
use Rattle.nl_frame.specs.Parts.{Parts, AreParts, new_parts, over}
use Rattle.rtnl_c.specs.declared.building.BuilderState.{BuilderState}
use Rattle.rtnl_c.specs.declared.options.Options.{Options}
use Rattle.rtnl_c.specs.declared.put.Put.{Put}
use Rattle.rtnl_c.specs.Codes.{no_builder}
use Rattle.rtnl_c.specs.Numbers.{context_in, context_number}
use Rattle.rtnl_c.specs.Options.{bounds_in}
use Rattle.rtnl_c.specs.Put.{not_put, put_of}

-- ---- a builder, as C keeps it

-- the number of the order of numbers
abbrev pub order_number : Order → ℕ
order_number Little = 0
order_number Big = 1

-- the number of what stands behind a header
abbrev pub content_number : Content → ℕ
content_number content.Bytes = 0
content_number (content.List c) = context_number c
content_number content.Hops = 9

-- the number of a refusal, or 0
abbrev pub refusal_number : Option BuildError → ℕ
refusal_number None = 0
refusal_number (Some e) = build_code e

-- the order of a number, what stands behind a header, and a refusal or none, by their numbers
abbrev pub order_by : ℕ → Option Order
order_by n = if n == 0 then Some Little else (if n == 1 then Some Big else None)

abbrev pub content_by : ℕ → Option Ctx → Option Content
content_by n (Some c) = Some (content.List c)
content_by n None = if n == 0 then Some content.Bytes else (if n == 9 then Some content.Hops else None)

abbrev pub content_in : ℕ → Option Content
content_in n = content_by n (context_in n)

abbrev pub refusal_in : ℕ → Option (Option BuildError)
refusal_in n =
    if n == 0 then Some None else (
    if n == 4 then Some (Some TooLong) else (
    if n == 5 then Some (Some TooDeep) else (
    if n == 6 then Some (Some TooLarge) else (
    if n == 11 then Some (Some Mismatch) else (
    if n == 17 then Some (Some NoRoom) else (
    if n == 21 then Some (Some NothingOpen) else (
    if n == 22 then Some (Some StillOpen) else None)))))))

-- the open headers, the innermost first, are kept by their offsets and numbers, the outermost first
abbrev pub AreKept : List ℕ → List ℕ → List OpenHead → Type 0
AreKept starts contents [] = Unit {0}
AreKept starts contents (h ∷ hs) =
    (slice_index_or starts (length hs) 0 ≡ h.start) × (slice_index_or contents (length hs) 0 ≡ content_number h.content) × AreKept starts contents hs

-- what is kept is a builder's over so many bytes
pub record IsKept (k : BuilderState) (room : ℕ) (p : Parts) : Type 0 where
  pub total : k.total ≡ p.bounds.total
  pub entries : k.entries ≡ p.bounds.entries
  pub datagram : k.datagram ≡ p.bounds.datagram
  pub depth : k.depth ≡ p.bounds.shape.depth
  pub big : k.big ≡ order_number p.bounds.shape.order
  pub len : k.len ≡ p.len
  pub count : k.count ≡ length p.heads
  pub heads : AreKept k.starts k.contents p.heads
  pub refusal : k.refusal ≡ refusal_number p.refusal
  -- a builder can be so
  pub parts : AreParts p
  pub fits : p.len ≤ room

-- or no builder's
abbrev pub IsNone : BuilderState → ℕ → Type 0
IsNone k room = (p : Parts) → IsKept k room p → ⊥

-- these headers are kept, the innermost first, and can be open
pub record HasHeads (k : BuilderState) (hs : List OpenHead) : Type 0 where
  pub count : k.count ≡ length hs
  pub heads : AreKept k.starts k.contents hs
  pub open_heads : AreOpen k.depth k.len hs

-- this is the innermost header of those that are kept, where one is open
abbrev pub IsInnermost : BuilderState → Option OpenHead → Type 0
IsInnermost k h = (hs : List OpenHead) × HasHeads k hs × (top hs ≡ h)

-- or no builder has them
abbrev pub HasNone : BuilderState → Type 0
HasNone k = (hs : List OpenHead) → HasHeads k hs → ⊥

-- what is kept is a builder's over so many bytes, of which a call needs this
abbrev pub IsTopOf : BuilderState → ℕ → BuilderTop → Type 0
IsTopOf k room t = (hs : List OpenHead) × IsKept k room (parts_with t hs) × (top hs ≡ t.head)

-- one more header is kept, where a call opens one
abbrev pub with_opened : BuilderState → Result OpenHead BuildError → BuilderState
with_opened k (Ok h) = record k { starts = slice_set k.starts k.count h.start; contents = slice_set k.contents k.count (content_number h.content); count = k.count + 1 }
with_opened k (Err e) = k

-- how many headers a call closes that was refused so, or not
abbrev pub left_closed : Option BuildError → ℕ
left_closed None = 1
left_closed (Some e) = 0

-- ---- calls

-- a new builder of these limits, unless one of them is out of its range
abbrev pub News : Options → BuilderState → ℕ → BuilderState → Type 0
News o old code new =
    (AreLimits (bounds_in o) → (code ≡ 0) × ((room : ℕ) → IsKept new room (new_parts (bounds_in o))))
    × ((AreLimits (bounds_in o) → ⊥) → (code ≡ 12) × (new ≡ old))

-- each is one of the builder that is kept over the buffer, and what it becomes is kept in its place; where none is, nothing is changed
pub data Calls (call : Built → Built) (old : BuilderState) (before : List ℕ) : BuilderState → List ℕ → ℕ → Type 0 where
  on_none : IsNone old (length before) → Calls call old before old before no_builder
  calls : (p q : Parts) → IsKept old (length before) p → (new : BuilderState) (after : List ℕ) → over q after ≡ call (over p before) → IsKept new (length after) q
      → Calls call old before new after (refusal_number q.refusal)

-- ---- the type of an attribute, as C has it

-- its number without the two flag bits
abbrev pub number_in : ℕ → ℕ
number_in kind = kind % 16384

-- the flag bits NLA_F_NESTED and NLA_F_NET_BYTEORDER
abbrev pub flags_in : ℕ → AttrFlags
flags_in kind = record { nested = nat_le 32768 kind; net = nat_le 16384 (kind % 32768) }

-- ---- the end

-- the datagram's length, or why there is none
pub data Finishes (k : BuilderState) (out : List ℕ) : Put → Type 0 where
  on_none : IsNone k (length out) → Finishes k out (not_put no_builder)
  refused : (p : Parts) → IsKept k (length out) p → (e : BuildError) → finish (over p out) ≡ Some e → Finishes k out (not_put (build_code e))
  finishes : (p : Parts) → IsKept k (length out) p → finish (over p out) ≡ None → Finishes k out (put_of p.len 0)
