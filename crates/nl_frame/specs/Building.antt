-- The state of a builder, and what each call makes of it. An open header has no length yet.
use Rattle.std.specs.Prelude.{◌+◌, ◌-◌, ◌≤◌, ℕ, ℤ, Bool, true, false, nat_lt, if◌then◌else◌, List, [], ◌∷◌, ◌++◌, length, drop, Option, Some, None, Result, Ok, Err}
use Rattle.std.specs.Int.{w32, cast_unsigned}
use Rattle.std.specs.List.{splice}
use Rattle.nl_attr.specs.Fixed.{NUMBERS, LONGEST_ITEM, LONGEST_CONTAINER, LONGEST_REGION}
use Rattle.nl_attr.specs.declared.order.Order.{Order}
use Rattle.nl_attr.specs.declared.tree.AttrFlags.{AttrFlags}
use Rattle.nl_attr.specs.declared.tree.Ctx.TheVariants.{Route}
use Rattle.nl_attr.specs.declared.tree.Content.{Content}
use Rattle.nl_attr.specs.declared.tree.Content.TheVariants as content
use Rattle.nl_attr.specs.Numbers.{num, aligned}
use Rattle.nl_attr.specs.Layout.{kind_number}
use Rattle.nl_attr.specs.Tree.{holds_of}
use Rattle.nl_attr.specs.Written.{with_padding, attr_item}
use Rattle.nl_route.specs.declared.family.Family.{Family}
use Rattle.nl_route.specs.Families.{AnyHead, head_size, context_of, same_family, family_of, fields_of}
use Rattle.nl_route.specs.Fields as fields
use Rattle.nl_frame.specs.declared.building.refusal.BuildError.{BuildError}
use Rattle.nl_frame.specs.declared.building.refusal.BuildError.TheVariants.{Mismatch, TooDeep, TooLong, TooLarge, NoRoom, NothingOpen, StillOpen}
use Rattle.nl_frame.specs.declared.building.OpenHead.{OpenHead}
use Rattle.nl_frame.specs.declared.form.Form.{Form}
use Rattle.nl_frame.specs.declared.form.Form.TheVariants as form
use Rattle.nl_frame.specs.declared.header.Header.{Header}
use Rattle.nl_frame.specs.Header.{header_fields}
use Rattle.nl_frame.specs.Form.{form_of, least_body}
use Rattle.nl_frame.specs.Limits.{Bounds}

-- the state of a builder
pub record Built : Type 0 where
  pub bounds : Bounds
  -- the bytes that are accepted, and those of the slice behind them
  pub front : List ℕ
  pub free : List ℕ
  -- the open headers, the innermost first
  pub heads : List OpenHead
  -- the first error, if there was one
  pub refusal : Option BuildError

-- a builder that has built nothing, in a slice of these bytes
abbrev pub nothing_built : Bounds → List ℕ → Built
nothing_built bounds free = record { bounds = bounds; front = []; free = free; heads = []; refusal = None }

-- the byte order of its numbers
abbrev pub order_of : Built → Order
order_of b = b.bounds.shape.order

-- ---- what a call does that doesn't fail

-- these bytes are appended
abbrev pub grown : Built → List ℕ → Built
grown b bs = record b { front = b.front ++ bs; free = drop (length bs) b.free }

-- a header of these bytes is opened, behind which this content belongs
abbrev pub opened : Built → Content → List ℕ → Built
opened b c head = record (grown b head) { heads = record { start = length b.front; content = c } ∷ b.heads }

-- the innermost header gets these bytes as its length, and is closed
abbrev pub head_ended : Built → List OpenHead → List ℕ → Built
head_ended b [] field = b
head_ended b (h ∷ hs) field = record b { front = splice b.front h.start (h.start + length field) field; heads = hs }

-- how many bytes there are from the innermost open header on
abbrev pub length_from : Built → List OpenHead → ℕ
length_from b [] = 0
length_from b (h ∷ hs) = length b.front - h.start

-- the innermost header gets its length, in w bytes, and is closed
abbrev pub ended : Built → ℕ → Built
ended b w = head_ended b b.heads (num (length_from b b.heads) w (order_of b))

-- ---- the error of a call, if any

-- the first error, or else the second
abbrev pub or_next : Option BuildError → Option BuildError → Option BuildError
or_next None e = e
or_next (Some f) e = Some f

-- of so many bytes that have no room in the slice, or in the datagram limit
abbrev pub lacks : Built → ℕ → Option BuildError
lacks b n =
    if nat_lt (length b.free) n then Some NoRoom
    else (if nat_lt b.bounds.datagram (length b.front + n) then Some TooLarge else None)

-- the innermost open header
abbrev pub top : List OpenHead → Option OpenHead
top [] = None
top (h ∷ hs) = Some h

-- what an attribute of this type holds inside this content; or the error
abbrev pub held_in : Content → ℕ → AttrFlags → Result Content BuildError
held_in (content.List c) n f = if nat_lt n NUMBERS then Ok (holds_of c n f) else Err Mismatch
held_in c n f = Err Mismatch

-- the same behind the innermost open header
abbrev pub held : Option OpenHead → ℕ → AttrFlags → Result Content BuildError
held None n f = Err NothingOpen
held (Some h) n f = held_in h.content n f

-- of putting so many bytes for an attribute that holds this
abbrev pub bytes_refusal : Built → Result Content BuildError → ℕ → Option BuildError
bytes_refusal b (Err e) n = Some e
bytes_refusal b (Ok content.Bytes) n = if nat_lt LONGEST_ITEM (4 + n) then Some TooLong else lacks b (aligned (4 + n))
bytes_refusal b (Ok c) n = Some Mismatch

-- how many levels further down this content reaches
abbrev pub levels_in : Content → ℕ
levels_in content.Hops = 1
levels_in c = 0

-- of opening an attribute that holds this, inside so many open headers
abbrev pub open_refusal_in : Built → ℕ → Result Content BuildError → Option BuildError
open_refusal_in b n (Err e) = Some e
open_refusal_in b n (Ok content.Bytes) = Some Mismatch
open_refusal_in b n (Ok c) = if nat_lt b.bounds.shape.depth (n + levels_in c) then Some TooDeep else lacks b 4

-- the same inside the open headers of the builder
abbrev pub open_refusal : Built → Result Content BuildError → Option BuildError
open_refusal b held = open_refusal_in b (length b.heads) held

-- of opening a next hop inside this content
abbrev pub hop_refusal_in : Built → Content → Option BuildError
hop_refusal_in b content.Hops = lacks b 8
hop_refusal_in b c = Some Mismatch

-- the same behind the innermost open header
abbrev pub hop_refusal : Built → Option OpenHead → Option BuildError
hop_refusal b None = Some NothingOpen
hop_refusal b (Some h) = hop_refusal_in b h.content

-- of closing an attribute or a next hop
abbrev pub close_refusal : Built → Option BuildError
close_refusal b =
    if nat_lt (length b.heads) 2 then Some NothingOpen
    else (if nat_lt LONGEST_CONTAINER (length_from b b.heads) then Some TooLong else None)

-- a message ends
abbrev pub end_refusal : List OpenHead → Option BuildError
end_refusal [] = Some NothingOpen
end_refusal (h ∷ []) = None
end_refusal (h ∷ k ∷ hs) = Some StillOpen

-- a body of this form begins with the header of this family
abbrev pub has_head : Form → Family → Bool
has_head (form.Object g) h = same_family g h
has_head f h = false

-- of beginning a message with the header of this family, which its type has or not
abbrev pub first_refusal : Built → List OpenHead → Bool → Family → Option BuildError
first_refusal b [] has g = if has then lacks b (16 + head_size g) else Some Mismatch
first_refusal b (h ∷ hs) has g = Some StillOpen

-- of beginning a message of this type with the header of this family
abbrev pub begin_refusal : Built → List OpenHead → ℕ → Family → Option BuildError
begin_refusal b hs kind g = first_refusal b hs (has_head (form_of kind) g) g

-- so many bytes are too short for a body of this form, or the form has a family's header
abbrev pub is_no_body : Form → ℕ → Bool
is_no_body (form.Object g) n = true
is_no_body f n = nat_lt n (least_body f)

-- of putting a whole message of so many bytes of body, which its type can't have or can
abbrev pub body_refusal : Built → List OpenHead → Bool → ℕ → Option BuildError
body_refusal b [] other n = if other then Some Mismatch else (if nat_lt LONGEST_REGION (16 + n) then Some TooLong else lacks b (aligned (16 + n)))
body_refusal b (h ∷ hs) other n = Some StillOpen

-- of putting a whole message of this type with a body of so many bytes
abbrev pub message_refusal : Built → List OpenHead → ℕ → ℕ → Option BuildError
message_refusal b hs kind n = body_refusal b hs (is_no_body (form_of kind) n) n

-- of handing the datagram out
abbrev pub finish_refusal : List OpenHead → Option BuildError
finish_refusal [] = None
finish_refusal (h ∷ hs) = Some StillOpen

-- ---- what each call makes of it

-- a call that fails keeps its error, and changes nothing else
abbrev pub settled : Built → Option BuildError → Built → Built
settled b None next = next
settled b (Some e) next = record b { refusal = Some e }

-- the answer of each call
abbrev pub answer : Option BuildError → Result (Unit {0}) BuildError
answer None = Ok tt
answer (Some e) = Err e

-- an attribute with these bytes as its payload
abbrev pub put : Built → ℕ → AttrFlags → List ℕ → Built
put b n f bs =
    settled b (or_next b.refusal (bytes_refusal b (held (top b.heads) n f) (length bs)))
    (grown b (with_padding (attr_item (order_of b) n f bs)))

-- what an attribute holds, or bytes where that is an error
abbrev pub content_or_bytes : Result Content BuildError → Content
content_or_bytes (Ok c) = c
content_or_bytes (Err e) = content.Bytes

-- the header of an attribute, with 0 for its length
abbrev pub attr_begun : Order → ℕ → AttrFlags → List ℕ
attr_begun o n f = num 0 2 o ++ num (kind_number n f) 2 o

-- an attribute that holds attributes or next hops opens
abbrev pub open_attr : Built → ℕ → AttrFlags → Built
open_attr b n f =
    let c = held (top b.heads) n f in
    settled b (or_next b.refusal (open_refusal b c)) (opened b (content_or_bytes c) (attr_begun (order_of b) n f))

-- the header of a next hop, with 0 for its length
abbrev pub hop_begun : Order → ℕ → ℕ → ℤ → List ℕ
hop_begun o f c i = num 0 2 o ++ (f ∷ c ∷ num (cast_unsigned w32 i) 4 o)

-- a next hop opens
abbrev pub open_hop : Built → ℕ → ℕ → ℤ → Built
open_hop b f c i = settled b (or_next b.refusal (hop_refusal b (top b.heads))) (opened b (content.List Route) (hop_begun (order_of b) f c i))

-- the innermost attribute or next hop is closed
abbrev pub close : Built → Built
close b = settled b (or_next b.refusal (close_refusal b)) (ended b 2)

-- the header of a message, with 0 for its length
abbrev pub header_begun : ℕ → ℕ → ℕ → ℕ → Header
header_begun kind flags seq port = record { len = 0; kind = kind; flags = flags; seq = seq; port = port }

-- the bytes of that header and of the family's
abbrev pub message_begun : Order → Header → AnyHead → List ℕ
message_begun o header head = fields.written o (header_fields header) ++ fields.written o (fields_of head)

-- a message begins
abbrev pub begin : Built → ℕ → ℕ → ℕ → ℕ → AnyHead → Built
begin b kind flags seq port head =
    settled b (or_next b.refusal (begin_refusal b b.heads kind (family_of head)))
    (opened b (content.List (context_of (family_of head))) (message_begun (order_of b) (header_begun kind flags seq port) head))

-- the header of a message whose body is so many bytes
abbrev pub header_whole : ℕ → ℕ → ℕ → ℕ → ℕ → Header
header_whole kind flags seq port n = record { len = 16 + n; kind = kind; flags = flags; seq = seq; port = port }

-- a whole message with these bytes as its body
abbrev pub put_message : Built → ℕ → ℕ → ℕ → ℕ → List ℕ → Built
put_message b kind flags seq port bs =
    settled b (or_next b.refusal (message_refusal b b.heads kind (length bs)))
    (grown b (with_padding (fields.written (order_of b) (header_fields (header_whole kind flags seq port (length bs))) ++ bs)))

-- the message ends
abbrev pub end : Built → Built
end b = settled b (or_next b.refusal (end_refusal b.heads)) (ended b 4)

-- neither flag bit is set
abbrev pub no_flags : AttrFlags
no_flags = record { nested = false; net = false }

-- a next hop opens, an attribute of bytes is put into it, and it is closed
abbrev pub put_hop : Built → ℕ → ℕ → ℤ → ℕ → List ℕ → Built
put_hop b f c i n bs = close (put (open_hop b f c i) n no_flags bs)

-- the error of handing the datagram out, if any
abbrev pub finish : Built → Option BuildError
finish b = or_next b.refusal (finish_refusal b.heads)

-- ---- what holds of each builder

-- each open header lies in the accepted bytes, and the depth limit D allows it
abbrev pub AreOpen : ℕ → ℕ → List OpenHead → Type 0
AreOpen D len [] = Unit {0}
AreOpen D len (h ∷ hs) = (h.start + 4 ≤ len) × (length hs + levels_in h.content ≤ D) × AreOpen D len hs
