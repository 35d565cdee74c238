-- What a walk over a region gives, one item at a time.
use Rattle.std.specs.Prelude.{◌≡◌, ◌≢◌, ◌≤◌, ◌<◌, ◌+◌, ◌/◌, ◌%◌, ◌==◌, ◌||◌, ℕ, nat_lt, if◌then◌else◌, List}
use Rattle.std.specs.Prelude.{[], ◌∷◌, length, slice_index, take, drop, Option, Some, None, Result, Ok, Err}
use Rattle.nl_attr.specs.Fixed.{NUMBERS, NLA_F_NESTED, NLA_F_NET_BYTEORDER}
use Rattle.std.specs.Iterator.{Yields, Drains}
use Rattle.nl_attr.specs.declared.fault.Reason.{Reason}
use Rattle.nl_attr.specs.declared.fault.Reason.TheVariants.{Cut, BadLength}
use Rattle.nl_attr.specs.declared.fault.Fault.{Fault}
use Rattle.nl_attr.specs.declared.tree.AttrFlags.{AttrFlags}
use Rattle.nl_attr.specs.declared.walk.attrs.Part.{Part}
use Rattle.nl_attr.specs.declared.walk.hops.HopPart.{HopPart}
use Rattle.std.specs.Prelude.{ℤ}
use Rattle.std.specs.Int.{w32, cast_signed}
use Rattle.nl_attr.specs.declared.order.Order.{Order}
use Rattle.nl_attr.specs.Layout.{IsPiece}
use Rattle.nl_attr.specs.Numbers.{number_of, len_of, kind_of, span_of}

-- a position in a region: an offset, the bytes from there to the end, and their byte order
pub record Region : Type 0 where
  pub order : Order
  pub place : ℕ
  pub left : List ℕ

module _ (o : Order) where
  -- the first rule of lengths that the header at the front breaks; it has h bytes, and begins with
  -- a length field of w bytes
  abbrev pub broken_length : ℕ → ℕ → List ℕ → Option Reason
  broken_length h w left =
      if nat_lt (length left) h then Some Cut
      else (if nat_lt (len_of o w left) h || nat_lt (length left) (len_of o w left) then Some BadLength else None)

  -- the header at the front, as the code answers it: its valid length field, or the rule it breaks
  abbrev pub HeadIs : ℕ → ℕ → List ℕ → Result ℕ Reason → Type 0
  HeadIs h w left (Ok len) = (broken_length h w left ≡ None) × (h ≤ length left) × (len ≡ len_of o w left) × (h ≤ len) × (len ≤ length left)
  HeadIs h w left (Err r) = broken_length h w left ≡ Some r

  -- rtnh_ifindex of the next hop at the front: the signed number in its bytes 4 to 7
  abbrev pub ifindex_of : List ℕ → ℤ
  ifindex_of left = cast_signed w32 (number_of o 4 (drop 4 left))

  -- the payload of the item at the front, behind its header of h bytes
  abbrev pub payload_of : ℕ → ℕ → List ℕ → List ℕ
  payload_of h w left = drop h (take (len_of o w left) left)

-- the two flag bits of a type field
abbrev pub flags_of : ℕ → AttrFlags
flags_of kind = record { nested = kind / NLA_F_NESTED == 1; net = kind / NLA_F_NET_BYTEORDER % 2 == 1 }

-- a Part of the program is the attribute at the front
pub record IsPart (p : Part) (r : Region) : Type 0 where
  pub number : p.number ≡ kind_of r.order r.left % NUMBERS
  pub flags : p.flags ≡ flags_of (kind_of r.order r.left)
  pub place : p.place ≡ r.place
  pub span : p.span ≡ span_of r.order 2 r.left
  pub payload : p.payload.now ≡ payload_of r.order 4 2 r.left

-- the position behind the item at the front and its padding
abbrev pub after : Region → Region
after r = record r { place = r.place + span_of r.order 2 r.left; left = drop (span_of r.order 2 r.left) r.left }

-- the position of a walk after an error: nothing is left
abbrev pub ended : Region → Region
ended r = record r { left = [] }

-- a HopPart of the program is the next hop at the front
pub record IsHopPart (p : HopPart) (r : Region) : Type 0 where
  pub flags : p.flags ≡ slice_index r.left 2
  pub hops : p.hops ≡ slice_index r.left 3
  pub ifindex : p.ifindex ≡ ifindex_of r.order r.left
  pub place : p.place ≡ r.place
  pub span : p.span ≡ span_of r.order 2 r.left
  pub rest : p.rest.now ≡ payload_of r.order 8 2 r.left

-- A walk over items with headers of h bytes. It yields values of type P, and `Is` says that such a
-- value is the item at the front.
module _ {P : Type 0} (h : ℕ) (Is : P → Region → Type 0) where
  -- one step: nothing is left; or the item at the front; or the rule that its header breaks, and
  -- then nothing is left
  abbrev pub Gives : Region → Option (Result P Fault) → Region → Type 0
  Gives old None new = (old.left ≡ []) × (new ≡ old)
  Gives old (Some (Ok p)) new = (old.left ≢ []) × HeadIs old.order h 2 old.left (Ok (len_of old.order 2 old.left)) × Is p old × (new ≡ after old)
  Gives old (Some (Err f)) new = (old.left ≢ []) × HeadIs old.order h 2 old.left (Err f.reason) × (f.place ≡ old.place) × (new ≡ ended old)

  -- the answer of reading the front: the item there, or the rule that its header breaks
  abbrev pub IsInFront : Region → Result P Fault → Type 0
  IsInFront r (Ok p) = HeadIs r.order h 2 r.left (Ok (len_of r.order 2 r.left)) × Is p r
  IsInFront r (Err f) = HeadIs r.order h 2 r.left (Err f.reason) × (f.place ≡ r.place)

  -- the answer of reading at an offset of these bytes: nothing from their end on; else the item
  -- there, or the rule that its header breaks
  abbrev pub StandsAt : Order → List ℕ → ℕ → Option (Result P Fault) → Type 0
  StandsAt o bytes place None = length bytes ≤ place
  StandsAt o bytes place (Some (Ok p)) =
      (place < length bytes) × (broken_length o h 2 (drop place bytes) ≡ None)
      × Is p (record { order = o; place = place; left = drop place bytes })
  StandsAt o bytes place (Some (Err f)) = (place < length bytes) × (broken_length o h 2 (drop place bytes) ≡ Some f.reason) × (f.place ≡ place)

-- one step of a walk over attributes
abbrev pub GivesPart : Region → Option (Result Part Fault) → Region → Type 0
GivesPart = Gives 4 IsPart

-- one step of a walk over next hops
abbrev pub GivesHop : Region → Option (Result HopPart Fault) → Region → Type 0
GivesHop = Gives 8 IsHopPart

module _ {P : Type 0} (h : ℕ) (Is : P → Region → Type 0) (o : Order) where
  -- All that a walk yields from this offset on: the pieces of the bytes, in order. It ends with
  -- the bytes, or with the error of a front that is no piece.
  abbrev pub IsWalk : ℕ → List ℕ → List (Result P Fault) → Type 0
  IsWalk place left [] = left ≡ []
  IsWalk place left (Ok p ∷ ps) =
      (item : List ℕ) × (pad : List ℕ) × (rest : List ℕ) × IsPiece o h 2 left item pad rest × Is p (record { order = o; place = place; left = left })
      × IsWalk (place + length item + length pad) rest ps
  IsWalk place left (Err f ∷ ps) = (left ≢ []) × (f.place ≡ place) × (broken_length o h 2 left ≡ Some f.reason) × (ps ≡ [])

-- how many bytes the items that a walk yielded occupy
abbrev pub spans_of : {P : Type 0} → (P → ℕ) → List (Result P Fault) → ℕ
spans_of span [] = 0
spans_of span (Ok p ∷ ps) = span p + spans_of span ps
spans_of span (Err f ∷ ps) = spans_of span ps

-- the item lies in the bytes, and its payload, behind its head of h bytes, is that part of them
pub record LiesIn (bytes : List ℕ) (h place span : ℕ) (payload : List ℕ) : Type 0 where
  pub within : place + span ≤ length bytes
  pub holds : h + length payload ≤ span
  pub part : payload ≡ take (length payload) (drop (place + h) bytes)

-- each item that a walk yielded has this property
abbrev pub EachLies : {P : Type 0} → (P → Type 0) → List (Result P Fault) → Type 0
EachLies Lies [] = Unit {0}
EachLies Lies (Ok p ∷ ps) = Lies p × EachLies Lies ps
EachLies Lies (Err f ∷ ps) = EachLies Lies ps

-- a walk over these bytes by parts with a place, a span and a payload
pub record IsWalkOver {P : Type 0} (h : ℕ) (Is : P → Region → Type 0) (place_of spanned : P → ℕ) (payload : P → List ℕ)
    (o : Order) (bytes : List ℕ) (w : Region) : Type 0 where
  pub start : w ≡ record { order = o; place = 0; left = bytes }
  -- drained, it yields the pieces of the bytes in order, and then the error of what is no piece
  pub walk : (parts : List (Result P Fault)) → Drains (Gives h Is) w parts → IsWalk h Is o 0 bytes parts
  -- they lie in the bytes, and so do their payloads
  pub inside : (parts : List (Result P Fault)) (rest : Region) → Yields (Gives h Is) w parts rest
      → EachLies (λ p. LiesIn bytes h (place_of p) (spanned p) (payload p)) parts
  -- its offset at any time is the sum of the spans that it has yielded
  pub seen : (parts : List (Result P Fault)) (rest : Region) → Yields (Gives h Is) w parts rest → rest.place ≡ spans_of spanned parts

-- a walk over the attributes of these bytes
abbrev pub IsAttrsOver : Order → List ℕ → Region → Type 0
IsAttrsOver = IsWalkOver 4 IsPart (λ p. p.place) (λ p. p.span) (λ p. p.payload.now)

-- a walk over the next hops of these bytes
abbrev pub IsHopsOver : Order → List ℕ → Region → Type 0
IsHopsOver = IsWalkOver 8 IsHopPart (λ p. p.place) (λ p. p.span) (λ p. p.rest.now)

-- how many bytes one step's item occupies; 0 where the step yields none
abbrev pub span_given : {P : Type 0} → (P → ℕ) → Option (Result P Fault) → ℕ
span_given span None = 0
span_given span (Some (Ok p)) = span p
span_given span (Some (Err f)) = 0
