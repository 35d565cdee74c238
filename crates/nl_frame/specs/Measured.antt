-- What one walk over messages measures: whether they are too deep, and their length where it is not too long.
use Rattle.std.specs.Prelude.{◌≡◌, ◌<◌, ◌≤◌, ◌+◌, ◌⊎◌, ℕ, List, [], ◌∷◌, Option, Some, None}
use Rattle.nl_attr.specs.Fixed.{LONGEST_REGION}
use Rattle.nl_attr.specs.Numbers.{aligned}
use Rattle.nl_attr.specs.Proper as attrs
use Rattle.nl_frame.specs.Message.{BodyVal, object, MessageVal}
use Rattle.nl_frame.specs.Written.{body_len, written_len}
use Rattle.nl_frame.specs.Proper.{IsLongBody, HasLong, IsLong}

-- the lengths of attributes and next hops have 16 bits, and their numbers 14
abbrev pub IsSizedBody : BodyVal → Type 0
IsSizedBody (object h is) = attrs.IsSized is
IsSizedBody b = Unit {0}

-- the same of the bodies of all messages
abbrev pub IsSized : List MessageVal → Type 0
IsSized [] = Unit {0}
IsSized (m ∷ ms) = IsSizedBody m.body × IsSized ms

-- the measured length of a part of so many bytes, where it has no more than so many, and none where it has more than a datagram or something in it is too long
abbrev pub IsLenOf : ℕ → Type 0 → Type 0 → ℕ → Option ℕ → Type 0
IsLenOf most Long Sized len None = Long ⊎ (LONGEST_REGION < len)
IsLenOf most Long Sized len (Some n) = (n ≡ len) × (n ≤ most) × (Long → ⊥) × Sized

-- of a body, whose head has 64 bytes at most
abbrev pub IsBodyLen : BodyVal → Option ℕ → Type 0
IsBodyLen b o = IsLenOf (LONGEST_REGION + 64) (IsLongBody b) (IsSizedBody b) (body_len b) o

-- of a message with this body, its header and its padding
abbrev pub IsMessageLen : BodyVal → Option ℕ → Type 0
IsMessageLen b o = IsLenOf (LONGEST_REGION + 80) (IsLongBody b) (IsSizedBody b) (aligned (16 + body_len b)) o

-- the same of all messages, and no more than a datagram
abbrev pub IsLen : List MessageVal → Option ℕ → Type 0
IsLen ms None = IsLong ms
IsLen ms (Some n) = (n ≡ written_len ms) × (n ≤ LONGEST_REGION) × (HasLong ms → ⊥) × IsSized ms
