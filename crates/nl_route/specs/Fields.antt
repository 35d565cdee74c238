-- The fields of a head, one after the other.
use Rattle.std.specs.Prelude.{◌≡◌, ◌<◌, ◌≤◌, ◌^◌, ◌+◌, ℕ, ℤ, zero, suc, pos, List, [], ◌∷◌, ◌++◌, length, take, drop, slice_index, FitsSigned}
use Rattle.std.specs.Int.{w32, cast_signed, cast_unsigned}
use Rattle.nl_attr.specs.declared.order.Order.{Order}
use Rattle.nl_attr.specs.Numbers.{num, number_of}

-- one byte, a number of so many bytes, a signed number of four, or so many bytes that are not kept
pub data Field : Type 0 where
  byte : ℕ → Field
  number : ℕ → ℕ → Field
  signed : ℤ → Field
  pad : ℕ → Field

-- so many zero bytes
abbrev pub zeros : ℕ → List ℕ
zeros zero = []
zeros (suc n) = 0 ∷ zeros n

-- the bytes have these fields in this order of numbers, and no more; a pad may hold anything
abbrev pub AreFields : Order → List Field → List ℕ → Type 0
AreFields o [] bytes = bytes ≡ []
AreFields o (byte n ∷ fs) bytes = (take 1 bytes ≡ n ∷ []) × (n < 256) × AreFields o fs (drop 1 bytes)
AreFields o (number w n ∷ fs) bytes = (take w bytes ≡ num n w o) × (n < 256 ^ w) × AreFields o fs (drop w bytes)
AreFields o (signed z ∷ fs) bytes = (take 4 bytes ≡ num (cast_unsigned w32 z) 4 o) × FitsSigned w32 z × AreFields o fs (drop 4 bytes)
AreFields o (pad w ∷ fs) bytes = (w ≤ length bytes) × AreFields o fs (drop w bytes)

-- the bytes of the fields, with zeros for the pads
abbrev pub written : Order → List Field → List ℕ
written o [] = []
written o (byte n ∷ fs) = n ∷ written o fs
written o (number w n ∷ fs) = num n w o ++ written o fs
written o (signed z ∷ fs) = num (cast_unsigned w32 z) 4 o ++ written o fs
written o (pad w ∷ fs) = zeros w ++ written o fs

-- each number is in the range of its field
abbrev pub AreRanged : List Field → Type 0
AreRanged [] = Unit {0}
AreRanged (byte n ∷ fs) = (n < 256) × AreRanged fs
AreRanged (number w n ∷ fs) = (n < 256 ^ w) × AreRanged fs
AreRanged (signed z ∷ fs) = FitsSigned w32 z × AreRanged fs
AreRanged (pad w ∷ fs) = AreRanged fs

-- fields of the same kinds, with what the bytes hold from a place on
abbrev pub read_at : Order → List Field → ℕ → List ℕ → List Field
read_at o [] place bytes = []
read_at o (byte n ∷ fs) place bytes = byte (slice_index bytes place) ∷ read_at o fs (place + 1) bytes
read_at o (number w n ∷ fs) place bytes = number w (number_of o w (drop place bytes)) ∷ read_at o fs (place + w) bytes
read_at o (signed z ∷ fs) place bytes = signed (cast_signed w32 (number_of o 4 (drop place bytes))) ∷ read_at o fs (place + 4) bytes
read_at o (pad w ∷ fs) place bytes = pad w ∷ read_at o fs (place + w) bytes

-- what a field holds, as a number or a signed number, and zero where it holds none
abbrev pub value_in : Field → ℕ
value_in (byte n) = n
value_in (number w n) = n
value_in (signed z) = 0
value_in (pad w) = 0

abbrev pub signed_in : Field → ℤ
signed_in (signed z) = z
signed_in f = pos 0

-- what the field of a place holds
abbrev pub value_at : List Field → ℕ → ℕ
value_at [] i = 0
value_at (f ∷ fs) zero = value_in f
value_at (f ∷ fs) (suc i) = value_at fs i

abbrev pub signed_at : List Field → ℕ → ℤ
signed_at [] i = pos 0
signed_at (f ∷ fs) zero = signed_in f
signed_at (f ∷ fs) (suc i) = signed_at fs i

-- what is read of bytes: the head whose fields are those of a head with what the bytes hold
abbrev pub read_as : {H : Type 0} → (H → List Field) → (List Field → H) → Order → List ℕ → H
read_as fields head_with o bytes = head_with (read_at o (fields (head_with [])) 0 bytes)

-- a head that is read of these bytes
pub record IsHeadOf {H : Type 0} (of : Order → List ℕ → H) (fields_of : H → List Field) (o : Order) (bytes : List ℕ) (h : H) : Type 0 where
  pub value : h ≡ of o bytes
  -- it has the fields of the bytes
  pub fields : AreFields o (fields_of h) bytes
  -- no other head has
  pub only : (k : H) → AreFields o (fields_of k) bytes → k ≡ h

-- the bytes that a head is written as
pub record IsWrittenHead {H : Type 0} (of : Order → List ℕ → H) (fields_of : H → List Field) (o : Order) (h : H) (image : List ℕ) : Type 0 where
  pub bytes : image ≡ written o (fields_of h)
  -- they are read as this head again
  pub back : of o image ≡ h
  -- each number is in the range of its field
  pub ranged : AreRanged (fields_of h)
