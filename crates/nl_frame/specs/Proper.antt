-- Which messages can be written, and why others can't.
use Rattle.std.specs.Prelude.{◌≢◌, ◌<◌, ◌≤◌, ◌^◌, ◌⊎◌, ℕ, List, [], ◌∷◌, length, Some, None, FitsSigned}
use Rattle.std.specs.Int.{w32}
use Rattle.nl_attr.specs.Fixed.{LONGEST_REGION}
use Rattle.nl_attr.specs.declared.fault.WriteError.{WriteError as FirstRefusal}
use Rattle.nl_attr.specs.declared.fault.WriteError.TheVariants as first
use Rattle.nl_attr.specs.Proper as attrs
use Rattle.nl_route.specs.Fields.{AreRanged}
use Rattle.nl_route.specs.Families.{context_of, family_of, fields_of}
use Rattle.nl_frame.specs.declared.form.Form.{Form}
use Rattle.nl_frame.specs.declared.form.Form.TheVariants as form
use Rattle.nl_frame.specs.declared.writing.WriteError.{WriteError}
use Rattle.nl_frame.specs.declared.writing.WriteError.TheVariants.{Mismatch, TooDeep, TooLong, TooLarge, Memory}
use Rattle.nl_frame.specs.Limits.{Bounds}
use Rattle.nl_frame.specs.Header.{header_fields}
use Rattle.nl_frame.specs.Form.{form_of}
use Rattle.nl_frame.specs.Message.{BodyVal, noop, error, done, overrun, object, get, other, MessageVal}
use Rattle.nl_frame.specs.Written.{written_len}

-- a body of another form, a DONE without status that has four bytes or more, or mismatched attributes
abbrev pub IsMismatchedBody : BodyVal → Form → Type 0
IsMismatchedBody (noop bs) f = f ≢ form.Noop
IsMismatchedBody (error code h tail) f = f ≢ form.Error
IsMismatchedBody (done None tail) f = (f ≢ form.Done) ⊎ (4 ≤ length tail)
IsMismatchedBody (done (Some z) tail) f = f ≢ form.Done
IsMismatchedBody (overrun bs) f = f ≢ form.Overrun
IsMismatchedBody (object h is) f = (f ≢ form.Object (family_of h)) ⊎ attrs.IsMismatched is (context_of (family_of h))
IsMismatchedBody (get n tail) f = f ≢ form.Get
IsMismatchedBody (other bs) f = f ≢ form.Other

-- some body isn't of its message's type
abbrev pub IsMismatched : List MessageVal → Type 0
IsMismatched [] = ⊥
IsMismatched (m ∷ ms) = IsMismatchedBody m.body (form_of m.kind) ⊎ IsMismatched ms

-- some container in a body opens a level above the depth D
abbrev pub IsDeepBody : BodyVal → ℕ → Type 0
IsDeepBody (object h is) D = attrs.IsDeep is 0 D
IsDeepBody b D = ⊥

-- some container opens a level above the depth D
abbrev pub IsDeep : List MessageVal → ℕ → Type 0
IsDeep [] D = ⊥
IsDeep (m ∷ ms) D = IsDeepBody m.body D ⊎ IsDeep ms D

-- something in a body is too long
abbrev pub IsLongBody : BodyVal → Type 0
IsLongBody (object h is) = attrs.IsLong is
IsLongBody b = ⊥

-- something in some body is too long
abbrev pub HasLong : List MessageVal → Type 0
HasLong [] = ⊥
HasLong (m ∷ ms) = IsLongBody m.body ⊎ HasLong ms

-- the datagram, or something in it, is too long
abbrev pub IsLong : List MessageVal → Type 0
IsLong ms = (LONGEST_REGION < written_len ms) ⊎ HasLong ms

-- messages that are mismatched, too deep or too long are not written, and the first of these counts
abbrev pub IsFirstRefusal : List MessageVal → ℕ → FirstRefusal → Type 0
IsFirstRefusal ms D = attrs.Refusal (IsMismatched ms) (IsDeep ms D) (IsLong ms)

-- why messages are not written; memory where nothing else is the reason
abbrev pub IsRefused : List MessageVal → Bounds → WriteError → Type 0
IsRefused ms b Mismatch = IsFirstRefusal ms b.shape.depth first.Mismatch
IsRefused ms b TooDeep = IsFirstRefusal ms b.shape.depth first.TooDeep
IsRefused ms b TooLong = IsFirstRefusal ms b.shape.depth first.TooLong
IsRefused ms b TooLarge = IsFirstRefusal ms b.shape.depth first.Memory × (b.datagram < written_len ms)
IsRefused ms b Memory = IsFirstRefusal ms b.shape.depth first.Memory × (written_len ms ≤ b.datagram)

-- messages that can be written where containers may open D levels
pub record IsProper (ms : List MessageVal) (D : ℕ) : Type 0 where
  pub matched : IsMismatched ms → ⊥
  pub shallow : IsDeep ms D → ⊥
  pub short : IsLong ms → ⊥

-- each number of a body is in the range of its type
abbrev pub IsRangedBody : BodyVal → Type 0
IsRangedBody (error code h tail) = FitsSigned w32 code × AreRanged (header_fields h)
IsRangedBody (done (Some z) tail) = FitsSigned w32 z
IsRangedBody (object h is) = AreRanged (fields_of h) × attrs.IsRanged is
IsRangedBody (get n tail) = n < 256
IsRangedBody b = Unit {0}

-- each number is in the range of its type, as every one of the program is
abbrev pub IsRanged : List MessageVal → Type 0
IsRanged [] = Unit {0}
IsRanged (m ∷ ms) = (m.kind < 2 ^ 16) × (m.flags < 2 ^ 16) × (m.seq < 2 ^ 32) × (m.port < 2 ^ 32) × IsRangedBody m.body × IsRanged ms
