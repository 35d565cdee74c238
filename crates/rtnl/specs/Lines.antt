-- The lines of a recording, each of them a comment, blank, or a datagram in hexadecimal.
use Rattle.std.specs.Prelude.{◌≡◌, ◌≤◌, ℕ, ◌+◌, ◌%◌, ◌==◌, ◌||◌, not, if◌then◌else◌, Bool, true, false, List, []}
use Rattle.std.specs.Prelude.{◌∷◌, ◌++◌, filter, length, slice_index, slice_range, Option, Some, None, Result, Ok, Err}
use Rattle.std.specs.Borrow.{Bor}
use Rattle.std.specs.List.{position, slice_split}
use Rattle.hex.specs.Hex.{decode_of, is_hex_digit}
use Rattle.hex.specs.declared.error.FromHexError.{FromHexError}
use Rattle.rtnl.specs.declared.recordings.lines.LineFault.{LineFault}
use Rattle.rtnl.specs.declared.recordings.lines.LineFault.TheVariants.{Character, Odd}
use Rattle.rtnl.specs.declared.error.RunError.{RunError}
use Rattle.rtnl.specs.declared.error.RunError.TheVariants.{BadLine, ReadFault, WriteFault, Memory}

-- the byte that ends a line
abbrev pub is_newline : ℕ → Bool
is_newline byte = byte == 10

-- a space, a tab or a carriage return
abbrev pub is_blank : ℕ → Bool
is_blank byte = byte == 32 || (byte == 9 || byte == 13)

-- what is left of a line once the blanks are taken out
abbrev pub compact : List ℕ → List ℕ
compact line = filter (λ byte. not (is_blank byte)) line

-- the line's first byte is `#`
abbrev pub is_comment : List ℕ → Bool
is_comment [] = false
is_comment (byte ∷ _) = byte == 35

-- decoded bytes, or the number of their line
abbrev pub decoded : ℕ → Result (List ℕ) FromHexError → Result (Option (List ℕ)) ℕ
decoded number (Ok bytes) = Ok (Some bytes)
decoded number (Err _) = Err number

-- the datagram that these digits of a line are, if there are any
abbrev pub digits_at : ℕ → List ℕ → Result (Option (List ℕ)) ℕ
digits_at number digits = if length digits == 0 then Ok None else decoded number (decode_of digits)

-- the datagram of the line of this number, if it has one, or the number, if the line is bad
abbrev pub line_at : ℕ → List ℕ → Result (Option (List ℕ)) ℕ
line_at number line = if is_comment line then Ok None else digits_at number (compact line)

-- the byte is neither a digit nor a blank
abbrev pub is_stray : ℕ → Bool
is_stray byte = not (is_hex_digit byte || is_blank byte)

-- what is wrong with so many digits
abbrev pub odd_of : ℕ → Option LineFault
odd_of digits = if digits % 2 == 1 then Some (Odd digits) else None

-- the byte at this place, in its column counted from 1; with no place, what is wrong with the number of digits
abbrev pub fault_in : List ℕ → Option ℕ → Option LineFault
fault_in line (Some place) = Some (Character (place + 1) (slice_index line place))
fault_in line None = odd_of (length (compact line))

-- what is wrong with a line: its first stray byte, else that its digits are odd; nothing with a comment
abbrev pub line_fault_of : List ℕ → Option LineFault
line_fault_of line = if is_comment line then None else fault_in line (position is_stray line)

infixl 10 ◌>>=◌
-- a step, and the next one if no line was bad so far
abbrev pub ◌>>=◌ : {A B : Type 0} → Result A ℕ → (A → Result B ℕ) → Result B ℕ
(Ok x) >>= f = f x
(Err number) >>= f = Err number

-- a line's datagram, if it has one, and then others
abbrev pub with_first : Option (List ℕ) → List (List ℕ) → List (List ℕ)
with_first None rest = rest
with_first (Some datagram) rest = datagram ∷ rest

-- the datagrams of lines, the first of them of this number, or the number of the first bad line
unfoldable pub datagrams_from : ℕ → List (List ℕ) → Result (List (List ℕ)) ℕ
datagrams_from number [] = Ok []
datagrams_from number (line ∷ lines) = do
  datagram ← line_at number line
  datagrams ← datagrams_from (number + 1) lines
  Ok (with_first datagram datagrams)

-- the lines of an input, each ended by a newline or by the end of the input
abbrev pub lines_of : List ℕ → List (List ℕ)
lines_of input = slice_split is_newline input

-- the lines of what is left of an input, if it has not come to its end
abbrev pub lines_left : Option (Bor (List ℕ)) → List (List ℕ)
lines_left None = []
lines_left (Some rest) = lines_of rest.now

-- the datagrams of an input, or the number of its first bad line, counted from 1 over all lines
abbrev pub datagrams : List ℕ → Result (List (List ℕ)) ℕ
datagrams input = datagrams_from 1 (lines_of input)

-- an error is that of the definition, or memory ran out
abbrev pub Fails : {Y : Type 0} → RunError → Result Y ℕ → Type 0
Fails (BadLine number) expected = expected ≡ Err number
Fails ReadFault expected = ⊥
Fails WriteFault expected = ⊥
Fails Memory expected = Unit {0}

-- an answer, seen by view, is what the definition gives, or memory ran out
abbrev pub Gives : {X Y : Type 0} → (X → Y) → Result X RunError → Result Y ℕ → Type 0
Gives view (Ok x) expected = expected ≡ Ok (view x)
Gives view (Err e) expected = Fails e expected

-- a datagram was added to bytes; or there is none, and they stayed as they were
abbrev pub Adds : Option (List ℕ) → Bool → List ℕ → List ℕ → Type 0
Adds None added old new = (added ≡ false) × (new ≡ old)
Adds (Some datagram) added old new = (added ≡ true) × (new ≡ old ++ datagram)

-- the datagram that a line has, if it has one, was added to bytes, and the answer says which; or the line is bad, or memory ran out
abbrev pub Reads : List ℕ → List ℕ → Result Bool RunError → Result (Option (List ℕ)) ℕ → Type 0
Reads old new (Ok added) expected = (datagram : Option (List ℕ)) × (expected ≡ Ok datagram) × Adds datagram added old new
Reads old new (Err e) expected = Fails e expected

-- ---- for private clauses: bytes that stand one behind the other, and where each piece of them ends

-- the pieces of bytes of which the first begins at this place, and which end at these
abbrev pub pieces : ℕ → List ℕ → List ℕ → List (List ℕ)
pieces start bytes [] = []
pieces start bytes (end ∷ ends) = slice_range bytes start end ∷ pieces end bytes ends

-- ends that rise from one place to another: none stands before the one in front of it, and the last is that other place
abbrev pub Rise : ℕ → List ℕ → ℕ → Type 0
Rise start [] last = start ≡ last
Rise start (end ∷ ends) last = (start ≤ end) × Rise end ends last
