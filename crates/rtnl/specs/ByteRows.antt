-- Bytes beside what they are: the parts of a datagram, and the rows in which each is printed.
use Rattle.std.specs.Prelude.{◌≡◌, ◌<◌, ◌≤◌, ◌+◌, ◌-◌, ◌*◌, ℕ, nat_lt, min, if◌then◌else◌, List, [], ◌∷◌, ◌++◌, length, replicate, codes, Option, Some, None, IfSome, Ok, Err, Bool, true, false}
use Rattle.std.specs.Fmt.{decimal}
use Rattle.std.specs.List.{flat_map}
use Rattle.json.specs.Json as json
use Rattle.nl_attr.specs.declared.events.Event.{Event}
use Rattle.nl_attr.specs.declared.order.Order.{Order}
use Rattle.nl_attr.specs.declared.broken.BrokenHead.{BrokenHead}
use Rattle.nl_attr.specs.declared.fault.Fault.{Fault}
use Rattle.nl_frame.specs.declared.scanning.ScanError.{ScanError}
use Rattle.nl_frame.specs.declared.scanning.ScanError.TheVariants.{TooLarge, Layout}
use Rattle.nl_frame.specs.Limits.{Bounds}
use Rattle.rtnl.specs.declared.bytes.rows.RowFormat.{RowFormat}
use Rattle.rtnl.specs.declared.bytes.rows.RowFormat.TheVariants.{Text, Coloured, Json}
use Rattle.rtnl.specs.declared.verdict.Verdict.{Verdict}
use Rattle.rtnl.specs.ByteParts.{BytePart, lists_after, marks_of, parts_by, refused_marks}
use Rattle.rtnl.specs.Datagrams.{datagram_line, reason_text}
use Rattle.rtnl.specs.Json.{Field, digits, json_line, number, object, string}
use Rattle.rtnl.specs.Marks.{Label, Mark}
use Rattle.rtnl.specs.Notations.{value_behind, value_json}
use Rattle.rtnl.specs.Runs.{Prints}
use Rattle.rtnl.specs.Shown.{Answer, Answers, is_accepted as is_accepted_answer, refusal_text}
use Rattle.rtnl.specs.Tape.{AreEvents, IsAboutItsHead, IsRefusalOf}
use Rattle.rtnl.specs.Text.{◌⨟◌, padded_hex}

-- a row: where its first byte stands, its bytes, the part that they are of, and whether they are its first
pub record ByteRow : Type 0 where
  pub place : ℕ
  pub bytes : List ℕ
  pub part : BytePart
  pub is_first : Bool

-- ---- text

-- blanks before a place, so that the last digits of places up to five digits stand below one another
unfoldable pub margin : ℕ → List ℕ
margin n =
    if nat_lt n 10 then codes "    " else (
    if nat_lt n 100 then codes "   " else (
    if nat_lt n 1000 then codes "  " else (
    if nat_lt n 10000 then codes " " else codes "")))

-- a byte
unfoldable pub cell : ℕ → List ℕ
cell byte = codes " " ⨟ padded_hex 2 byte

-- so many blanks
unfoldable pub blanks : ℕ → List ℕ
blanks n = replicate n 32

-- what begins a colour of the terminal, and what ends it (ECMA-48, "SGR")
abbrev pub escape : List ℕ → List ℕ
escape words = 27 ∷ words

-- what begins bold red words
abbrev pub red : List ℕ
red = escape (codes "[1;31m")

-- the colour of words: red where the datagram is refused, faint beside bytes that say nothing
unfoldable pub paint : Bool → Option ScanError → List ℕ
paint is_aside (Some e) = red
paint true None = escape (codes "[2m")
paint false None = []

-- the end of a colour, where there is one
abbrev pub unpaint : List ℕ → List ℕ
unpaint [] = []
unpaint (byte ∷ bytes) = escape (codes "[0m")

-- what marks a refusal
unfoldable pub mark : Option ScanError → List ℕ
mark None = []
mark (Some e) = codes "!! "

-- a rule that is broken, and where
unfoldable pub rule_at : Fault → List ℕ
rule_at f = reason_text f.reason ⨟ codes " at " ⨟ decimal f.place

-- the rule that a head breaks, its place, and the bytes that are left for it
unfoldable pub fault_behind : BrokenHead → List ℕ
fault_behind h = codes ": " ⨟ rule_at h.fault ⨟ codes ", " ⨟ decimal h.left ⨟ codes " bytes left"

-- why the datagram is refused there
unfoldable pub refusal_behind : Option ScanError → List ℕ
refusal_behind None = []
refusal_behind (Some TooLarge) = codes ": too large"
refusal_behind (Some (Layout h)) = fault_behind h

-- the words of a part: its name, the value of its bytes, and why the datagram is refused there
unfoldable pub words : Order → BytePart → List ℕ
words o p = mark p.refusal ⨟ p.label.name ⨟ value_behind o p.label.notation p.bytes ⨟ refusal_behind p.refusal

-- the same in a colour
unfoldable pub painted : List ℕ → List ℕ → List ℕ
painted colour text = colour ⨟ text ⨟ unpaint colour

-- the words as they are printed
abbrev pub words_in : Bool → Order → BytePart → List ℕ
words_in true o p = painted (paint p.label.is_aside p.refusal) (words o p)
words_in false o p = words o p

-- what stands beside the bytes of a row: on the first of its part the words, in one column but for the indentation
abbrev pub beside : Bool → Order → ByteRow → List ℕ
beside coloured o r =
    if r.is_first then blanks (3 * (16 - length r.bytes) + (2 + r.part.label.indent)) ⨟ words_in coloured o r.part
    else []

-- a row: its place in decimal, its bytes, and what stands beside them
unfoldable pub row_text : Bool → Order → ByteRow → List ℕ
row_text coloured o r =
    margin r.place ⨟ decimal r.place ⨟ codes " " ⨟ flat_map cell r.bytes ⨟ beside coloured o r ⨟ codes "\n"

-- ---- JSON

-- why a datagram is refused
unfoldable pub refusal_json : Option ScanError → json.Json
refusal_json None = json.null
refusal_json (Some TooLarge) = string (codes "too large")
refusal_json (Some (Layout h)) = string (reason_text h.fault.reason)

-- the value of the bytes of a part, and why the datagram is refused there: on the first row
abbrev pub first_fields : Order → ByteRow → List Field
first_fields o r =
    if r.is_first then (codes "value", value_json o r.part.label.notation r.part.bytes) ∷ (codes "fault", refusal_json r.part.refusal) ∷ []
    else (codes "value", json.null) ∷ (codes "fault", json.null) ∷ []

-- the number of its datagram, its place, and its bytes
unfoldable pub place_fields : ℕ → ByteRow → List Field
place_fields n r =
    (codes "datagram", number n)
    ∷ (codes "offset", number r.place)
    ∷ (codes "length", number (length r.bytes))
    ∷ (codes "bytes", digits r.bytes) ∷ []

-- the level and the name of a part
unfoldable pub label_fields : Label → List Field
label_fields label =
    (codes "level", number label.level)
    ∷ (codes "name", string label.name) ∷ []

-- a row of the datagram of this number
abbrev pub row_json : ℕ → Order → ByteRow → List ℕ
row_json n o r = json_line (object (place_fields n r ++ (label_fields r.part.label ++ first_fields o r)))

-- ---- parts and rows

-- a row of the datagram of this number, as it is printed
abbrev pub row_printed : RowFormat → Order → ℕ → ByteRow → List ℕ
row_printed Text o n r = row_text false o r
row_printed Coloured o n r = row_text true o r
row_printed Json o n r = row_json n o r

-- bytes of a part from a place on stand in these rows: each byte once and in order, at most sixteen in a row
abbrev pub AreRows : BytePart → Bool → ℕ → List ℕ → List ByteRow → Type 0
AreRows p is_first place d [] = d ≡ []
AreRows p is_first place d (r ∷ rows) =
    (r.part ≡ p) × (r.is_first ≡ is_first) × (r.place ≡ place) × (0 < length r.bytes) × (length r.bytes ≤ 16)
    × (rest : List ℕ) × (d ≡ r.bytes ++ rest) × AreRows p false (place + length r.bytes) rest rows

-- bytes from a place on are these parts, one after another, none of them empty, and a refusal stands at the first
abbrev pub AreParts : ℕ → List ℕ → Option ScanError → List BytePart → Type 0
AreParts place d refusal [] = d ≡ []
AreParts place d refusal (p ∷ parts) =
    (p.place ≡ place) × (p.refusal ≡ refusal) × (0 < length p.bytes)
    × (rest : List ℕ) × (d ≡ p.bytes ++ rest) × AreParts (place + length p.bytes) rest None parts

-- the rows of parts, one part after another
abbrev pub AreRowsOf : List BytePart → List ByteRow → Type 0
AreRowsOf [] rows = rows ≡ []
AreRowsOf (p ∷ parts) rows =
    (mine others : List ByteRow) × (rows ≡ mine ++ others) × AreRows p true p.place p.bytes mine × AreRowsOf parts others

-- bytes from a place on stand in these rows, by what they are, part after part, and a refusal stands at the first
abbrev pub HasRows : ℕ → List ℕ → Option ScanError → List Mark → List ByteRow → Type 0
HasRows place d refusal marks rows =
    AreParts place d refusal (parts_by place d refusal marks) × AreRowsOf (parts_by place d refusal marks) rows

-- where a datagram is refused: at the place of its first fault, or at its front where it is too large
abbrev pub refused_at : ScanError → ℕ
refused_at TooLarge = 0
refused_at (Layout h) = h.fault.place

-- the rows of a whole datagram, by what its events say of its bytes: a refusal stands at the part that begins where it is refused, and at no other, and from there on the bytes are those of the head that breaks a rule
abbrev pub HasAllRows : Order → List ℕ → List Event → Option ScanError → List ByteRow → Type 0
HasAllRows o d es None rows = HasRows 0 d None (marks_of o d es) rows
HasAllRows o d es (Some e) rows =
    (before behind : List ℕ) × (d ≡ before ++ behind) × (length before ≡ min (refused_at e) (length d))
    × (front end : List ByteRow) × (rows ≡ front ++ end)
    × HasRows 0 before None (marks_of o d es) front × HasRows (length before) behind (Some e) (refused_marks (lists_after o d [] es) e) end

-- one of the bytes stands where the datagram is refused
abbrev pub IsAtByte : List ℕ → Option ScanError → Type 0
IsAtByte d refusal = IfSome refusal (λ e. refused_at e < length d)

-- ---- a recording

-- what is found of a datagram that is shown in bytes: its events, its rows, its answer, and the head at which a scan refuses it
pub record Viewed : Type 0 where
  pub events : List Event
  pub rows : List ByteRow
  pub answer : Answer
  pub refusal : Option ScanError

-- the rows are of all its bytes, by its events, the answer and the refusal its own, by the head that breaks a rule, and a row has the refusal
abbrev pub Views : Bounds → List ℕ → Viewed → Type 0
Views b d v =
    AreEvents b d v.events × HasAllRows b.shape.order d v.events v.refusal v.rows
    × Answers b d v.answer × IsRefusalOf v.answer v.refusal × IsAboutItsHead b d v.refusal × IsAtByte d v.refusal

-- the line before the rows of a datagram in text
abbrev pub opening : RowFormat → ℕ → List ℕ → List ℕ
opening Text n d = datagram_line n (length d)
opening Coloured n d = datagram_line n (length d)
opening Json n d = []

-- the line of a refusal behind them, or nothing
abbrev pub answer_line : Answer → List ℕ
answer_line (Ok ms) = []
answer_line (Err e) = refusal_text e

-- the same in text alone: in JSON the refusal stands in a row
abbrev pub ending : RowFormat → Answer → List ℕ
ending Text a = answer_line a
ending Coloured a = answer_line a
ending Json a = []

-- the datagram of this number: its line, its rows, and the line of its refusal
abbrev pub viewed_text : RowFormat → Order → ℕ → List ℕ → Viewed → List ℕ
viewed_text f o n d v = opening f n d ++ (flat_map (row_printed f o n) v.rows ++ ending f v.answer)

abbrev pub is_accepted : Viewed → Bool
is_accepted v = is_accepted_answer v.answer

-- what is shown of datagrams in bytes, and the verdict on them
abbrev pub ShowsBytes : RowFormat → Bounds → List (List ℕ) → List ℕ → Verdict → Type 0
ShowsBytes f b = Prints (Views b) (viewed_text f b.shape.order) is_accepted
