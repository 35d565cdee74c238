-- The printed text in colours, for a terminal.
use Rattle.std.specs.Prelude.{◌≡◌, ◌⊎◌, ℕ, ◌-◌, ◌==◌, Bool, if◌then◌else◌, List, [], ◌∷◌, ◌++◌, codes, drop, length, map, nat_eq, take, take_while}
use Rattle.std.specs.List.{after_first, before_first, join_with_byte, position_or_len, prefix_len, starts_with}
use Rattle.nl_attr.specs.declared.order.Order.{Order}
use Rattle.nl_frame.specs.Limits.{Bounds}
use Rattle.rtnl.specs.ByteRows.{escape, painted as in_colour, red}
use Rattle.rtnl.specs.Lines.{lines_of}
use Rattle.rtnl.specs.Runs.{Prints}
use Rattle.rtnl.specs.Shown.{Answer, Answers, datagram_text, is_accepted}
use Rattle.rtnl.specs.Text.{◌⨟◌}
use Rattle.rtnl.specs.declared.verdict.Verdict.{Verdict}

-- what begins bold words, and cyan ones
abbrev pub bold : List ℕ
bold = escape (codes "[1m")

abbrev pub cyan : List ℕ
cyan = escape (codes "[36m")

-- what ends a word
abbrev pub is_space : ℕ → Bool
is_space byte = byte == 32

-- what stands behind the first two words
abbrev pub third : List ℕ → List ℕ
third words = after_first is_space (after_first is_space words)

-- words, the first of them in a colour
unfoldable pub first_in : List ℕ → List ℕ → List ℕ
first_in colour words = in_colour colour (before_first is_space words) ⨟ drop (position_or_len is_space words) words

-- words, the third of them in a colour
unfoldable pub third_in : List ℕ → List ℕ → List ℕ
third_in colour words = take (length words - length (third words)) words ⨟ first_in colour (third words)

-- the words of a line: the type of a message is bold, the name of an attribute cyan
unfoldable pub painted_words : List ℕ → List ℕ
painted_words words =
    if starts_with nat_eq words (codes "message ") then third_in bold words
    else if starts_with nat_eq words (codes "attr ") then third_in cyan words
    else words

-- a line: that of a refusal is red, and of any other the words are painted behind the indentation
unfoldable pub painted_line : List ℕ → List ℕ
painted_line line =
    if starts_with nat_eq line (codes "refused ") then in_colour red line
    else take_while is_space line ⨟ painted_words (drop (prefix_len is_space line) line)

-- a text, line by line
unfoldable pub painted : List ℕ → List ℕ
painted text = join_with_byte 10 (map painted_line (lines_of text))

-- ---- without the colours

-- what begins a colour, and what ends it
abbrev pub IsEscape : List ℕ → Type 0
IsEscape text = (text ≡ bold) ⊎ (text ≡ cyan) ⊎ (text ≡ red) ⊎ (text ≡ escape (codes "[0m"))

-- a text in colours is a plain one with escapes put in
pub data Colours : List ℕ → List ℕ → Type 0 where
  nothing : Colours [] []
  byte : (b : ℕ) (coloured plain : List ℕ) → Colours coloured plain → Colours (b ∷ coloured) (b ∷ plain)
  put_in : (piece coloured plain : List ℕ) → IsEscape piece → Colours coloured plain → Colours (piece ++ coloured) plain

-- ---- a recording

-- the datagram of this number, in colours
abbrev pub coloured_text : Order → ℕ → List ℕ → Answer → List ℕ
coloured_text o number d a = painted (datagram_text o number d a)

-- what is shown of datagrams in colours, and the verdict on them
abbrev pub ShowsColoured : Bounds → List (List ℕ) → List ℕ → Verdict → Type 0
ShowsColoured b = Prints (Answers b) (coloured_text b.shape.order) is_accepted
