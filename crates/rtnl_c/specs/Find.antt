-- The first attribute of a number at a place of a region or behind it.
use Rattle.std.specs.Prelude.{◌≡◌, ◌≢◌, ◌≤◌, ◌+◌, ◌==◌, ℕ, if◌then◌else◌, max, List, length, take, drop, Option, Some, None}
use Rattle.nl_attr.specs.declared.order.Order.{Order}
use Rattle.nl_attr.specs.declared.tree.Ctx.{Ctx}
use Rattle.nl_attr.specs.Layout.{Fits, FitsVal}
use Rattle.nl_attr.specs.Shape.{Shape}
use Rattle.nl_attr.specs.Tree.{Items, no_items, item, holds_of}
use Rattle.nl_attr.specs.Views.{Entry, first_of}
use Rattle.rtnl_c.specs.declared.cursors.AttrAt.{AttrAt}
use Rattle.rtnl_c.specs.Cursors.{AttrStands, no_attr}

module _ (o : Order) (bytes : List ℕ) (number : ℕ) where
  -- what is found from a place on: the attribute there, where it has the number; that none stands there; or what is found behind one of another number
  pub data Finds : ℕ → AttrAt → Type 0 where
    found : (place : ℕ) (a : AttrAt) → AttrStands o bytes place a → a.code ≡ 0 → a.number ≡ number → Finds place a
    ended : (place : ℕ) (a : AttrAt) → AttrStands o bytes place a → a.code ≢ 0 → Finds place a
    further : (place : ℕ) (b a : AttrAt) → AttrStands o bytes place b → b.code ≡ 0 → b.number ≢ number → Finds b.next a → Finds place a

-- ---- of a list that fits

-- the payload of an attribute in these bytes
abbrev pub payload_in : List ℕ → AttrAt → List ℕ
payload_in bytes a = take a.len (drop (a.place + 4) bytes)

-- an attribute of a list, as it stands in the bytes that the list fits: its payload has its value
pub record IsEntry (S : Shape) (ctx : Ctx) (l : ℕ) (bytes : List ℕ) (e : Entry) (a : AttrAt) : Type 0 where
  pub code : a.code ≡ 0
  pub within : a.place + 4 + a.len ≤ length bytes
  pub number : a.number ≡ e.number
  pub flags : record { nested = a.nested; net = a.net } ≡ e.flags
  pub value : FitsVal S e.value (holds_of ctx e.number e.flags) (payload_in bytes a) (a.len + 4) l

-- the list from its first attribute of a number on
abbrev pub from_first : Items → ℕ → Items
from_first no_items number = no_items
from_first (item n flags v more) number = if n == number then item n flags v more else from_first more number

-- the answer of the first attribute of a number, searched from a place on; where there is none, of the end of the bytes
abbrev pub AnswersEntry : Shape → Ctx → ℕ → List ℕ → ℕ → Option Entry → AttrAt → Type 0
AnswersEntry S ctx l bytes place None a = a ≡ no_attr (max place (length bytes)) 255
AnswersEntry S ctx l bytes place (Some e) a = IsEntry S ctx l bytes e a

-- the answer of the first attribute of a number in a list, searched from a place on: the list from there on fits the bytes from its place on
pub record IsFirst (S : Shape) (ctx : Ctx) (l : ℕ) (bytes : List ℕ) (place : ℕ) (items : Items) (number : ℕ) (a : AttrAt) : Type 0 where
  pub entry : AnswersEntry S ctx l bytes place (first_of items number) a
  pub stands : Fits S (from_first items number) (drop a.place bytes) ctx l
