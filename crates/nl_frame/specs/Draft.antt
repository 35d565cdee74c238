-- What was put into a builder, as trees: ended messages and open headers. And which bytes that is.
use Rattle.std.specs.Prelude.{◌≡◌, ◌≢◌, ◌+◌, ◌<◌, ◌≤◌, ◌^◌, ℕ, ℤ, List, [], ◌∷◌, ◌++◌, length, FitsSigned}
use Rattle.std.specs.Int.{w32}
use Rattle.nl_attr.specs.Fixed.{NUMBERS}
use Rattle.nl_attr.specs.declared.order.Order.{Order}
use Rattle.nl_attr.specs.declared.tree.AttrFlags.{AttrFlags}
use Rattle.nl_attr.specs.declared.tree.Ctx.{Ctx}
use Rattle.nl_attr.specs.declared.tree.Ctx.TheVariants.{Route}
use Rattle.nl_attr.specs.declared.tree.Content.{Content}
use Rattle.nl_attr.specs.declared.tree.Content.TheVariants as content
use Rattle.nl_attr.specs.Tree.{Val, bytes, list, hops, Items, no_items, item, HopItems, no_hops, hop, holds_of}
use Rattle.nl_attr.specs.Written.{written_val}
use Rattle.nl_attr.specs.Proper.{IsMismatchedVal, IsRangedVal}
use Rattle.nl_attr.specs.Proper as attrs
use Rattle.nl_route.specs.Fields.{AreRanged}
use Rattle.nl_route.specs.Families.{AnyHead, context_of, family_of, fields_of}
use Rattle.nl_frame.specs.declared.building.OpenHead.{OpenHead}
use Rattle.nl_frame.specs.declared.form.Form.TheVariants as form
use Rattle.nl_frame.specs.Form.{form_of}
use Rattle.nl_frame.specs.Limits.{Bounds, AreLimits}
use Rattle.nl_frame.specs.Message.{BodyVal, object, MessageVal}
use Rattle.nl_frame.specs.Written.{written}
use Rattle.nl_frame.specs.Proper.{IsMismatched, IsDeep, HasLong, IsRanged}
use Rattle.nl_frame.specs.Building.{Built, order_of, levels_in, attr_begun, hop_begun, header_begun, message_begun, no_flags}

-- an open header: of a message (its fields and family header), an attribute, or a next hop
pub data Begun : Type 0 where
  message : ℕ → ℕ → ℕ → ℕ → AnyHead → Begun
  attribute : ℕ → AttrFlags → Begun
  next_hop : ℕ → ℕ → ℤ → Begun

-- an open header, and what was put behind it
pub record Layer : Type 0 where
  pub head : Begun
  pub inside : Val

-- the messages that have ended, in order, and the open headers, the innermost first
pub record Draft : Type 0 where
  pub ended : List MessageVal
  pub layers : List Layer

-- ---- what each call puts

-- the draft of nothing
abbrev pub nothing_put : Draft
nothing_put = record { ended = []; layers = [] }

-- attributes with one more behind them
abbrev pub and_item : Items → ℕ → AttrFlags → Val → Items
and_item no_items n f v = item n f v no_items
and_item (item m g w more) n f v = item m g w (and_item more n f v)

-- next hops with one more behind them
abbrev pub and_hop : HopItems → ℕ → ℕ → ℤ → Items → HopItems
and_hop no_hops f c i is = hop f c i is no_hops
and_hop (hop g d j js more) f c i is = hop g d j js (and_hop more f c i is)

-- one more attribute, where attributes belong
abbrev pub val_and_item : Val → ℕ → AttrFlags → Val → Val
val_and_item (list is) n f v = list (and_item is n f v)
val_and_item w n f v = w

-- one more next hop, where next hops belong
abbrev pub val_and_hop : Val → ℕ → ℕ → ℤ → Items → Val
val_and_hop (hops hs) f c i is = hops (and_hop hs f c i is)
val_and_hop w f c i is = w

-- one more attribute behind the innermost open header
abbrev pub layers_and_item : List Layer → ℕ → AttrFlags → Val → List Layer
layers_and_item [] n f v = []
layers_and_item (x ∷ xs) n f v = record x { inside = val_and_item x.inside n f v } ∷ xs

-- one more next hop behind the innermost open header
abbrev pub layers_and_hop : List Layer → ℕ → ℕ → ℤ → Items → List Layer
layers_and_hop [] f c i is = []
layers_and_hop (x ∷ xs) f c i is = record x { inside = val_and_hop x.inside f c i is } ∷ xs

-- an attribute of bytes is put
abbrev pub put : Draft → ℕ → AttrFlags → List ℕ → Draft
put d n f bs = record d { layers = layers_and_item d.layers n f (bytes bs) }

-- what an attribute of this type and flags holds, inside this content
abbrev pub content_in : Content → ℕ → AttrFlags → Content
content_in (content.List c) n f = holds_of c n f
content_in c n f = content.Bytes

-- what belongs behind an open header
abbrev pub content_behind : Begun → Content → Content
content_behind (message kind flags seq port h) outside = content.List (context_of (family_of h))
content_behind (attribute n f) outside = content_in outside n f
content_behind (next_hop f c i) outside = content.List Route

-- what belongs behind the innermost open header
abbrev pub content_at : List Layer → Content
content_at [] = content.Bytes
content_at (x ∷ xs) = content_behind x.head (content_at xs)

-- no items of this content
abbrev pub none_of : Content → Val
none_of content.Bytes = bytes []
none_of (content.List c) = list no_items
none_of content.Hops = hops no_hops

-- a header is opened
abbrev pub open_head : Draft → Begun → Draft
open_head d h = record d { layers = record { head = h; inside = none_of (content_behind h (content_at d.layers)) } ∷ d.layers }

-- the attributes among what was put
abbrev pub items_in : Val → Items
items_in (list is) = is
items_in v = no_items

-- what an open header began is put behind the innermost of the others
abbrev pub layers_and : Begun → Val → List Layer → List Layer
layers_and (message kind flags seq port h) v xs = xs
layers_and (attribute n f) v xs = layers_and_item xs n f v
layers_and (next_hop f c i) v xs = layers_and_hop xs f c i (items_in v)

-- the innermost header is closed, and its item put behind the one around it
abbrev pub layers_closed : List Layer → List Layer
layers_closed [] = []
layers_closed (x ∷ xs) = layers_and x.head x.inside xs

-- an attribute or a next hop is closed
abbrev pub close : Draft → Draft
close d = record d { layers = layers_closed d.layers }

-- a next hop that holds one attribute is put whole
abbrev pub put_hop : Draft → ℕ → ℕ → ℤ → ℕ → List ℕ → Draft
put_hop d f c i n bs = close (put (open_head d (next_hop f c i)) n no_flags bs)

-- the message that an open header began, with what was put behind it
abbrev pub message_in : Begun → Val → List MessageVal
message_in (message kind flags seq port h) v = record { kind = kind; flags = flags; seq = seq; port = port; body = object h (items_in v) } ∷ []
message_in b v = []

-- the message that the outermost open header began
abbrev pub messages_in : List Layer → List MessageVal
messages_in [] = []
messages_in (x ∷ xs) = message_in x.head x.inside

-- the message ends
abbrev pub end : Draft → Draft
end d = record { ended = d.ended ++ messages_in d.layers; layers = [] }

-- a whole message is put
abbrev pub put_message : Draft → ℕ → ℕ → ℕ → ℕ → BodyVal → Draft
put_message d kind flags seq port v = record d { ended = d.ended ++ record { kind = kind; flags = flags; seq = seq; port = port; body = v } ∷ [] }

-- ---- which bytes a draft is

module _ (o : Order) where
  -- the bytes of an open header, with 0 for its length
  abbrev pub begun_bytes : Begun → List ℕ
  begun_bytes (message kind flags seq port h) = message_begun o (header_begun kind flags seq port) h
  begun_bytes (attribute n f) = attr_begun o n f
  begun_bytes (next_hop f c i) = hop_begun o f c i

  -- the bytes of the messages, and then of each open header and what was put behind it
  abbrev pub laid : List MessageVal → List Layer → List ℕ
  laid ms [] = written o ms
  laid ms (x ∷ xs) = laid ms xs ++ (begun_bytes x.head ++ written_val o x.inside)

  -- the open headers, with their offsets
  abbrev pub heads_of : List MessageVal → List Layer → List OpenHead
  heads_of ms [] = []
  heads_of ms (x ∷ xs) = record { start = length (laid ms xs); content = content_at (x ∷ xs) } ∷ heads_of ms xs

-- ---- which drafts can be written

-- what was put at level l opens a level beyond the depth limit D
abbrev pub IsDeepIn : Val → ℕ → ℕ → Type 0
IsDeepIn (bytes bs) l D = ⊥
IsDeepIn (list is) l D = attrs.IsDeep is l D
IsDeepIn (hops hs) l D = attrs.IsDeepHops hs l D

-- something in what was put is too long
abbrev pub HasLongIn : Val → Type 0
HasLongIn (bytes bs) = ⊥
HasLongIn (list is) = attrs.HasLong is
HasLongIn (hops hs) = attrs.HasLongHops hs

-- this header may be opened inside these
abbrev pub MayBegin : ℕ → Begun → List Layer → Type 0
MayBegin D (message kind flags seq port h) xs =
    (xs ≡ []) × (form_of kind ≡ form.Object (family_of h)) × (kind < 2 ^ 16) × (flags < 2 ^ 16) × (seq < 2 ^ 32) × (port < 2 ^ 32)
    × AreRanged (fields_of h)
MayBegin D (attribute n f) xs =
    (n < NUMBERS) × (c : Ctx) × (content_at xs ≡ content.List c) × (holds_of c n f ≢ content.Bytes) × (length xs + levels_in (holds_of c n f) ≤ D)
MayBegin D (next_hop f c i) xs = FitsSigned w32 i × (content_at xs ≡ content.Hops)

-- an open header that may be there, with what may be put behind it
pub record IsLayer (D : ℕ) (x : Layer) (xs : List Layer) : Type 0 where
  pub head : MayBegin D x.head xs
  pub matched : IsMismatchedVal x.inside (content_at (x ∷ xs)) → ⊥
  pub shallow : IsDeepIn x.inside (length xs) D → ⊥
  pub short : HasLongIn x.inside → ⊥
  pub ranged : IsRangedVal x.inside

-- each open header
abbrev pub AreLayers : ℕ → List Layer → Type 0
AreLayers D [] = Unit {0}
AreLayers D (x ∷ xs) = IsLayer D x xs × AreLayers D xs

-- the builder's state is this draft's within the limits L, and all of the draft can be written
pub record Holds (L : Bounds) (b : Built) (d : Draft) : Type 0 where
  pub bounds : b.bounds ≡ L
  pub front : b.front ≡ laid (order_of b) d.ended d.layers
  pub heads : b.heads ≡ heads_of (order_of b) d.ended d.layers
  pub layers : AreLayers b.bounds.shape.depth d.layers
  pub matched : IsMismatched d.ended → ⊥
  pub shallow : IsDeep d.ended b.bounds.shape.depth → ⊥
  pub short : HasLong d.ended → ⊥
  pub ranged : IsRanged d.ended
  -- the limits are kept
  pub limits : AreLimits b.bounds
  pub size : length b.front ≤ b.bounds.datagram
