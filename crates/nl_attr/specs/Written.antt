-- The bytes that a list is written as, and how many they are.
use Rattle.std.specs.Prelude.{◌+◌, ◌-◌, ℕ, ℤ, List, [], ◌∷◌, ◌++◌, length, replicate}
use Rattle.std.specs.Int.{w32, cast_unsigned}
use Rattle.nl_attr.specs.declared.order.Order.{Order}
use Rattle.nl_attr.specs.declared.tree.AttrFlags.{AttrFlags}
use Rattle.nl_attr.specs.Numbers.{aligned, num}
use Rattle.nl_attr.specs.Layout.{kind_number}
use Rattle.nl_attr.specs.Tree.{Val, bytes, list, hops, Items, no_items, item, HopItems, no_hops, hop}

-- an item and zeros up to the aligned length
abbrev pub with_padding : List ℕ → List ℕ
with_padding it = it ++ replicate (aligned (length it) - length it) 0

module _ (o : Order) where
  -- an attribute: its length, its type, its payload
  abbrev pub attr_item : ℕ → AttrFlags → List ℕ → List ℕ
  attr_item n flags payload = num (4 + length payload) 2 o ++ (num (kind_number n flags) 2 o ++ payload)

  -- a next hop: its length, flags, hops, the index of the interface, its attributes
  abbrev pub hop_item : ℕ → ℕ → ℤ → List ℕ → List ℕ
  hop_item flags count index payload = num (8 + length payload) 2 o ++ (flags ∷ count ∷ (num (cast_unsigned w32 index) 4 o ++ payload))

  abbrev mutual
    -- the payload of an attribute with this value
    pub written_val : Val → List ℕ
    written_val (bytes bs) = bs
    written_val (list is) = written is
    written_val (hops hs) = written_hops hs

    -- each attribute with its padding, the last one too
    pub written : Items → List ℕ
    written no_items = []
    written (item n flags v more) = with_padding (attr_item n flags (written_val v)) ++ written more

    pub written_hops : HopItems → List ℕ
    written_hops no_hops = []
    written_hops (hop flags count index attrs more) = with_padding (hop_item flags count index (written attrs)) ++ written_hops more

abbrev mutual
  -- how many bytes are written, in either order
  pub val_len : Val → ℕ
  val_len (bytes bs) = length bs
  val_len (list is) = items_len is
  val_len (hops hs) = hops_len hs

  -- of a list
  pub items_len : Items → ℕ
  items_len no_items = 0
  items_len (item n flags v more) = aligned (4 + val_len v) + items_len more

  -- of next hops
  pub hops_len : HopItems → ℕ
  hops_len no_hops = 0
  hops_len (hop flags count index attrs more) = aligned (8 + items_len attrs) + hops_len more
