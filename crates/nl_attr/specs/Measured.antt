-- What one walk over a list measures: nothing where it is mismatched, else whether it is too deep, and its length where it is not too long.
use Rattle.std.specs.Prelude.{ℕ, ◌+◌, ◌-◌, false, ◌||◌, nat_lt, if◌then◌else◌, length, Option, Some, None, Result, Err, ok_or}
use Rattle.nl_attr.specs.Fixed.{LONGEST_REGION, LONGEST_ITEM, NUMBERS}
use Rattle.nl_attr.specs.declared.fault.WriteError.{WriteError}
use Rattle.nl_attr.specs.declared.fault.WriteError.TheVariants.{Mismatch, TooDeep, TooLong}
use Rattle.nl_attr.specs.declared.measuring.Extent.{Extent}
use Rattle.nl_attr.specs.declared.tree.Ctx.{Ctx}
use Rattle.nl_attr.specs.declared.tree.Ctx.TheVariants.{Route}
use Rattle.nl_attr.specs.declared.tree.Content.{Content}
use Rattle.nl_attr.specs.declared.tree.Content.TheVariants as content
use Rattle.nl_attr.specs.Numbers.{aligned}
use Rattle.nl_attr.specs.Tree.{Val, bytes, list, hops, Items, no_items, item, HopItems, no_hops, hop, holds_of}

-- two parts of a region, which has at most 1,048,576 bytes
abbrev pub region_len : Option ℕ → Option ℕ → Option ℕ
region_len None b = None
region_len (Some a) None = None
region_len (Some a) (Some b) = if nat_lt LONGEST_REGION (a + b) then None else Some (a + b)

-- an item with its head and its padding, whose length field has 16 bits
abbrev pub item_len : ℕ → Option ℕ → Option ℕ
item_len h None = None
item_len h (Some n) = if nat_lt LONGEST_ITEM (h + n) then None else Some (aligned (h + n))

-- what an empty list measures
abbrev pub empty_extent : Extent
empty_extent = record { deep = false; len = Some 0 }

-- a part and what stands behind it
abbrev pub join : Option Extent → Option Extent → Option Extent
join None b = None
join (Some a) None = None
join (Some a) (Some b) = Some (record { deep = a.deep || b.deep; len = region_len a.len b.len })

-- an item whose head has h bytes
abbrev pub extent_of_item : ℕ → Option Extent → Option Extent
extent_of_item h None = None
extent_of_item h (Some e) = Some (record { deep = e.deep; len = item_len h e.len })

-- a container that opens n levels, where there is room for so many
abbrev pub container_extent : ℕ → ℕ → Option Extent → Option Extent
container_extent n room None = None
container_extent n room (Some e) = Some (record { deep = nat_lt room n || e.deep; len = e.len })

abbrev mutual
  -- a value, of an attribute that holds this
  pub extent_of_val : Val → Content → ℕ → Option Extent
  extent_of_val (bytes bs) content.Bytes room = Some (record { deep = false; len = Some (length bs) })
  extent_of_val (list is) (content.List c) room = container_extent 1 room (extent_of is c (room - 1))
  extent_of_val (hops hs) content.Hops room = container_extent 2 room (extent_of_hops hs (room - 1))
  extent_of_val v c room = None

  -- a list of which containers may open so many levels
  pub extent_of : Items → Ctx → ℕ → Option Extent
  extent_of no_items ctx room = Some empty_extent
  extent_of (item n flags v more) ctx room =
      join (if nat_lt (NUMBERS - 1) n then None else extent_of_item 4 (extent_of_val v (holds_of ctx n flags) room)) (extent_of more ctx room)

  -- next hops that may open so many levels
  pub extent_of_hops : HopItems → ℕ → Option Extent
  extent_of_hops no_hops room = Some empty_extent
  extent_of_hops (hop flags count index attrs more) room = join (extent_of_item 8 (extent_of attrs Route (room - 1))) (extent_of_hops more room)

-- the length of what was measured, or the first refusal that applies
abbrev pub length_of : Option Extent → Result ℕ WriteError
length_of None = Err Mismatch
length_of (Some e) = if e.deep then Err TooDeep else ok_or e.len TooLong
