-- How many bytes a list keeps: those of its leaves, 4 for each attribute and 8 for each next hop.
use Rattle.std.specs.Prelude.{◌+◌, ℕ, length}
use Rattle.nl_attr.specs.Tree.{Val, bytes, list, hops, Items, no_items, item, HopItems, no_hops, hop}

abbrev mutual
  -- of a value
  pub value_kept : Val → ℕ
  value_kept (bytes bs) = length bs
  value_kept (list is) = kept is
  value_kept (hops hs) = hops_kept hs

  -- of a list
  pub kept : Items → ℕ
  kept no_items = 0
  kept (item n flags v more) = 4 + (value_kept v + kept more)

  -- of next hops
  pub hops_kept : HopItems → ℕ
  hops_kept no_hops = 0
  hops_kept (hop flags count index attrs more) = 8 + (kept attrs + hops_kept more)
