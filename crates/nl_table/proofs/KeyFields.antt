-- The fields of a key are such as a value can have, where its head and its attributes come from bytes.
use Rattle.std.proofs.Common.{ℕ, ◌<◌, ◌==◌, Bool, true, false, cond, arith, rules}
use Rattle.std.specs.Prelude.{[]}
use Rattle.std.proofs.lemmas.Grind.{common_steps}
use Rattle.std.proofs.lemmas.Nat.{and_le_l}
use Rattle.nl_attr.specs.declared.order.Order.{Order}
use Rattle.nl_attr.specs.Tree.{Items}
use Rattle.nl_route.specs.declared.ndmsg.NeighHead.{NeighHead}
use Rattle.nl_route.specs.declared.family.Family.{Family}
use Rattle.nl_route.specs.declared.family.Family.TheVariants.{Neigh}
use Rattle.nl_route.specs.Fields.{AreRanged}
use Rattle.nl_route.specs.Families.{row}
use Rattle.nl_route.specs.Neigh.{NDA_DST, NDA_LLADDR, NDA_VLAN, NDA_VNI}
use Rattle.nl_route.specs.Views.{bytes_view, number_view}
use Rattle.nl_route.proofs.Fields.{unsigned_below}
use Rattle.nl_table.specs.Keys.{IsKeyField, AreKeyFields, bytes, number}
use Rattle.nl_table.specs.Attributes.{number_at, or_zero, table_id}
use Rattle.nl_table.specs.Neigh.{AF_BRIDGE, IDENTIFYING_FLAGS, bridge_key_fields}
use Rattle.nl_table.specs.Families.{key_fields}
use Rattle.nl_table.proofs.Leaves.{HasLeaves, number_width, or_zero_width, table_width}

module _ (o : Order) (is : Items) (leaves : HasLeaves is) where
  bytes_fit : (n : ℕ) → IsKeyField (bytes (bytes_view n is))
  bytes_fit n = grind (arith, common_steps, leaves n)

  four_fit : (n : ℕ) → IsKeyField (number 4 (number_at o n is))
  four_fit n = or_zero_width 4 (number_view o 4 n is) (number_width o 4 n is leaves)

  two_fit : (n : ℕ) → IsKeyField (number 2 (or_zero (number_view o 2 n is)))
  two_fit n = or_zero_width 2 (number_view o 2 n is) (number_width o 2 n is leaves)

  table_fits : (n of_head : ℕ) → of_head < 256 → IsKeyField (number 4 (table_id o n of_head is))
  table_fits n of_head small = table_width o n of_head is small leaves

  bridge_fits : (h : NeighHead) → AreKeyFields (bridge_key_fields o h is)
  bridge_fits h = by (h.family == AF_BRIDGE)
    where
      by : (b : Bool) → AreKeyFields (cond b (bridge_key_fields o (record h { family = AF_BRIDGE }) is) [])
      by true = (bytes_fit NDA_LLADDR, (two_fit NDA_VLAN, (four_fit NDA_VNI, tt)))
      by false = tt

  pub key_fits : (k : Family) (h : (row k).Head) → AreRanged ((row k).fields h) → AreKeyFields (key_fields k o h is)
  key_fits Neigh h r =
      (r.0, (unsigned_below h.ifindex r.1.0, (omega (arith, and_le_l h.flags IDENTIFYING_FLAGS, r.1.1.1.0), (bytes_fit NDA_DST, bridge_fits h))))
  key_fits k h r = search (rules, unsigned_below, bytes_fit, four_fit, table_fits)
