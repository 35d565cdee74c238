use Rattle.std.proofs.Common.{◌≡◌, ◌≤◌, length, drop}
use Rattle.std.specs.Option.{option_copied}
use Rattle.nl_attr.specs.View.{attrs_view}
use Rattle.nl_route.specs.Route as fixed
use Rattle.nl_route.specs.Views.{bytes_view}
use Rattle.nl_table.specs.Attributes.{number_at, table_id}
use Rattle.nl_table.proofs.families.route.parts_of.Given as goal

abbrev pub invariant-loop-at : goal.invariant-loop-at
invariant-loop-at l =
    let is = attrs_view (drop l.at l.route.attrs.items) in
    record {
      within : l.at ≤ length l.route.attrs.items;
      dst : option_copied l.parts.dst ≡ bytes_view fixed.RTA_DST is;
      src : option_copied l.parts.src ≡ bytes_view fixed.RTA_SRC is;
      gateway : option_copied l.parts.gateway ≡ bytes_view fixed.RTA_GATEWAY is;
      table : l.parts.table ≡ table_id l.order fixed.RTA_TABLE l.table is;
      priority : l.parts.priority ≡ number_at l.order fixed.RTA_PRIORITY is;
      interface : l.parts.interface ≡ number_at l.order fixed.RTA_OIF is;
    }

abbrev pub decreases-loop-at : goal.decreases-loop-at
decreases-loop-at l = l.at
