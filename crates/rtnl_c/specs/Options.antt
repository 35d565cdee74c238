-- The limits for which C asks.
use Rattle.std.specs.Prelude.{Bool, if◌then◌else◌}
use Rattle.nl_attr.specs.declared.order.Order.{Order}
use Rattle.nl_attr.specs.declared.order.Order.TheVariants.{Little, Big}
use Rattle.nl_frame.specs.Limits.{Bounds, bounds_of}
use Rattle.rtnl_c.specs.declared.options.Options.{Options}

-- the order of numbers
abbrev pub order_in : Bool → Order
order_in big = if big then Big else Little

-- the limits of any call, whether it looks at each or not
abbrev pub bounds_in : Options → Bounds
bounds_in o = bounds_of (order_in o.big) o.depth o.datagram o.total o.entries
