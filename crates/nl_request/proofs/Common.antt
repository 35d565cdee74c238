-- The names that most proofs of this crate cite, passed on from one place. Declares nothing.
pub use Rattle.std.proofs.Common.{◌≡◌, ℕ, ◌<◌, List, [], ◌∷◌, ◌++◌, Option, Some, None, Result, Ok, Err, OnOk, refl, sym, ap, subst, ◌∙◌, inl, inr, arith, append-nil, ◌+◌, ◌==◌, false, length, get_or, drop, map, FitsSigned, append_assoc, nat_lt, if◌then◌else◌, Bool, true, Bor, lit<, ◌≤◌}
pub use Rattle.nl_attr.specs.Fixed.{NUMBERS, RTA_METRICS, RTA_MULTIPATH, IFLA_LINKINFO}
pub use Rattle.nl_attr.specs.Proper.{IsMismatchedVal, IsRangedVal, IsRanged, IsRangedHops, IsMismatchedHops}
pub use Rattle.nl_attr.specs.Tree.{Val, bytes, list, hops, Items, no_items, item, HopItems, no_hops, hop, holds_of}
pub use Rattle.nl_attr.specs.declared.order.Order.{Order}
pub use Rattle.nl_frame.proofs.Running.{before, runs_hold, sticks, not_refused}
pub use Rattle.nl_frame.specs.Building.{Built, answer, no_flags, held, top, order_of}
pub use Rattle.nl_frame.specs.Calls.{Call, close, end, IsCall, put_by_all, run, calls_of_val, calls_of_items, calls_of_hops, calls_of_body, with_message, and_message, open_attr, called, put}
pub use Rattle.nl_frame.specs.Parts.{over}
pub use Rattle.nl_route.specs.Families.{AnyHead, context_of, family_of, any}
pub use Rattle.nl_request.specs.Link.{IFLA_INFO_DATA, info_part, link_parts, link_head, link_message}
pub use Rattle.nl_request.specs.Parts.{Part, items_of, request, calls_of_part, bytes_part, text_part, number_part}
pub use Rattle.nl_request.specs.Route.{metric_part, metrics_part, hops_of, hops_part, route_parts, first_parts, route_head, route_message}
