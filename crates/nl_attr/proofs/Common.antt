-- The names that most proofs of this crate cite, passed on from one place. Declares nothing.
pub use Rattle.std.proofs.Common.{◌∙◌, rules, arith, refl, inl, inr, ℕ, Option, Some, None, ◌≡◌, drop, ◌+◌, List, sym, ap, zero, suc, ◌-◌, ◌*◌, ◌≤◌, Bool, true, false, cond, ltb, ◌||◌, [], ◌∷◌, length, Result, Ok, Err, subst, ◌<◌, get_or, ◌≢◌, ◌/◌, ◌%◌, min, eqb, ◌⊎◌, ℤ, ◌++◌, take, append_assoc, length-append, length-drop, slice_index, ◌^◌, replicate, slice_set, add_assoc, set, is_ok, length-set, if◌then◌else◌, ◌↔◌, map, vec_len, vec_capacity, nat_lt, IfOk, IfErr, not, is_some, nat_eq}
pub use Rattle.std.proofs.Math.Facts.{Fits-lt-pow, Fits-of_z, sfits_to_z, Fits-of_lt}
pub use Rattle.std.proofs.Math.Nat.{eq-or-lt_of_le, pow-suc, mul-le-mul_left}
pub use Rattle.std.proofs.lemmas.Bool.{le-ltb, cases_lt, lt-ltb, ltb-true, ltb-false, eqb-true}
pub use Rattle.std.proofs.lemmas.Int.{to_z-of_z, of_z-to_z}
pub use Rattle.std.proofs.lemmas.List.{take_at, drop_at, take-append-drop, take-take, length-take, length-replicate, nil_from_length, reverse-reverse, length-reverse, get_or-drop, get_or-take, get_or_past, take_all, drop-take, map-append, drop-drop, length-map, append-nil, map_push}
pub use Rattle.std.specs.Global.{Vec}
pub use Rattle.std.specs.Int.{w32, cast_signed, cast_unsigned}
pub use Rattle.std.specs.List.{AllByRecursion, All, Contains, position, position_or_len}
pub use Rattle.std.specs.Option.{unwrap_or, option_to_list}
pub use Rattle.std.specs.Prelude.{reverse, FitsSigned, IsOk, IfSome, IsErrAnd, IsTrue}
pub use Rattle.nl_attr.specs.Broken.{facts_of, fault_in}
pub use Rattle.nl_attr.specs.Fixed.{LONGEST_CONTAINER, LONGEST_ITEM, LONGEST_REGION, MOST_VISITS, FARTHEST_END, SORT_BYTES, SORT_LIST, SORT_NEXT_HOP, NUMBERS}
pub use Rattle.nl_attr.specs.Grammar.{UpTo, TrailOf, and_on, inner_trail, unless, first}
pub use Rattle.nl_attr.specs.HeadOrder.{ComesBefore, IsEnd, trail_of, put_from, sort_of, attr_event, hop_event, event_of, counted}
pub use Rattle.nl_attr.specs.Heads.{start_of, Head, HeadAt, IsSound, Sort, attr_head, hop_head, least, broken, broken_in, broken_container, content_at, or_else, span_at, inner_in, FaultAt, IsFirstFault, follower, inner_of, MayStand, inner_at}
unfoldable pub use Rattle.nl_attr.specs.Heads.{heads}
pub use Rattle.nl_attr.specs.Layout.{IsPadded, IsPiece, kind_number, FitsVal, Fits, FitsHops}
pub use Rattle.nl_attr.specs.Measured.{extent_of, extent_of_hops, join, region_len, empty_extent, extent_of_item, extent_of_val, length_of, item_len, container_extent}
pub use Rattle.nl_attr.specs.Numbers.{len_of, span_of, aligned, num, kind_of, AreBytes, le, number_of}
pub use Rattle.nl_attr.specs.Open.{before, Goes, FailsAs, Spot, list_spot, levels_in, IsWithinLimits, Advances, Moves, IsIn, spot_of, room_in, list_rest, goes_on, NextGoes, outer_spot, spot_end, PutsOn, hops_rest, list_goes_on, opening_rest, opening_spot, TurnsAt, items_left, hops_go_on, hops_left, hops_spot, HopMoves, region_at, hops_then}
pub use Rattle.nl_attr.specs.Proper.{IsMismatched, IsMismatchedVal, IsMismatchedHops, IsDeep, IsDeepVal, IsDeepHops, HasLong, HasLongVal, HasLongHops, IsProper, IsRanged, IsRangedVal, IsRangedHops, IsSized, IsSizedVal, IsSizedHops, Refusal, IsLong, IsLongRegion, IsRefused}
pub use Rattle.nl_attr.specs.Reading.{Outcome, and_then, map_value, fault_visits, look_at, value_by, hops_at, items_of_region, more_visits, hops_of_region, value_at, attr_at}
unfoldable pub use Rattle.nl_attr.specs.Reading.{items_at}
pub use Rattle.nl_attr.specs.Region.{head_of, content_in, sort_in, ctx_in}
pub use Rattle.nl_attr.specs.Shape.{Shape, shape_of}
pub use Rattle.nl_attr.specs.Taped.{HasRoom, HoldsNone, IsPassing, Passes, Skips, head_with, IsTaped, Adds, Leads, LeadsTo, MayScan, found, hops_start, IsEmptyList}
pub use Rattle.nl_attr.specs.Tree.{list, hops, Items, HopItems, Val, item, hop, bytes, no_items, no_hops, holds_of}
pub use Rattle.nl_attr.specs.View.{attrs_view, hops_view, Front, HopFront, value_step, attr_step, hop_step, value_view, hop_view, items_of, hops_of, attr_view}
pub use Rattle.nl_attr.specs.Walk.{broken_length, payload_of, flags_of, ifindex_of, Region, IsPart, IsHopPart, after, GivesPart, GivesHop, span_given, Gives, spans_of, LiesIn, EachLies, IsWalk, IsWalkOver}
pub use Rattle.nl_attr.specs.Written.{with_padding, attr_item, hop_item, written, written_val, written_hops, val_len, items_len, hops_len}
pub use Rattle.nl_attr.specs.declared.events.Event.{Event}
pub use Rattle.nl_attr.specs.declared.events.Room.{Room}
pub use Rattle.nl_attr.specs.declared.fault.Fault.{Fault}
pub use Rattle.nl_attr.specs.declared.fault.ListError.{ListError}
pub use Rattle.nl_attr.specs.declared.fault.ListError.TheVariants.{Layout, Memory}
pub use Rattle.nl_attr.specs.declared.fault.Reason.{Reason}
pub use Rattle.nl_attr.specs.declared.fault.Reason.TheVariants.{Cut, BadLength, TooLong, TooDeep}
pub use Rattle.nl_attr.specs.declared.measuring.Extent.{Extent}
pub use Rattle.nl_attr.specs.declared.order.Order.{Order}
pub use Rattle.nl_attr.specs.declared.region.OpenRegion.{OpenRegion}
pub use Rattle.nl_attr.specs.declared.region.Parts.{Parts}
pub use Rattle.nl_attr.specs.declared.stack.attributes.Turn.{Turn}
pub use Rattle.nl_attr.specs.declared.stack.regions.ListRegion.{ListRegion}
pub use Rattle.nl_attr.specs.declared.taping.Counts.{Counts}
pub use Rattle.nl_attr.specs.declared.tree.Attr.{Attr}
pub use Rattle.nl_attr.specs.declared.tree.AttrFlags.{AttrFlags}
pub use Rattle.nl_attr.specs.declared.tree.Content.{Content}
pub use Rattle.nl_attr.specs.declared.tree.Ctx.{Ctx}
pub use Rattle.nl_attr.specs.declared.tree.Ctx.TheVariants.{Route}
pub use Rattle.nl_attr.specs.declared.tree.Hop.{Hop, out-Hop}
pub use Rattle.nl_attr.specs.declared.walk.attrs.Part.{Part}
pub use Rattle.nl_attr.specs.declared.walk.hops.HopPart.{HopPart}
