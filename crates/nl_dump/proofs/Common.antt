-- The names that most proofs of this crate cite, passed on from one place. Declares nothing.
pub use Rattle.std.proofs.Common.{◌≡◌, ℕ, suc, ◌-◌, ◌≤◌, ◌&&◌, ◌==◌, min, Bool, true, false, cond, length, map, filter_map, slice_index_or, slice_set, Option, Some, None, is_some, bytes_eq, arith, length-append, List, [], ◌∷◌, ◌++◌, ap, ◌∙◌, sym, subst, refl, ◌+◌, ◌||◌, Ok, Err, inl, inr, ◌*◌, Result, drop, reverse, option_map, ◌↔◌, zero, ◌<◌, take, get_or, set, append_assoc, if◌then◌else◌, ◌≢◌, pos, rules, ℤ, IfOk, IfErr, not}
pub use Rattle.std.proofs.Math.Seq.{get_or-append_seam, set-append_seam, drop-cons, take-append_seam}
pub use Rattle.std.proofs.lemmas.List.{append-nil, map-append, length-map, length-take, reverse-append, take_more, get_or-drop, length-take-le, set-append_right, take_all}
pub use Rattle.std.proofs.lemmas.List.Elements.{filter_map-append, All-contains, All-from_recursion, filter-append}
pub use Rattle.std.specs.List.{filter, AllByRecursion, Contains, list_any, SwappedAt}
pub use Rattle.std.specs.Prelude.{find}
pub use Rattle.nl_attr.specs.Fixed.{SORT_MESSAGE, LONGEST_REGION}
pub use Rattle.nl_attr.specs.HeadOrder.{put_from, sort_of, event_at}
pub use Rattle.nl_attr.specs.Numbers.{AreBytes, aligned}
pub use Rattle.nl_attr.specs.Shape.{Shape}
pub use Rattle.nl_attr.specs.declared.events.Event.{Event}
pub use Rattle.nl_attr.specs.declared.order.Order.{Order}
pub use Rattle.nl_frame.proofs.ProperLayouts.{layout_ranged, the_list}
pub use Rattle.nl_frame.proofs.Scan.{visits_bound, trail_ends, trail_goes, one_first_fault, one_sum}
pub use Rattle.nl_frame.proofs.Within.{within}
pub use Rattle.nl_frame.specs.Header.{header_fields, header_of}
pub use Rattle.nl_frame.specs.Heads.{IsFirstFault, whole, inner, Rest, behind, region_of, header, Visits}
pub use Rattle.nl_frame.specs.Layout.{Layout, BodyOf}
pub use Rattle.nl_frame.specs.Limits.{Bounds, AreLimits}
pub use Rattle.nl_frame.specs.Message.{MessageVal, BodyVal, object, error, done}
pub use Rattle.nl_frame.specs.Outcomes.{IfFault, VisitsUpTo}
pub use Rattle.nl_frame.specs.View.{message_view}
pub use Rattle.nl_route.proofs.Families.{one_or_other, is_family}
pub use Rattle.nl_route.specs.Families.{type_of, AnyHead, row, fields_of, head_size, family_of}
pub use Rattle.nl_route.specs.Fields.{AreRanged, zeros, written}
pub use Rattle.nl_route.specs.declared.family.Family.{Family}
pub use Rattle.nl_route.specs.declared.family.Verb.TheVariants.{New}
pub use Rattle.nl_table.proofs.Growing.{run_push, run_reserved, Good, none_good, good_run, kept_run, table_from_good, bounded_run}
pub use Rattle.nl_table.specs.Content.{Content, empty}
pub use Rattle.nl_table.specs.Whole.{table_of, missed_of, Run, first_keys, last_with, kept_keys}
pub use native.Mathlib.Nat.{mul-add}
pub use Rattle.nl_dump.specs.Answer.{belongs, item_in, items_of, up_to_end, body_end, end_in, end_of, or_later, ignored_of, interrupted_of, state_by, one_if, interrupts, ends_done}
pub use Rattle.nl_dump.specs.Events.{no_counts, judge, at_head, counted, step, counts_of, keeping, kept, IsFront, role_by, end_here, belongs_in, marked_in, left_at, found_in, found_at, form_end, unbroken}
pub use Rattle.nl_dump.specs.Inside.{AreKeyed, brought, Sums, is_marked, Picks, AreCounts, role_of, role_for, Took, taken_by, all_events, IsSummaryOf, ReadsEvents, scan_refusal, is_room, taken_of}
pub use Rattle.nl_dump.specs.Items.{Item, body_item, seen, item_key, item_fields, family_item}
pub use Rattle.nl_dump.specs.Reading.{item_messages, MessagesBringItems, StreamRead, IsReadAnswered, EveryRead}
pub use Rattle.nl_dump.specs.Standing.{IsPossible, standing_of, IsRealEnd, IsReached}
pub use Rattle.nl_dump.specs.Steps.{Puts, IsWaiting, IsTaken, IsBegun, CanLook, PutInto, Fed, Began, Abandons, IsStreamed, IsProgressOf}
pub use Rattle.nl_dump.specs.Streams.{refused_by, StreamBegan, StreamFed, StreamAbandons, StaysAnswer, IsStreamAnswered, EveryStreamed}
pub use Rattle.nl_dump.specs.View.{View, table_at, view_of, KeepsLimits, IsWithin}
pub use Rattle.nl_dump.specs.Whole.{Step, Call, begins, feeds, abandons, Calls, Course, at_first, goes_on, with_messages, with_damage, given_up, Follows, Dumps, VisitsBy, AllVisits, received_of, state_of, ignored_since, interrupted_since, damaged_since, items_at, CallsEndInSession, received_by}
pub use Rattle.nl_dump.specs.declared.counts.Counts.{Counts}
pub use Rattle.nl_dump.specs.declared.counts.Taken.{Taken}
pub use Rattle.nl_dump.specs.declared.dump.Dump.{Dump}
pub use Rattle.nl_dump.specs.declared.dump.End.{End}
pub use Rattle.nl_dump.specs.declared.dump.End.TheVariants.{Abandoned, Done, Error}
pub use Rattle.nl_dump.specs.declared.dump.Progress.{Progress}
pub use Rattle.nl_dump.specs.declared.dump.State.TheVariants.{Idle, Waiting, Ended}
pub use Rattle.nl_dump.specs.declared.errors.FeedError.{FeedError}
pub use Rattle.nl_dump.specs.declared.role.Found.{Found}
pub use Rattle.nl_dump.specs.declared.standing.Standing.{Standing}
