-- The names that most proofs of this crate cite, passed on from one place. Declares nothing.
pub use Rattle.std.proofs.Common.{◌≡◌, ℕ, ◌+◌, ◌<◌, ◌≤◌, List, [], ◌∷◌, ◌++◌, length, Option, Some, None, Result, Ok, Err, refl, sym, ap, subst, ◌∙◌, arith, append_assoc, length-append, ◌^◌, true, false, Bool, drop, inl, inr, append-nil, ◌≢◌, ◌-◌, take, replicate, length-drop, ◌↔◌, ◌%◌, ℤ, zero, suc, map, nat_lt, if◌then◌else◌, ◌&&◌, ◌==◌, ltb, get_or, cond, ◌||◌, IfSome, IfOk, IfErr, ◌*◌, eqb, min, slice_set, rules, to_z, reverse, vec_len, vec_capacity}
pub use Rattle.std.proofs.lemmas.Bool.{le-ltb, eq-eqb, cases_eq, cases_lt, ne_eqb, ltb-true, ltb-false, eqb-true, lt-ltb}
pub use Rattle.std.proofs.lemmas.Int.{to_z-of_z}
pub use Rattle.std.proofs.lemmas.List.{take_at, drop_at, length-take, take-take, take-append-drop, nil_from_length, length-map, take-append-le, drop-append-le, take-replicate, map-append, take_all, take_rest, drop-take, drop-drop, map_push, length-set}
pub use Rattle.std.specs.Int.{w32, cast_unsigned, cast_signed}
pub use Rattle.std.specs.List.{AllByRecursion, splice, list_all, range_with_len}
pub use Rattle.std.specs.Prelude.{FitsSigned, OnOk, OnErr, ◌⊎◌, IsTrue, IsErrAnd, MatchResult, slice_index, MatchOption}
pub use Rattle.nl_attr.proofs.Lemmas.Fitting.{next_span, read_result, ReadAs, items_fit, then_read, map_read, along, IsCut, cut_piece}
pub use Rattle.nl_attr.proofs.Lemmas.Grammars.{front, IsLawful, Costs, weigh, walk_bound, front_front, weigh-append, behind_then, inside_then}
pub use Rattle.nl_attr.proofs.Lemmas.Lengths.{length-padded_attr, length-padded, length-items, length-attr, length-hop, length-val, item_closed}
pub use Rattle.nl_attr.proofs.Lemmas.Numbers.{length-num, bytes_drop, bytes_take, number_take}
pub use Rattle.nl_attr.proofs.Lemmas.Pieces.{made, apart, two_parts, piece_bytes, piece_at}
pub use Rattle.nl_attr.proofs.Lemmas.Putting.{put_none, put_on, put_one, room_on, put_length, put_nowhere}
pub use Rattle.nl_attr.proofs.Lemmas.Reading.{one_result, or_else_none, sound_within, span_at_least, payload_length, IsWithin, rest_shorter, and_then_both, payload_is}
pub use Rattle.nl_attr.proofs.Lemmas.Writing.{items_whole, written_fits, list_is_sized, hops_whole}
pub use Rattle.nl_attr.specs.Fixed.{NUMBERS, LONGEST_ITEM, LONGEST_REGION, LONGEST_CONTAINER}
pub use Rattle.nl_attr.specs.Grammar.{and_on, first, next, inside}
pub use Rattle.nl_attr.specs.Heads.{Head, start_of, or_else}
pub use Rattle.nl_attr.specs.Layout.{Fits, IsPiece, kind_number}
pub use Rattle.nl_attr.specs.Numbers.{aligned, num, AreBytes, len_of, number_of}
pub use Rattle.nl_attr.specs.Outcomes.{IsOutcome}
pub use Rattle.nl_attr.specs.Proper.{IsMismatchedVal, IsDeepVal, IsLongItem, HasLongVal, IsRangedVal, IsMismatchedHops, IsDeepHops, HasLongHops, IsRangedHops, IsLongRegion}
pub use Rattle.nl_attr.specs.Reading.{Outcome, and_then, map_value, more_visits, items_of_region}
pub use Rattle.nl_attr.specs.Shape.{Shape, shape_of}
pub use Rattle.nl_attr.specs.Taped.{HasRoom}
pub use Rattle.nl_attr.specs.Tree.{Val, bytes, list, hops, holds_of, Items, no_items, item, HopItems, no_hops, hop}
pub use Rattle.nl_attr.specs.Written.{with_padding, attr_item, written_val, val_len, items_len, hop_item, hops_len}
pub use Rattle.nl_attr.specs.declared.broken.BrokenHead.{BrokenHead}
pub use Rattle.nl_attr.specs.declared.events.Event.{Event}
pub use Rattle.nl_attr.specs.declared.fault.Fault.{Fault}
pub use Rattle.nl_attr.specs.declared.fault.Reason.{Reason}
pub use Rattle.nl_attr.specs.declared.order.Order.{Order}
pub use Rattle.nl_attr.specs.declared.taping.Taped.{Taped}
pub use Rattle.nl_attr.specs.declared.tree.AttrFlags.{AttrFlags}
pub use Rattle.nl_attr.specs.declared.tree.Content.{Content}
pub use Rattle.nl_attr.specs.declared.tree.Ctx.{Ctx}
pub use Rattle.nl_attr.specs.declared.tree.Ctx.TheVariants.{Route}
pub use Rattle.nl_route.proofs.Families.{is_family, size_of_head, one_or_other, any_only, any_fields}
pub use Rattle.nl_route.proofs.Fields.{length-written, size_of, written_has_fields, fields_are_ranged}
pub use Rattle.nl_route.specs.Families.{AnyHead, row, head_size, context_of, family_of, fields_of, type_of, head_of}
pub use Rattle.nl_route.specs.Fields.{AreRanged, Field, number, signed, AreFields, byte, pad, value_at, signed_at}
pub use Rattle.nl_route.specs.declared.family.Family.{Family}
pub use Rattle.nl_frame.specs.AnyHeads.{any_head}
pub use Rattle.nl_frame.specs.Broken.{IsBrokenHead, facts_of, IsBrokenIn, message_facts}
pub use Rattle.nl_frame.specs.Building.{Built, order_of, grown, or_next, lacks, top, held, held_in, bytes_refusal, nothing_built, opened, ended, first_refusal, begin_refusal, end_refusal, has_head, is_no_body, body_refusal, message_refusal, message_begun, header_begun, header_whole, settled, attr_begun, hop_begun, head_ended, length_from, open_refusal, content_or_bytes, AreOpen, hop_refusal, hop_refusal_in, levels_in, answer, no_flags, put_hop, close_refusal, finish, finish_refusal, open_refusal_in}
pub use Rattle.nl_frame.specs.Calls.{begin, end, put_message, called, run, calls_of_items, calls_of_body, calls_of, Call, put, open_attr, open_hop, close, IsCall, put_by, KeepsRoom, put_by_all, calls_of_val, calls_of_hops}
pub use Rattle.nl_frame.specs.Draft.{Layer, Draft, content_at, val_and_item, begun_bytes, laid, IsDeepIn, HasLongIn, IsLayer, Holds, message, nothing_put, Begun, attribute, next_hop, heads_of, messages_in, message_in, content_in, content_behind, none_of, MayBegin, and_item, and_hop, layers_and_item, val_and_hop, layers_and_hop, layers_and, layers_closed}
pub use Rattle.nl_frame.specs.Form.{form_of, form_for, least_body}
pub use Rattle.nl_frame.specs.Front.{form_at, payload_at, broken_frame, broken_message, span_at, broken_body, IsFrame}
pub use Rattle.nl_frame.specs.HeadOrder.{visits_of, Trail, region_trail, trail_of, header_event, event_of, events_of}
pub use Rattle.nl_frame.specs.Header.{header_fields, header_of}
pub use Rattle.nl_frame.specs.Heads.{header, Rest, behind, region_in, region_of, IsFirstFault, whole}
pub use Rattle.nl_frame.specs.Layout.{BodyOf, Layout}
pub use Rattle.nl_frame.specs.Limits.{Bounds, AreLimits}
pub use Rattle.nl_frame.specs.Measured.{IsSized, IsSizedBody, IsBodyLen, IsMessageLen, IsLen}
pub use Rattle.nl_frame.specs.Message.{MessageVal, BodyVal, noop, error, done, overrun, object, get, other}
pub use Rattle.nl_frame.specs.OneList.{IsTheList, IsTheBody}
pub use Rattle.nl_frame.specs.Parts.{over, Parts, AreParts}
pub use Rattle.nl_frame.specs.Proper.{IsMismatchedBody, IsMismatched, IsDeepBody, IsDeep, IsLongBody, HasLong, IsProper, IsRangedBody, IsRanged, IsLong, IsFirstRefusal}
pub use Rattle.nl_frame.specs.Reading.{body_at, message_of, message_at, messages_of}
pub use Rattle.nl_frame.specs.Taped.{IsTaped, Ends, HasEnd, IfBroken, as_read, IsFrameTaped}
pub use Rattle.nl_frame.specs.Tops.{AreWithin, HasOpened, parts_with, Opens, heads_after, left, left_with, refusal_of, top_of}
pub use Rattle.nl_frame.specs.View.{message_view, body_view}
pub use Rattle.nl_frame.specs.Written.{body_len, body_written, written, written_len, header_for, message_item}
pub use Rattle.nl_frame.specs.declared.building.OpenHead.{OpenHead}
pub use Rattle.nl_frame.specs.declared.building.refusal.BuildError.{BuildError}
pub use Rattle.nl_frame.specs.declared.building.top.BuilderTop.{BuilderTop}
pub use Rattle.nl_frame.specs.declared.form.Form.{Form}
pub use Rattle.nl_frame.specs.declared.front.Frame.{Frame}
pub use Rattle.nl_frame.specs.declared.header.Header.{Header}
