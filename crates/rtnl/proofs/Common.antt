-- The names that most proofs of this crate cite, passed on from one place. Declares nothing.
pub use Rattle.std.proofs.Common.{◌≡◌, ◌≤◌, ℕ, List, [], ◌∷◌, length, Bool, true, false, IsTrue, Ok, Err, inl, inr, refl, sym, ap, ◌∙◌, arith, ◌≢◌, ◌↔◌, ◌+◌, ◌%◌, not, ◌||◌, filter, Option, Some, None, Result, ◌==◌, ◌<◌, cond, ◌++◌, get_or, take, drop, append_assoc, map, subst, zero, suc, ◌-◌, length-append, IfOk, IfErr, ◌⊎◌, ◌*◌, ◌/◌, min, codes, MatchOption, ◌^◌, option_map}
pub use Rattle.std.proofs.KnownBytes.{Appends-trans, Appends-nil, Consumes-nil, Consumes-trans, Appends-kept}
pub use Rattle.std.proofs.Math.Seq.{take-add, take-append-add, take-append_seam, drop-append_seam}
pub use Rattle.std.proofs.lemmas.Bool.{cases_lt, cases_eq, eq-eqb, ne_eqb, cases_Bool, agree_below_at, ltb-true, and_parts}
pub use Rattle.std.proofs.lemmas.Bool.Decides.{nat_tests, Decides-eqb, eqb_tells}
pub use Rattle.std.proofs.lemmas.Fmt.{length-decimal-le, IsAscii-from_digits, decimal_by_steps}
pub use Rattle.std.proofs.lemmas.Grind.{flat_map-append, common_steps}
pub use Rattle.std.proofs.lemmas.List.{drop-drop, drop_all, take-append-drop, drop_more, replicate-append-replicate, length-map, length-take, take-append-le, take_more, at_drop_more, at_drop_all, nil_from_length, take_rest, length_push, map-append}
pub use Rattle.std.proofs.lemmas.List.Splits.{join_with_byte-slice_split, length-slice_split, slice_split_at, slice_split_none}
pub use Rattle.std.proofs.lemmas.List.Sums.{AllPass-from_list_all, list_all-from_AllPass, count_by-le-length, sum_by-cons, position_or_len_is, sum_by-drop_more, length-filter, prefix_len_is}
pub use Rattle.std.proofs.lemmas.Result.{on_ok_weaker, IfOk-weaker, err_from_is_err_and, IfOk-equal}
pub use Rattle.std.specs.Borrow.{Bor}
pub use Rattle.std.specs.Fmt.{signed_decimal}
pub use Rattle.std.specs.Io.KnownBytes.{Appends, Consumes, IsAtEnd, Keeps}
pub use Rattle.std.specs.List.{list_all, position_from, flat_map, after_first, join_with_byte, position_or_len, prefix_len, starts_with, onto_first, sum_by, find, AllByRecursion, list_any}
pub use Rattle.std.specs.Option.{IsSome, SomeIff, option_copied}
pub use Rattle.std.specs.Prelude.{nat_eq, MatchResult, nat_le, slice_range}
pub use Rattle.hex.proofs.HexLemmas.{decode_of-odd, decode_of-digits, decode_of-ok, decode_of-even, decode_sized-ok, decode_sized-twice}
pub use Rattle.hex.proofs.Pairs.{encode_done, encode_step, prepend}
pub use Rattle.hex.specs.Hex.{decode_of, is_hex_digit, encode_lower, lower_digits}
pub use Rattle.hex.specs.declared.error.FromHexError.{FromHexError}
pub use Rattle.json.specs.Print.{print}
pub use Rattle.json.specs.Token.{begin_object, key}
pub use Rattle.json.specs.Tree.{json_tokens, items_tokens, members_tokens}
pub use Rattle.nl_attr.specs.View.{Front, HopFront, value_step, attr_step, hop_step, value_view, attr_view, attrs_view, hop_view, hops_view}
pub use Rattle.nl_attr.specs.declared.events.Event.{Event}
pub use Rattle.nl_attr.specs.declared.order.Order.{Order}
pub use Rattle.nl_attr.specs.declared.tree.Ctx.{Ctx}
pub use Rattle.nl_attr.specs.declared.tree.Ctx.TheVariants.{Route}
pub use Rattle.nl_attr.specs.declared.tree.Hop.{Hop, out-Hop}
pub use Rattle.nl_dump.specs.Items.{Item, seen}
pub use Rattle.nl_frame.specs.Heads.{IsFirstFault, whole}
pub use Rattle.nl_frame.specs.Layout.{Layout}
pub use Rattle.nl_frame.specs.Limits.{Bounds}
pub use Rattle.nl_frame.specs.Message.{MessageVal}
pub use Rattle.nl_frame.specs.View.{message_view}
pub use Rattle.nl_frame.specs.declared.reading.ReadError.{ReadError}
pub use Rattle.nl_mirror.specs.Changes.{Held, held_of}
pub use Rattle.nl_mirror.specs.Seen.{held_seen}
pub use Rattle.nl_route.specs.Families.{name_of, family_of, context_of}
pub use Rattle.nl_route.specs.declared.family.Family.{Family}
pub use Rattle.rtnl.specs.Attributes.{attribute_style, inner_context}
pub use Rattle.rtnl.specs.ByteParts.{AttrList, BytePart, lists_after, marks_of, parts_by, refused_marks, size_in, unread, rest_of, list_at, lists_behind, lists_entered, depth_inside, head_marks, marks_from}
pub use Rattle.rtnl.specs.Marks.{Label, Mark, fields, gap, named, padding}
pub use Rattle.rtnl.specs.ByteRows.{row_printed, cell}
pub use Rattle.rtnl.specs.ByteViews.{AddsAllRows, AddsPart, AddsRows, attr_list_view, refusal_ending, marks_in, piece_view, part_view}
pub use Rattle.rtnl.specs.Checked.{Finding, Finds}
pub use Rattle.rtnl.specs.Followed.{LONGEST_LINE, HeardLine, Hears, Steps, TellsAsPrinted, alone, all_said, bad_at, bad_from, kept_of, line_says, never, refused_in, refused_one, said_by, said_of, Follows, FollowsAll, FollowsPiece, GoesOn, HasRead, Tells, TellsLine, TellsOne, TellsPart, TellsSome, TellsUpTo, with_part, IsCounted, Stops, TellsReads, ToldBehind, none_followed}
pub use Rattle.rtnl.specs.FollowedDump.{Given, Reads, ends_dump, given_text, is_done, ending_at}
pub use Rattle.rtnl.specs.Json.{IsUnescaped, is_unescaped, value_text}
pub use Rattle.rtnl.specs.Lines.{compact, decoded, digits_at, fault_in, is_blank, is_comment, is_stray, line_at, line_fault_of, odd_of, lines_of, is_newline, lines_left, Rise, pieces, datagrams}
pub use Rattle.rtnl.specs.Messages.{messages_text}
pub use Rattle.rtnl.specs.MessagesJson.{messages_json, attrs_json, hops_json}
pub use Rattle.rtnl.specs.Mirroring.{step_of, unbegun_by, where_so, heard, refused, end_text, began, Hearing, HearsAll, answers_text, entry_at}
pub use Rattle.rtnl.specs.Named.{Named, find_named, name_in, named_view}
pub use Rattle.rtnl.specs.NamedBits.{bit_names, bit_view, link_flags, neigh_flags, neigh_states, flag_names, hop_flags}
pub use Rattle.rtnl.specs.Names.{rest_text, are_unescaped, names_set, names_json, names_text}
pub use Rattle.rtnl.specs.Painted.{coloured_text, is_space}
pub use Rattle.rtnl.specs.Parts.{joined}
pub use Rattle.rtnl.specs.Runs.{Writes, FrontOfInput, OfInput, Prints}
pub use Rattle.rtnl.specs.Output.{IsSaid, SaysInput}
pub use Rattle.rtnl.specs.Shown.{Answer, Answers, Refuses, is_accepted, refusal_text, Shows, datagram_text, datagram_json}
pub use Rattle.rtnl.specs.Streams.{Gains, Read, StopsOnce, all_moved, one_more, AppendsPrefix, ConsumesAtMost}
pub use Rattle.rtnl.specs.Structs.{field_view}
pub use Rattle.rtnl.specs.Tabled.{Answered, HeadlineOfTables, calls_of, datagrams_of, feeds_after, Report, entries_text, ending_of, verdict_of, FeedsSome}
pub use Rattle.rtnl.specs.Tape.{AreEvents, IsAboutItsHead, IsRefusalOf, refusal_line, refusal_in, context_in}
pub use Rattle.rtnl.specs.Trees.{indented, items_text, hops_text}
pub use Rattle.rtnl.specs.Values.{Reading, reading_of, reading_view}
pub use Rattle.rtnl.specs.declared.error.RunError.{RunError}
pub use Rattle.rtnl.specs.declared.error.RunError.TheVariants.{ReadFault, WriteFault, Memory, BadLine}
pub use Rattle.rtnl.specs.declared.verdict.Verdict.{Verdict}
pub use Rattle.rtnl.specs.declared.verdict.Verdict.TheVariants.{Clean, NotClean}
pub use Rattle.rtnl.specs.declared.runs.followed.Followed.{Followed}
