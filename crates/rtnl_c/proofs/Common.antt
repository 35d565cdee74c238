-- The names that most proofs of this crate cite, passed on from one place. Declares nothing.
pub use Rattle.std.proofs.Common.{◌≡◌, ℕ, slice_get, ◌≤◌, List, ◌++◌, length, take, Option, None, OnOk, Result, refl, sym, ap, subst, ◌∙◌, lit≤, [], ◌∷◌, lit<, Some, not, ℤ, pos, Bool, true, false, Ok, Err, slice_index_or, arith, ◌-◌, w32, ◌<◌, ◌/◌, map, ◌+◌, option_map, ◌↔◌, IfOk, IfErr, IsTrue, ◌≢◌, ◌==◌, ◌⊎◌, slice_set, inl, inr, append-nil, rules}
pub use Rattle.std.proofs.lemmas.List.{length-take-le, take-append-drop, drop-drop, take_at, get_or-set_same, get_or-set_other, length-map, take_rest, nil_from_length}
pub use Rattle.std.proofs.raw_atomic.Walks.{proved_at, leaves}
pub use Rattle.std.specs.Global.{Vec}
pub use Rattle.std.specs.Prelude.{position, bytes_eq}
pub use Rattle.std.specs.contracts.impls.GlobalAllocator.TheImpl.{ghosts}
pub use Rattle.std_alloc.proofs.ResultValues.{and_tt}
pub use Rattle.core.proofs.alloc.Calls.{Al, handle_tells, Goes-blank}
pub use Rattle.core.proofs.alloc.Shapes.{after}
pub use Rattle.core.proofs.cell.Inside.{Good}
pub use Rattle.nl_attr.specs.Numbers.{num, kind_of, span_of, len_of}
pub use Rattle.nl_attr.specs.Shape.{Shape, shape_of}
pub use Rattle.nl_attr.specs.Written.{items_len}
pub use Rattle.nl_attr.specs.declared.order.Order.{Order}
pub use Rattle.nl_dump.specs.Items.{item_of, seen, Item}
pub use Rattle.nl_frame.specs.Building.{Built, answer, finish, finish_refusal, nothing_built, or_next, order_of, AreOpen, levels_in, top, put, open_attr, open_hop}
pub use Rattle.nl_frame.specs.Limits.{AreLimits, Bounds, bounds_of}
pub use Rattle.nl_frame.specs.Message.{MessageVal}
pub use Rattle.nl_frame.specs.Outcomes.{IfFault, VisitsUpTo, read_code}
pub use Rattle.nl_frame.specs.Parts.{Parts, new_parts, over}
pub use Rattle.nl_frame.specs.Tops.{Opens, heads_after, left_with, parts_with, AreWithin, left}
pub use Rattle.nl_frame.specs.Written.{written}
pub use Rattle.nl_frame.specs.declared.body.Message.{Message}
pub use Rattle.nl_frame.specs.declared.building.refusal.BuildError.{BuildError}
pub use Rattle.nl_frame.specs.declared.building.top.BuilderTop.{BuilderTop}
pub use Rattle.nl_frame.specs.declared.writing.WriteError.{WriteError}
pub use Rattle.nl_mirror.specs.Five.{Mirrored, follower_at, EachHearsBy, HearsEach, IsRead, IsUpdate}
pub use Rattle.nl_route.specs.Families.{row, head_size, any, type_of}
pub use Rattle.nl_route.specs.declared.family.Family.{Family}
pub use Rattle.rtnl.specs.Shown.{Answer, Answers, datagram_text, datagram_json, is_accepted}
pub use Rattle.rtnl_c.specs.Building.{content_in, AreKept, Calls, flags_in, number_in}
pub use Rattle.rtnl_c.specs.Codes.{too_large, no_mirror, nothing_there}
pub use Rattle.rtnl_c.specs.Entries.{place_of, entry_message, entry_bytes, sized, size_of, message_bytes}
pub use Rattle.rtnl_c.specs.Mirrors.{table_of, table_at, order_at, effect_before, update_before, FeedsOne}
pub use Rattle.rtnl_c.specs.Options.{order_in}
pub use Rattle.rtnl_c.specs.Put.{put_of, IsPut, not_put, PutsFound}
pub use base.Fml.{Fml, ftrue, flft, fsep}
pub use base.Logic.{ent, emp, never, fst∗, SProp, id⊢}
pub use contract.Monad.{fact, fact_i}
pub use contract.Running.{tables}
pub use denote.Builtin.{bool, RawPtr}
pub use denote.Exit.{yes, no}
pub use denote.Param.{layout, param, bounded}
pub use denote.Param.Laws.{Laws, param_laws}
pub use denote.RattleType.{RattleType, Valss, owns}
pub use denote.RawPtr.{Ptr, block_ptr, null_ptr, ptr_val, in_a_block}
pub use denote.Signature.{types_at, type_at, plain}
pub use denote.Triple.Entry.{alive}
pub use denote.Triple.Walked.{Stays, stay_dropped, walk_of, Goes-dropped}
pub use mir.Syntax.{ty_bool, ty_ptr, ty_struct, tcons, tnil, impl, dnil, a_type, dcons}
pub use mir.Val.{Val, vbool, vstruct, of_list, has_ty, WT, vptr, vcons, vnil}
pub use prog.Wp.{WpFn}
pub use types.ByLocal.{alloc_all, pass_all, free_all, look_at, get, get_in, sets, sets_last, env, lands_last, lands_as}
pub use types.Kit.{‵, raw, ◌⊛◌, ◌$◌, ◌∵◌, !, qed, by, move, keep, split, fjoin, use0, fsplit, suffices, at_ret, drop, fsplit3, use1, some, later, split3, join, pick, await, rewrite, feq_i, fpick, feq_l}
pub use types.Logic.{Logic, sem}
pub use types.Part.{agg, sub, whole}
pub use types.Run.{stop, fld, lit, of_opd, no_more, and_then, first, branches, exec, returns, enter, false_lit, true_lit, blocks}
pub use types.Match.{live}
pub use denote.Steps.{nothing, only, heard}
pub use Rattle.core.proofs.option.Made.{Some-of, none_of}
pub use mir.MapTy.{inst_fn}
pub use denote.Triple.Spec.{triple_of}
pub use denote.Triple.Call.{calls_at_last, calls_at}
pub use Rattle.core.proofs.atomic.Steps.{fm}
pub use Rattle.std_alloc.proofs.BoxSteps.Steps.{box_out, box_in}
pub use Rattle.nl_attr.specs.declared.order.Order.TheVariants.{Little, Big}
pub use Rattle.nl_frame.specs.Layout.{Layout}
pub use Rattle.nl_frame.specs.declared.scanning.ScanError.{ScanError}
pub use Rattle.nl_frame.specs.Taped.{IfBroken, as_read}
pub use Rattle.nl_frame.specs.declared.reading.ReadError.{ReadError}
pub use Rattle.nl_attr.specs.declared.fault.Fault.{Fault}
pub use Rattle.nl_attr.specs.Fixed.{LONGEST_REGION}
pub use Rattle.nl_attr.specs.Walk.{IsPart, StandsAt, flags_of, payload_of, IsHopPart}
pub use lib.Dec.{T}
pub use seplogic.Ra.Ura.{Ura}
pub use denote.Struct.Struct.{Struct, within}
pub use Rattle.nl_frame.specs.declared.building.OpenHead.{OpenHead}
pub use Rattle.std.specs.Map.{keys_of}
pub use Rattle.std.proofs.lemmas.Map.Made.{keys_of-map_values}
pub use Rattle.nl_table.specs.Content.{Content}
pub use Rattle.std_alloc.specs.Box.Ownership.{box_owns}
pub use Rattle.nl_route.specs.declared.object.Object.{Object}
pub use Rattle.std.proofs.lemmas.Option.{slice_get-map, none-some, same_Some}
pub use Rattle.nl_frame.specs.View.{message_view}
