-- The names that most proofs of this crate cite, passed on from one place. Declares nothing.
pub use Rattle.std.proofs.Common.{◌≡◌, Bool, true, false, cond, List, ◌++◌, Option, Some, None, Ok, Err, refl, sym, ap, ◌∙◌, true≢false, ℕ, ◌||◌, [], ◌∷◌, map, is_some, Result, inl, inr, subst, ◌==◌, ◌&&◌, nat_lt, unwrap_or, option_map, position, length, bytes_eq, arith, not, min, ◌+◌, ◌-◌, ◌^◌, ◌<◌, ◌≤◌, take, zero, suc, IsSome, slice_get, get_or, ◌≢◌, ◌⊎◌, append_assoc}
pub use Rattle.std.proofs.lemmas.List.{length-map, map-append, length-append}
pub use Rattle.std.specs.List.{position_or_len, list_any, swap_remove}
pub use Rattle.std.specs.Map.{keys_of, lookup, set_value}
pub use Rattle.std.specs.Prelude.{OnOk, OnErr, IfErr, IfOk, ⊤, vec_capacity, vec_len}
pub use Rattle.nl_attr.specs.declared.order.Order.{Order}
pub use Rattle.nl_dump.specs.Answer.{belongs, item_in, end_in, body_end}
pub use Rattle.nl_dump.specs.Items.{Item, body_item, family_item, item_of}
pub use Rattle.nl_frame.specs.Message.{MessageVal, BodyVal, done, object}
pub use Rattle.nl_frame.specs.View.{message_view, body_view}
pub use Rattle.nl_route.specs.declared.family.Family.{Family}
pub use Rattle.nl_table.specs.Content.{Content, Exchanges, holds_key}
pub use Rattle.nl_mirror.specs.Changes.{Held, held_of, tell, tell_all, SameLimits, put, nothing}
pub use Rattle.nl_mirror.specs.Effects.{FindsNoRoom, effect_of, effect_beside, effect_while, of_now, of_gone, exchanged_effect, effect, effect_in, effect_seen, effect_heard, update_effect}
pub use Rattle.nl_mirror.specs.Five.{FullIsSaid, follower_at, Mirrored, Settings, is_own, IsShort, IsUpdate, IsOverheard, IsOwnHeard, OthersHear, OneHears, EachHearsBy, HearsEach}
pub use Rattle.nl_mirror.specs.Hearing.{Follows, IsHeardAs, in_items, IsHeardBy, IsHeardShort, Following}
pub use Rattle.nl_mirror.specs.Notes.{Listening, Heard, note_in, by_note, beside, marks, within, hears, hears_while, asks, renewal, doubt_of, ends_whole, lost_by, ending}
pub use Rattle.nl_mirror.specs.Past.{Event, brings, ends, tells, overflows, loses, fails, beginning, beginning_with, by_doubt, Moves, MovesAll, begins, Events, Past, with_event, past, EventsEndInMirror}
pub use Rattle.nl_mirror.specs.Replicated.{Replicated, is_full, settled, new_replica, first_of, stale_of, begun, with_loss, renewed}
pub use Rattle.nl_mirror.specs.Seen.{change_seen, replica_seen, event_seen, held_seen}
pub use Rattle.nl_mirror.specs.Short.{AllButShort, shortage, ShortOf}
pub use Rattle.nl_mirror.specs.Told.{key_by, mirror_key}
pub use Rattle.nl_mirror.specs.declared.change.Change.{Change}
pub use Rattle.nl_mirror.specs.declared.change.Change.TheVariants.{Now, Gone}
pub use Rattle.nl_mirror.specs.declared.short.Short.{Short}
pub use Rattle.nl_mirror.specs.declared.stale.Stale.{Stale}
