use Rattle.std.proofs.Common.{◌≡◌, ◌+◌, nat_lt, bytes_eq, length, false, cond, is_some, sym, ap, ◌∙◌, true≢false, arith}
use Rattle.std.proofs.lemmas.Bool.{ltb-true}
use Rattle.indexmap.specs.IndexMap.{index_map_len, insert_entry}
use Rattle.nl_table.specs.Content.{holds_key}
use Rattle.nl_table.proofs.Maps.{held-lookup, insert-held, insert-new}
use Rattle.nl_table.proofs.Written.{place-held, entries_written, len_written, room_of_held}
use Rattle.nl_table.proofs.pairs.put_with_room.Given.{Over}
use Rattle.nl_table.proofs.pairs.put_with_room.Goals as goal

pub unreachable-requires : goal.unreachable-requires
unreachable-requires g c =
    let new : holds_key c.args.key c.args.map.now.entries ≡ false = sym (held-lookup (bytes_eq c.args.key) c.args.map.now.entries) ∙ ap is_some c.in-Err.ensures.absent in
    true≢false (sym (c.in-Err.ensures.succeeds (c.requires.room new)))

pub returns-clause-held : goal.returns-clause-held
returns-clause-held g c = rw (c.index.ensures, c.in-Ok.ensures.index, c.len-len.ensures.len) (place-held (bytes_eq c.args.key) c.args.map.now.entries)

-- the map that comes back is the one that the entry was written through
came_back : (g : Over) (c : goal.After-map-1 g) → c.map-1.given.0 ≡ c.insert_entry.result.map.now
came_back g c = c.map-1.given.1 (sym (c.insert_entry.ensures.0 ∙ c.in-Ok.ensures.same_map))

written : (g : Over) (c : goal.After-map-1 g) → c.map-1.given.0.entries ≡ insert_entry bytes_eq c.args.map.now.entries c.args.key c.args.entry
written g c =
    entries_written bytes_eq c.args.map.now c.map-1.given.0 c.args.key c.in-Ok.place c.insert_entry.result c.args.entry
    c.in-Ok.ensures.update c.insert_entry.ensures (came_back g c)

pub returns-clause-replaced : goal.returns-clause-replaced
returns-clause-replaced g c = λ yes. written g c ∙ insert-held c.args.key c.args.entry c.args.map.now.entries (sym (returns-clause-held g c) ∙ yes)

pub returns-clause-same_room : goal.returns-clause-same_room
returns-clause-same_room g c =
    λ yes. room_of_held c.args.map.now c.map-1.given.0 c.in-Ok.place c.insert_entry.result c.args.entry c.in-Ok.ensures.room
    (omega (arith, ltb-true c.index.result c.len-len.result yes, c.index.ensures, c.len-len.ensures.len, ap length c.in-Ok.ensures.unchanged)) c.insert_entry.ensures (came_back g c)

pub returns-clause-added : goal.returns-clause-added
returns-clause-added g c = λ no. written g c ∙ insert-new c.args.key c.args.entry c.args.map.now.entries (sym (returns-clause-held g c) ∙ no)

pub returns-clause-len : goal.returns-clause-len
returns-clause-len g c =
    let held = ap is_some c.in-Ok.ensures.value ∙ held-lookup (bytes_eq c.args.key) c.args.map.now.entries ∙ sym (returns-clause-held g c) in
    len_written c.map-1.given.0 (index_map_len c.args.map.now + cond (nat_lt c.index.result c.len-len.result) 0 1) c.in-Ok.place c.insert_entry.result c.args.entry
    (λ u. c.in-Ok.ensures.len u ∙ ap (λ b. index_map_len c.args.map.now + cond b 0 1) held) c.insert_entry.ensures (came_back g c)
