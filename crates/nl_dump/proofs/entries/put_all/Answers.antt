use Rattle.nl_dump.proofs.Common.{◌≡◌, ◌++◌, ◌∷◌, [], map, length, ap, sym, ◌∙◌, arith, append_assoc, item_key, seen}
use Rattle.nl_dump.proofs.Puts.{puts_push, room_after, order_after, step_seen}
use Rattle.nl_dump.proofs.entries.put_all.Goals as goal

pub loop-key-preserved : goal.loop-key-preserved
loop-key-preserved g c =
    let i = c.loop-key.invariant in
    let rest = c.next.new.self.rest.items in
    let split : c.loop-key.key-iterator.rest.items ≡ (c.in-Some.key, c.in-Some.entry) ∷ rest = c.in-Some.ensures.steps.0 in
    let keyed = rw split at i.keyed in
    let puts = i.puts in
    let o = c.args.table.now.order in
    let item = g.T.FromBody.item in
    let is_key : c.in-Some.key ≡ item_key o (item c.in-Some.entry) = keyed.0 ∙ g.met.T.FromBody.keyed o c.in-Some.entry in
    record {
      order = order_after item c.in-Some.key c.in-Some.entry c.put_compact.result c.loop-key.table c.put_compact.new.self c.put_compact.ensures.step ∙ i.order;
      keyed = keyed.1;
      room = room_after item (length rest) c.in-Some.key c.in-Some.entry c.put_compact.result c.loop-key.table c.put_compact.new.self c.put_compact.ensures.step (omega (arith, ap length split, i.room));
      puts = (
        puts.0 ++ item c.in-Some.entry ∷ [],
        append_assoc puts.0 (item c.in-Some.entry ∷ []) (map (λ p. item p.1) rest) ∙ ap (λ l. puts.0 ++ map (λ p. item p.1) l) (sym split) ∙ puts.1,
        puts_push (item_key o) (seen item c.args.table.now) (seen item c.loop-key.table) (seen item c.put_compact.new.self) puts.0 (item c.in-Some.entry) c.put_compact.result c.in-Some.key puts.2 is_key
            (step_seen item c.loop-key.table c.in-Some.key c.in-Some.entry c.put_compact.result c.put_compact.new.self c.put_compact.ensures.step),
      );
    }
