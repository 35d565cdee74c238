use Rattle.nl_dump.proofs.Common.{◌∷◌, ◌++◌, [], length, map, option_map, List, ap, sym, ◌∙◌, arith, append_assoc, length-append, map-append, message_view}
use Rattle.nl_frame.specs.declared.body.Message.{Message}
use Rattle.nl_dump.proofs.Puts.{keyed_more, keyed_none}
use Rattle.nl_dump.proofs.entries.keyed.Goals as goal

pub loop-message-preserved-in-Continue-branch-2 : goal.loop-message-preserved-in-Continue-branch-2
loop-message-preserved-in-Continue-branch-2 g c =
    let i = c.loop-message.invariant in
    let item = g.T.FromBody.item in
    let key = g.T.Entry.key_of c.args.order in
    let before = c.loop-message.entries.items in
    let yielded = c.loop-message.yielded in
    let m = c.in-Some.message in
    let x = c.in-Some-from_body.entry in
    let added = c.in_ok-add.ensures in
    let next = keyed_more item key g.T.FromBody.family (map message_view yielded) (message_view m) before i.keyed x (sym c.from_body.ensures ∙ ap (option_map item) c.in-Some-from_body.is) in
    record {
      keyed = rw (map-append message_view yielded (m ∷ []), added) next;
      few = omega (arith, i.few, ap length added, length-append before ((key x, x) ∷ []), length-append yielded (m ∷ []));
      split = append_assoc yielded (m ∷ []) c.next.new.self.rest.items ∙ ap (λ (l : List Message). yielded ++ l) (sym c.in-Some.ensures.steps.0) ∙ i.split;
    }

pub loop-message-preserved : goal.loop-message-preserved
loop-message-preserved g c =
    let i = c.loop-message.invariant in
    let item = g.T.FromBody.item in
    let yielded = c.loop-message.yielded in
    let m = c.in-Some.message in
    let next = keyed_none item (g.T.Entry.key_of c.args.order) g.T.FromBody.family (map message_view yielded) (message_view m) c.loop-message.entries.items i.keyed (sym c.from_body.ensures ∙ ap (option_map item) c.in_default.is) in
    record {
      keyed = rw (map-append message_view yielded (m ∷ [])) next;
      few = omega (arith, i.few, length-append yielded (m ∷ []));
      split = append_assoc yielded (m ∷ []) c.next.new.self.rest.items ∙ ap (λ (l : List Message). yielded ++ l) (sym c.in-Some.ensures.steps.0) ∙ i.split;
    }
