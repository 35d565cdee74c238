use Rattle.nl_mirror.proofs.Common.{◌≡◌, Some, false, true, subst, IfErr, IfOk, message_view, Following, IsHeardBy, in_items, effect_beside, effect_seen, beside, change_seen, doubt_of, note_in, is_full}
use Rattle.nl_mirror.specs.declared.effect.Effect.TheVariants as effects
use Rattle.nl_mirror.specs.declared.short.Short.TheVariants as short
use Rattle.nl_mirror.proofs.Effects.{beside_effect, beside_memory, beside_room}
use Rattle.nl_mirror.proofs.Hearings.{told_beside}
use Rattle.nl_mirror.proofs.follower.Follower.hear_beside.Goals as goal

pub returns-in-Some-clause-heard : goal.returns-in-Some-clause-heard
returns-in-Some-clause-heard g c =
    let item = g.T.FromBody.item in
    let kind = g.T.FromBody.family in
    let at = c.self.inside in
    let v = message_view c.args.message in
    let after = in_items item (record { kind = kind; listening = record { dump = at.dump; interrupted = at.interrupted; asked = at.asked }; replica = c.change_in_doubt.new.self }) in
    subst (λ (f : Following g.row.T.Denot). IsHeardBy c.change_in_doubt.result (in_items item f) (beside f.kind f.listening v) after) c.self.view_is
    (told_beside item kind at.dump at.interrupted at.asked at.replica c.change_in_doubt.new.self c.change_in_doubt.result v
    c.in-Some.change c.doubt_of-doubt.result (subst (λ k. Some (change_seen item c.in-Some.change) ≡ note_in k at.asked v) c.kind-kind.ensures c.in-Some.ensures)
    (subst (λ k. c.doubt_of-doubt.result ≡ doubt_of k v) c.kind-kind.ensures c.doubt_of-doubt.ensures) c.change_in_doubt.ensures.ok c.change_in_doubt.ensures.err)

pub returns-in-Some-clause-effect : goal.returns-in-Some-clause-effect
returns-in-Some-clause-effect g c =
    let item = g.T.FromBody.item in
    let kind = g.T.FromBody.family in
    let at = c.self.inside in
    let v = message_view c.args.message in
    subst (λ (f : Following g.row.T.Denot). IfOk c.change_in_doubt.result (λ e. effect_seen item e ≡ effect_beside (in_items item f) v)) c.self.view_is
    (beside_effect item c.change_in_doubt.result at.replica c.in-Some.change (note_in kind at.asked v) (subst (λ k. Some (change_seen item c.in-Some.change) ≡ note_in k at.asked v) c.kind-kind.ensures c.in-Some.ensures) c.change_in_doubt.ensures.effect)

pub returns-in-Some-clause-room : goal.returns-in-Some-clause-room
returns-in-Some-clause-room g c =
    let item = g.T.FromBody.item in
    let kind = g.T.FromBody.family in
    let at = c.self.inside in
    let v = message_view c.args.message in
    let r = c.change_in_doubt in
    subst (λ (f : Following g.row.T.Denot). IfErr r.result (λ e. e ≡ short.Waiting
    → (effect_beside (in_items item f) v ≡ effects.Waits) × (is_full (in_items item f).replica ≡ true))) c.self.view_is
    (beside_room item r.result at.replica r.new.self c.in-Some.change c.doubt_of-doubt.result (note_in kind at.asked v) (subst (λ k. Some (change_seen item c.in-Some.change) ≡ note_in k at.asked v) c.kind-kind.ensures c.in-Some.ensures) r.ensures.err)

pub returns-in-Some-clause-memory : goal.returns-in-Some-clause-memory
returns-in-Some-clause-memory g c =
    let item = g.T.FromBody.item in
    let r = c.change_in_doubt in
    subst (λ (f : Following g.row.T.Denot). IfErr r.result (λ e. e ≡ short.Memory → is_full (in_items item f).replica ≡ false)) c.self.view_is
    (beside_memory item r.result c.self.inside.replica r.ensures.room)
