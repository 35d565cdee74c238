use Rattle.nl_attr.proofs.Common.{◌≡◌, ◌+◌, map, arith, Some, Err, subst, sym, ◌∙◌, Order, GivesPart, broken_length, attr_view, before, region_at}
use Rattle.nl_attr.proofs.Lemmas.Loop.{list_done, list_cut}
use Rattle.nl_attr.proofs.Lemmas.Going.{stays_within}
use Rattle.nl_attr.proofs.Lemmas.Turned.{part_size, leaf_goes, leaf_fails, turn_follows}
use Rattle.nl_attr.proofs.stack.attributes.read_walk.Goals as goal

pub returns-in-Ends-clause-goes : goal.returns-in-Ends-clause-goes
returns-in-Ends-clause-goes c =
    let r = region_at c.attrs.walk c.attrs.list c.args.base c.args.level c.args.ctx in
    let n : c.step.new.visits ≡ c.attrs.visits = omega (arith, c.in-Ends.ensures.counts) in
    rw n (c.attrs.invariant.same ∙ list_done c.args.shape r.ctx r.level (r.base + r.walk.place) r.walk.left (map attr_view r.list.items) c.attrs.visits c.in-Ends.ensures.steps.0)

pub returns-in-Fails-clause-goes : goal.returns-in-Fails-clause-goes
returns-in-Fails-clause-goes c =
    let r = region_at c.attrs.walk c.attrs.list c.args.base c.args.level c.args.ctx in
    let w = r.walk in
    let g : GivesPart w (Some (Err (record { place = c.in-Fails.place; reason = c.in-Fails.reason }))) c.step.new.self = c.in-Fails.ensures.steps in
    let within = stays_within c.attrs.invariant c.requires.limits in
    let n : c.step.new.visits ≡ c.attrs.visits = omega (arith, c.in-Fails.ensures.counts) in
    rw (c.layout.ensures, g.2, n) (c.attrs.invariant.same ∙ list_cut c.args.shape r.ctx r.level (r.base + w.place) w.left (before (map attr_view r.list.items)) c.in-Fails.reason c.attrs.visits g.0 (subst (λ (o : Order). broken_length o 4 2 w.left ≡ Some c.in-Fails.reason) within.order g.1))

pub attrs-preserved-in-Ok : goal.attrs-preserved-in-Ok
attrs-preserved-in-Ok c =
    let r = region_at c.attrs.walk c.attrs.list c.args.base c.args.level c.args.ctx in
    leaf_goes r c.step.new.self c.in-Word.part c.step.new.visits c.attrs.invariant c.requires.limits c.in-Word.ensures.steps c.keep_bytes.new.list c.in-Word.ensures.counts (sym c.holds.ensures ∙ c.in-None.ensures) c.in-Ok.ensures

pub returns-in-Err-clause-goes : goal.returns-in-Err-clause-goes
returns-in-Err-clause-goes c =
    let r = region_at c.attrs.walk c.attrs.list c.args.base c.args.level c.args.ctx in
    leaf_fails r c.step.new.self c.in-Word.part c.step.new.visits c.attrs.invariant c.requires.limits c.in-Word.ensures.steps c.in-Word.ensures.counts

pub turn_at-requires-clause-size : goal.turn_at-requires-clause-size
turn_at-requires-clause-size c =
    let r = region_at c.attrs.walk c.attrs.list c.args.base c.args.level c.args.ctx in
    part_size r c.step.new.self c.in-Word.part c.step.new.visits c.attrs.invariant c.requires.limits c.in-Word.ensures.steps

pub returns-in-Some : goal.returns-in-Some
returns-in-Some c =
    let r = region_at c.attrs.walk c.attrs.list c.args.base c.args.level c.args.ctx in
    let t = turn_follows r c.step.new.self c.in-Word.part c.step.new.visits c.attrs.invariant c.requires.limits c.in-Word.ensures.steps c.in-Some.parts c.turn_at.result c.in-Word.ensures.counts (sym c.holds.ensures ∙ c.in-Some.ensures) c.turn_at.ensures in
    record { goes = t.0; moves = t.1 }

pub attrs-preserved-in-Ok-keep_bytes : goal.attrs-preserved-in-Ok-keep_bytes
attrs-preserved-in-Ok-keep_bytes c =
    let r = region_at c.attrs.walk c.attrs.list c.args.base c.args.level c.args.ctx in
    leaf_goes r c.step.new.self c.in-Plain.part c.step.new.visits c.attrs.invariant c.requires.limits c.in-Plain.ensures.steps c.keep_bytes-in-None-of.new.list c.in-Plain.ensures.counts (sym c.holds-in-Plain.ensures ∙ c.in-None-of.ensures) c.in-Ok-keep_bytes.ensures

pub returns-in-Err-keep_bytes-clause-goes : goal.returns-in-Err-keep_bytes-clause-goes
returns-in-Err-keep_bytes-clause-goes c =
    let r = region_at c.attrs.walk c.attrs.list c.args.base c.args.level c.args.ctx in
    leaf_fails r c.step.new.self c.in-Plain.part c.step.new.visits c.attrs.invariant c.requires.limits c.in-Plain.ensures.steps c.in-Plain.ensures.counts

pub turn_at-requires-in-Some-of-clause-size : goal.turn_at-requires-in-Some-of-clause-size
turn_at-requires-in-Some-of-clause-size c =
    let r = region_at c.attrs.walk c.attrs.list c.args.base c.args.level c.args.ctx in
    part_size r c.step.new.self c.in-Plain.part c.step.new.visits c.attrs.invariant c.requires.limits c.in-Plain.ensures.steps

pub returns-in-Some-of : goal.returns-in-Some-of
returns-in-Some-of c =
    let r = region_at c.attrs.walk c.attrs.list c.args.base c.args.level c.args.ctx in
    let t = turn_follows r c.step.new.self c.in-Plain.part c.step.new.visits c.attrs.invariant c.requires.limits c.in-Plain.ensures.steps c.in-Some-of.parts c.turn_at-in-Some-of.result c.in-Plain.ensures.counts (sym c.holds-in-Plain.ensures ∙ c.in-Some-of.ensures) c.turn_at-in-Some-of.ensures in
    record { goes = t.0; moves = t.1 }

pub attrs-preserved : goal.attrs-preserved
attrs-preserved c =
    let r = region_at c.attrs.walk c.attrs.list c.args.base c.args.level c.args.ctx in
    leaf_goes r c.step.new.self c.in-Flagged.part c.step.new.visits c.attrs.invariant c.requires.limits c.in-Flagged.ensures.steps c.keep_others.new.list c.in-Flagged.ensures.counts (sym c.holds-in-Flagged.ensures ∙ c.in-None-of-2.ensures) c.in-Ok-keep_others.ensures

pub returns-in-Err-keep_others-clause-goes : goal.returns-in-Err-keep_others-clause-goes
returns-in-Err-keep_others-clause-goes c =
    let r = region_at c.attrs.walk c.attrs.list c.args.base c.args.level c.args.ctx in
    leaf_fails r c.step.new.self c.in-Flagged.part c.step.new.visits c.attrs.invariant c.requires.limits c.in-Flagged.ensures.steps c.in-Flagged.ensures.counts

pub turn_at-requires-in-Some-of-2-clause-size : goal.turn_at-requires-in-Some-of-2-clause-size
turn_at-requires-in-Some-of-2-clause-size c =
    let r = region_at c.attrs.walk c.attrs.list c.args.base c.args.level c.args.ctx in
    part_size r c.step.new.self c.in-Flagged.part c.step.new.visits c.attrs.invariant c.requires.limits c.in-Flagged.ensures.steps

pub returns-in-Some-of-2 : goal.returns-in-Some-of-2
returns-in-Some-of-2 c =
    let r = region_at c.attrs.walk c.attrs.list c.args.base c.args.level c.args.ctx in
    let t = turn_follows r c.step.new.self c.in-Flagged.part c.step.new.visits c.attrs.invariant c.requires.limits c.in-Flagged.ensures.steps c.in-Some-of-2.parts c.turn_at-in-Some-of-2.result c.in-Flagged.ensures.counts (sym c.holds-in-Flagged.ensures ∙ c.in-Some-of-2.ensures) c.turn_at-in-Some-of-2.ensures in
    record { goes = t.0; moves = t.1 }
