use Rattle.std.proofs.Common.{◌≡◌, ◌+◌, [], false, true, Err, Ok, arith, length, refl, rules, subst}
use Rattle.std.specs.Option.{is_some}
use Rattle.rtnl.specs.Lines.{Adds, line_at}
use Rattle.rtnl.proofs.Output.{behind_bad, has_none, has_one, is_bad}
use Rattle.rtnl.proofs.runs.output.Output.say_line.Goals as goal

pub returns-then-is_some-clause-said : goal.returns-then-is_some-clause-said
returns-then-is_some-clause-said g c = λ done count said.
    let bad : is_some c.args.self.now.bad_line ≡ true = search rules in
    behind_bad (g.E.PerDatagram.finds c.args.each.now) (g.E.PerDatagram.text c.args.each.now) g.E.PerDatagram.takes done c.args.line.now c.args.self.now _ bad refl said

pub returns-in_ok-say_datagram-in-Ok-true-clause-said : goal.returns-in_ok-say_datagram-in-Ok-true-clause-said
returns-in_ok-say_datagram-in-Ok-true-clause-said g c = λ done count said.
    let good : is_some c.args.self.now.bad_line ≡ false = search rules in
    let some : c.in-Ok-true.field-0 ≡ true = search rules in
    let r = c.in-Ok-true.ensures in
    let same : c.args.self.now.lines + 1 ≡ 1 + length done = omega (arith, count) in
    let read : line_at (1 + length done) c.args.line.now ≡ Ok r.0 = subst (λ k. line_at k c.args.line.now ≡ Ok r.0) same r.1 in
    let adds : Adds r.0 true [] c.read_line.new.bytes.items = subst (λ old. Adds r.0 true old c.read_line.new.bytes.items) c.clear.ensures.items (rw some at r.2) in
    let e = c.in_ok-say_datagram-in-Ok-true.ensures in
    has_one (g.E.PerDatagram.finds c.args.each.now) (g.E.PerDatagram.text c.args.each.now) g.E.PerDatagram.takes done c.args.line.now c.args.self.now c.say_datagram.new.self r.0 c.read_line.new.bytes.items e.said.0 good read adds
    e.good e.counted e.said.1 e.said.2 e.said.3 said

pub returns-in-Ok-false-clause-said : goal.returns-in-Ok-false-clause-said
returns-in-Ok-false-clause-said g c = λ done count said.
    let good : is_some c.args.self.now.bad_line ≡ false = search rules in
    let none : c.in-Ok-false.field-0 ≡ false = search rules in
    let r = c.in-Ok-false.ensures in
    let same : c.args.self.now.lines + 1 ≡ 1 + length done = omega (arith, count) in
    let read : line_at (1 + length done) c.args.line.now ≡ Ok r.0 = subst (λ k. line_at k c.args.line.now ≡ Ok r.0) same r.1 in
    let adds : Adds r.0 false [] c.read_line.new.bytes.items = subst (λ old. Adds r.0 false old c.read_line.new.bytes.items) c.clear.ensures.items (rw none at r.2) in
    has_none (g.E.PerDatagram.finds c.args.each.now) (g.E.PerDatagram.text c.args.each.now) g.E.PerDatagram.takes done c.args.line.now c.args.self.now _ r.0 c.read_line.new.bytes.items good read adds refl refl refl refl said

pub returns-in-Err-BadLine-clause-said : goal.returns-in-Err-BadLine-clause-said
returns-in-Err-BadLine-clause-said g c = λ done count said.
    let good : is_some c.args.self.now.bad_line ≡ false = search rules in
    let same : c.args.self.now.lines + 1 ≡ 1 + length done = omega (arith, count) in
    let here : line_at (c.args.self.now.lines + 1) c.args.line.now ≡ Err c.in-Err-BadLine.number = search rules in
    let read : line_at (1 + length done) c.args.line.now ≡ Err c.in-Err-BadLine.number = subst (λ k. line_at k c.args.line.now ≡ Err c.in-Err-BadLine.number) same here in
    is_bad (g.E.PerDatagram.finds c.args.each.now) (g.E.PerDatagram.text c.args.each.now) g.E.PerDatagram.takes done c.args.line.now c.args.self.now _ c.in-Err-BadLine.number good read (search rules) said
