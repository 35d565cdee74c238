use Rattle.std.proofs.Common.{◌≡◌, false, true, ◌∙◌, arith, length, rules}
use Rattle.std.proofs.lemmas.Iterator.Consumers.{YieldsList-turn, YieldsList-end}
use Rattle.rtnl.proofs.Common.{length_push, err_from_is_err_and}
use Rattle.rtnl.proofs.Cuts.{YieldsList-lines, length-lines_of}
use Rattle.rtnl.proofs.Reading.{failed_line, line_at_place, no_line, none_more, none_read, one_more}
use Rattle.rtnl.proofs.recordings.lines.read_datagrams.Goals as goal

pub overflow_add-number : goal.overflow_add-number
overflow_add-number c =
    let lines = YieldsList-lines c.args.input.now (search rules) in
    let turn = YieldsList-turn lines c.loop-line.yielded _ c.loop-line.yielded_by _ c.next.new.self c.in-Some.line c.in-Some.is c.next.ensures.steps in
    omega (arith, c.loop-line.invariant.counted, turn.0, length-lines_of c.args.input.now, c.requires)

pub loop-line-init : goal.loop-line-init
loop-line-init c =
    record {
      can_next = search rules;
      finite = search rules;
      counted = search rules;
      so_far = none_read c.args.input.now _ _ c.in_ok-bytes.ensures.items c.new-ends.ensures.items;
    }

pub returns-in_err-read_line : goal.returns-in_err-read_line
returns-in_err-read_line c =
    let lines = YieldsList-lines c.args.input.now (search rules) in
    let turn = YieldsList-turn lines c.loop-line.yielded _ c.loop-line.yielded_by _ c.next.new.self c.in-Some.line c.in-Some.is c.next.ensures.steps in
    let at = line_at_place _ c.loop-line.number _ _ c.loop-line.invariant.counted turn in
    let error = err_from_is_err_and c.from_residual-in_err-read_line.result c.from_residual-in_err-read_line.ensures.1 in
    rw (error.1, error.2) (failed_line _ _ _ _ _ _ at c.in_err-read_line.ensures c.loop-line.invariant.so_far.2)

pub loop-line-preserved-then-not-branch : goal.loop-line-preserved-then-not-branch
loop-line-preserved-then-not-branch c =
    record {
      can_next = search rules;
      finite = search rules;
      counted = omega (arith, c.loop-line.invariant.counted, length_push c.loop-line.yielded c.in-Some.line);
      so_far =
          let lines = YieldsList-lines c.args.input.now (search rules) in
          let turn = YieldsList-turn lines c.loop-line.yielded _ c.loop-line.yielded_by _ c.next.new.self c.in-Some.line c.in-Some.is c.next.ensures.steps in
          let at = line_at_place _ c.loop-line.number _ _ c.loop-line.invariant.counted turn in
          let none : c.in_ok-read_line.field-0 ≡ false = search rules in
          let read = c.in_ok-read_line.ensures in
          none_more _ _ _ _ _ _ _ _ at read.0 read.1 (rw none at read.2) c.loop-line.invariant.so_far;
    }

pub overflow_cast-len : goal.overflow_cast-len
overflow_cast-len c =
    let lines = YieldsList-lines c.args.input.now (search rules) in
    let turn = YieldsList-turn lines c.loop-line.yielded _ c.loop-line.yielded_by _ c.next.new.self c.in-Some.line c.in-Some.is c.next.ensures.steps in
    let at = line_at_place _ c.loop-line.number _ _ c.loop-line.invariant.counted turn in
    let some : c.in_ok-read_line.field-0 ≡ true = search rules in
    let read = c.in_ok-read_line.ensures in
    let room = one_more _ _ _ _ _ _ _ _ at read.0 read.1 (rw some at read.2) c.loop-line.invariant.so_far in
    let size : c.len.result ≡ length c.read_line.new.bytes.items = search rules in
    omega (arith, size, room.1, c.requires)

pub loop-line-preserved : goal.loop-line-preserved
loop-line-preserved c =
    record {
      can_next = search rules;
      finite = search rules;
      counted = omega (arith, c.loop-line.invariant.counted, length_push c.loop-line.yielded c.in-Some.line);
      so_far =
          let lines = YieldsList-lines c.args.input.now (search rules) in
          let turn = YieldsList-turn lines c.loop-line.yielded _ c.loop-line.yielded_by _ c.next.new.self c.in-Some.line c.in-Some.is c.next.ensures.steps in
          let at = line_at_place _ c.loop-line.number _ _ c.loop-line.invariant.counted turn in
          let some : c.in_ok-read_line.field-0 ≡ true = search rules in
          let read = c.in_ok-read_line.ensures in
          let size : c.len.result ≡ length c.read_line.new.bytes.items = search rules in
          rw (c.in_ok-push.ensures.items, size) (one_more _ _ _ _ _ _ _ _ at read.0 read.1 (rw some at read.2) c.loop-line.invariant.so_far);
    }

pub returns : goal.returns
returns c =
    let lines = YieldsList-lines c.args.input.now (search rules) in
    let end = YieldsList-end lines c.loop-line.yielded _ c.loop-line.yielded_by _ c.next.new.self c.in-None.is c.next.ensures.steps in
    rw c.new.ensures (no_line _ _ _ _ (c.loop-line.invariant.counted ∙ end.1) c.loop-line.invariant.so_far.2)
