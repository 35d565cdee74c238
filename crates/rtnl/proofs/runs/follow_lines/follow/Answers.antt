use Rattle.std.proofs.Common.{rules, ◌≡◌, ◌∷◌, ◌++◌, ◌≤◌, ◌∙◌, [], false, true, Ok, refl, take, length, arith, length-append}
use Rattle.rtnl.proofs.Common.{length-take, err_from_is_err_and, Consumes, Gains}
use Rattle.rtnl.proofs.Following.{follows_counted, follows_none, read_none}
use Rattle.rtnl.proofs.FollowedPieces.{all_ended, all_failed, all_read, all_told, last_failed, read_failed}
use Rattle.rtnl.proofs.runs.follow_lines.follow.Goals as goal

pub loop-received-init : goal.loop-received-init
loop-received-init g c =
    record {
      input = [];
      read = read_none (g.E.PerLine.says c.args.each.now) (g.E.PerLine.finds c.args.each.now) (g.E.PerLine.text c.args.each.now) g.E.PerLine.ends g.S.Source.remaining g.S.LiveSource.reads c.args.kept.now (g.W.Sink.contents c.args.sink.now) c.args.source.now;
      size = refl;
      follows = rw (c.new-state.ensures.unfinished, c.new-state.ensures.counts) (follows_none (g.E.PerLine.says c.args.each.now) (g.E.PerLine.finds c.args.each.now) (g.E.PerLine.text c.args.each.now) g.E.PerLine.takes g.E.PerLine.ends g.B.FollowListener.heard g.B.FollowListener.is_ended c.args.kept.now c.args.listener.now (g.W.Sink.contents c.args.sink.now));
      going = c.requires.going;
      room = refl;
      sound = refl;
      written = (refl, refl);
    }

pub end_line-requires-clause-counted : goal.end_line-requires-clause-counted
end_line-requires-clause-counted g c =
    let l = c.loop-received in
    let i = l.invariant in
    follows_counted (g.E.PerLine.says c.args.each.now) (g.E.PerLine.finds c.args.each.now) (g.E.PerLine.text c.args.each.now) g.E.PerLine.takes g.E.PerLine.ends g.B.FollowListener.heard g.B.FollowListener.is_ended i.input l.state.unfinished c.args.kept.now l.kept l.state.progress.counts
    c.args.listener.now l.listener (g.W.Sink.contents c.args.sink.now) (g.W.Sink.contents l.sink) 1 i.follows (omega (arith, i.size, c.loop-received-test.true))

pub follow_piece-requires-clause-counted : goal.follow_piece-requires-clause-counted
follow_piece-requires-clause-counted g c =
    let l = c.loop-received in
    let i = l.invariant in
    let size : length (take c.in-Ok.count c.take_behind.new.buffer) ≤ 8192 = omega (arith, length-take c.in-Ok.count c.take_behind.new.buffer, c.in-Ok.ensures.fits, i.room) in
    follows_counted (g.E.PerLine.says c.args.each.now) (g.E.PerLine.finds c.args.each.now) (g.E.PerLine.text c.args.each.now) g.E.PerLine.takes g.E.PerLine.ends g.B.FollowListener.heard g.B.FollowListener.is_ended i.input l.state.unfinished c.args.kept.now l.kept l.state.progress.counts
    c.args.listener.now l.listener (g.W.Sink.contents c.args.sink.now) (g.W.Sink.contents l.sink) (length (take c.in-Ok.count c.take_behind.new.buffer)) i.follows (omega (arith, i.size, size, c.loop-received-test.true))

pub returns-in-Ok-eq0 : goal.returns-in-Ok-eq0
returns-in-Ok-eq0 g c =
    let l = c.loop-received in
    let i = l.invariant in
    let tells = rw c.in_ok-end_line-in-Ok-eq0.was at c.end_line.ensures.tells in
    let bytes : Consumes (g.S.Source.remaining l.source) (g.S.Source.remaining c.take_behind.new.self) (take 0 c.take_behind.new.buffer) = search rules in
    let seen : Gains (g.S.LiveSource.reads l.source) (g.S.LiveSource.reads c.take_behind.new.self) (record { written = g.W.Sink.contents l.sink; moved = take 0 c.take_behind.new.buffer } ∷ []) = search rules in
    let same : g.S.Source.failure_count c.take_behind.new.self ≡ g.S.Source.failure_count l.source = search rules in
    all_told (g.E.PerLine.says c.args.each.now) (g.E.PerLine.finds c.args.each.now) (g.E.PerLine.text c.args.each.now) g.E.PerLine.takes g.E.PerLine.ends g.B.FollowListener.heard g.B.FollowListener.is_ended g.S.Source.remaining g.S.Source.is_ended g.S.Source.failure_count g.S.LiveSource.reads g.W.Sink.contents g.W.Sink.is_stalled g.W.Sink.stall_count g.W.Sink.failure_count
    c.args.source.now l.source c.take_behind.new.self c.args.sink.now l.sink c.end_line.new.sink c.args.kept.now l.kept c.end_line.new.kept c.args.listener.now l.listener c.end_line.new.listener
    i.input (take 0 c.take_behind.new.buffer) i.read bytes seen i.sound same i.written l.state.unfinished l.state.progress.counts i.follows i.going
    refl c.in_ok-end_line-in-Ok-eq0.field-0 c.end_line.new.state.progress.counts tells (search rules) (search rules)

pub returns-in_err-end_line-in-Ok-eq0 : goal.returns-in_err-end_line-in-Ok-eq0
returns-in_err-end_line-in-Ok-eq0 g c =
    let l = c.loop-received in
    let i = l.invariant in
    let tells = rw c.in_err-end_line-in-Ok-eq0.was at c.end_line.ensures.tells in
    let bytes : Consumes (g.S.Source.remaining l.source) (g.S.Source.remaining c.take_behind.new.self) (take 0 c.take_behind.new.buffer) = search rules in
    let seen : Gains (g.S.LiveSource.reads l.source) (g.S.LiveSource.reads c.take_behind.new.self) (record { written = g.W.Sink.contents l.sink; moved = take 0 c.take_behind.new.buffer } ∷ []) = search rules in
    let same : g.S.Source.failure_count c.take_behind.new.self ≡ g.S.Source.failure_count l.source = search rules in
    let error = err_from_is_err_and c.from_residual.result c.from_residual.ensures.1 in
    rw (error.1, error.2) (last_failed (g.E.PerLine.says c.args.each.now) (g.E.PerLine.finds c.args.each.now) (g.E.PerLine.text c.args.each.now) g.E.PerLine.takes g.E.PerLine.ends g.B.FollowListener.heard g.B.FollowListener.is_ended g.S.Source.remaining g.S.Source.is_ended g.S.Source.failure_count g.S.LiveSource.reads g.W.Sink.contents g.W.Sink.is_stalled g.W.Sink.stall_count g.W.Sink.failure_count
    c.args.source.now l.source c.take_behind.new.self c.args.sink.now l.sink c.end_line.new.sink c.args.kept.now l.kept c.end_line.new.kept c.args.listener.now l.listener c.end_line.new.listener
    i.input (take 0 c.take_behind.new.buffer) i.read bytes seen i.sound same i.written l.state.unfinished l.state.progress.counts i.follows i.going
    refl c.end_line.new.state.progress.counts _ tells)

pub returns-in_err-follow_piece-in-Ok : goal.returns-in_err-follow_piece-in-Ok
returns-in_err-follow_piece-in-Ok g c =
    let l = c.loop-received in
    let i = l.invariant in
    let follows = c.follow_piece.ensures i.input c.args.kept.now c.args.listener.now (g.W.Sink.contents c.args.sink.now) i.follows in
    let same : g.S.Source.failure_count c.take_behind.new.self ≡ g.S.Source.failure_count l.source = search rules in
    let ends = rw c.in_err-follow_piece-in-Ok.was at follows in
    let error = err_from_is_err_and c.from_residual-in_err-follow_piece-in-Ok.result c.from_residual-in_err-follow_piece-in-Ok.ensures.1 in
    rw (error.1, error.2) (all_failed (g.E.PerLine.says c.args.each.now) (g.E.PerLine.finds c.args.each.now) (g.E.PerLine.text c.args.each.now) g.E.PerLine.takes g.E.PerLine.ends g.B.FollowListener.heard g.B.FollowListener.is_ended g.S.Source.remaining g.S.Source.is_ended g.S.Source.failure_count g.S.LiveSource.reads g.W.Sink.contents g.W.Sink.is_stalled g.W.Sink.stall_count g.W.Sink.failure_count
    c.args.source.now l.source c.take_behind.new.self c.args.sink.now l.sink c.follow_piece.new.sink c.args.kept.now l.kept c.follow_piece.new.kept c.args.listener.now l.listener c.follow_piece.new.listener
    i.input (take c.in-Ok.count c.take_behind.new.buffer) i.read c.in-Ok.ensures.bytes.0 c.in-Ok.ensures.seen i.sound same i.written l.state.unfinished l.state.progress.counts i.follows i.going
    c.follow_piece.new.state.unfinished c.follow_piece.new.state.progress.counts _ ends)

pub returns-then-not-branch : goal.returns-then-not-branch
returns-then-not-branch g c =
    let l = c.loop-received in
    let i = l.invariant in
    let follows = c.follow_piece.ensures i.input c.args.kept.now c.args.listener.now (g.W.Sink.contents c.args.sink.now) i.follows in
    let same : g.S.Source.failure_count c.take_behind.new.self ≡ g.S.Source.failure_count l.source = search rules in
    let ended : c.follow_piece.result ≡ Ok false = search rules in
    let ends = rw ended at follows in
    all_ended (g.E.PerLine.says c.args.each.now) (g.E.PerLine.finds c.args.each.now) (g.E.PerLine.text c.args.each.now) g.E.PerLine.takes g.E.PerLine.ends g.B.FollowListener.heard g.B.FollowListener.is_ended g.S.Source.remaining g.S.Source.is_ended g.S.Source.failure_count g.S.LiveSource.reads g.W.Sink.contents g.W.Sink.is_stalled g.W.Sink.stall_count g.W.Sink.failure_count
    c.args.source.now l.source c.take_behind.new.self c.args.sink.now l.sink c.follow_piece.new.sink c.args.kept.now l.kept c.follow_piece.new.kept c.args.listener.now l.listener c.follow_piece.new.listener
    i.input (take c.in-Ok.count c.take_behind.new.buffer) i.read c.in-Ok.ensures.bytes.0 c.in-Ok.ensures.seen i.sound same i.written l.state.unfinished l.state.progress.counts i.follows i.going
    c.follow_piece.new.state.unfinished c.follow_piece.new.state.progress.counts ends

pub loop-received-preserved : goal.loop-received-preserved
loop-received-preserved g c =
    let l = c.loop-received in
    let i = l.invariant in
    let follows = c.follow_piece.ensures i.input c.args.kept.now c.args.listener.now (g.W.Sink.contents c.args.sink.now) i.follows in
    let same : g.S.Source.failure_count c.take_behind.new.self ≡ g.S.Source.failure_count l.source = search rules in
    let told : c.follow_piece.result ≡ Ok true = search rules in
    let next = rw told at follows in
    let goes = next.follows refl in
    record {
      input = i.input ++ (take c.in-Ok.count c.take_behind.new.buffer);
      read = (all_read (g.E.PerLine.says c.args.each.now) (g.E.PerLine.finds c.args.each.now) (g.E.PerLine.text c.args.each.now) g.E.PerLine.takes g.E.PerLine.ends g.B.FollowListener.heard g.B.FollowListener.is_ended g.S.Source.remaining g.S.Source.is_ended g.S.Source.failure_count g.S.LiveSource.reads g.W.Sink.contents g.W.Sink.is_stalled g.W.Sink.stall_count g.W.Sink.failure_count
          c.args.source.now l.source c.take_behind.new.self c.args.sink.now l.sink c.follow_piece.new.sink c.args.kept.now l.kept c.follow_piece.new.kept c.args.listener.now l.listener c.follow_piece.new.listener
          i.input (take c.in-Ok.count c.take_behind.new.buffer) i.read c.in-Ok.ensures.bytes.0 c.in-Ok.ensures.seen i.sound same i.written l.state.unfinished l.state.progress.counts i.follows i.going).0;
      size = omega (arith, i.size, length-append i.input (take c.in-Ok.count c.take_behind.new.buffer), length-take c.in-Ok.count c.take_behind.new.buffer, c.in-Ok.ensures.fits);
      follows = goes.0;
      going = goes.1;
      room = search rules;
      sound = same ∙ i.sound;
      written = (next.sound.0 ∙ i.written.0, next.sound.1 ∙ i.written.1);
    }

pub returns-in-Err : goal.returns-in-Err
returns-in-Err g c =
    let l = c.loop-received in
    let i = l.invariant in
    read_failed (g.E.PerLine.says c.args.each.now) (g.E.PerLine.finds c.args.each.now) (g.E.PerLine.text c.args.each.now) g.E.PerLine.takes g.E.PerLine.ends g.B.FollowListener.heard g.B.FollowListener.is_ended g.S.Source.remaining g.S.Source.is_ended g.S.Source.failure_count g.S.LiveSource.reads g.W.Sink.contents g.W.Sink.is_stalled g.W.Sink.stall_count g.W.Sink.failure_count
    c.args.source.now l.source c.take_behind.new.self c.args.sink.now l.sink c.args.kept.now l.kept c.args.listener.now l.listener
    i.input i.read (search rules) (search rules) i.sound (search rules) l.state.unfinished l.state.progress.counts i.follows i.going
