use Rattle.std.proofs.Common.{rules, ◌≡◌, ◌+◌, ◌++◌, ◌∷◌, [], ◌∙◌, false, Ok, drop, length, sym, ap, subst, append_assoc, true, Some, arith, length-drop, ◌≤◌}
use Rattle.rtnl.proofs.Common.{drop-drop, IsCounted, said_of, with_part, err_from_is_err_and, lines_of}
use Rattle.rtnl.proofs.Cuts.{first_line, last_line, line_parts}
use Rattle.rtnl.proofs.Following.{goes_more, tells_counted}
use Rattle.rtnl.proofs.FollowedPieces.{piece_ended, piece_failed, piece_kept, piece_lost, piece_more}
use Rattle.rtnl.proofs.runs.follow_lines.follow_piece.Goals as goal

pub returns-then-not-branch : goal.returns-then-not-branch
returns-then-not-branch g c = λ before first unheard old follows.
    let l = c.loop-end in
    let i = l.invariant in
    let h = i.front.2 before first unheard old follows in
    let left = l.left.now in
    let k = c.in-Some.end in
    let part = c.split_at.result.0.now in
    let one : lines_of part ≡ part ∷ [] = subst (λ p. lines_of p ≡ p ∷ []) (sym c.split_at.ensures.front) (first_line left k c.in-Some.ensures.0) in
    let is : i.front.0 ++ ((part ++ 10 ∷ []) ++ drop (k + 1) left) ≡ c.args.piece.now =
    ap (λ p. i.front.0 ++ ((p ++ 10 ∷ []) ++ drop (k + 1) left)) c.split_at.ensures.front ∙ ap (λ x. i.front.0 ++ x) (line_parts left k c.in-Some.ensures.0 c.in-Some.ensures.1) ∙ i.front.1 in
    let ended : c.end_line.result ≡ Ok false = search rules in
    let tells = rw ended at c.end_line.ensures.tells in
    piece_ended (g.E.PerLine.says c.args.each.now) (g.E.PerLine.finds c.args.each.now) (g.E.PerLine.text c.args.each.now) g.E.PerLine.takes g.E.PerLine.ends g.B.FollowListener.heard g.B.FollowListener.is_ended g.W.Sink.contents g.W.Sink.is_stalled g.W.Sink.stall_count g.W.Sink.failure_count
    before i.front.0 c.args.piece.now l.state.unfinished first l.kept l.state.progress.counts unheard l.listener old c.args.sink.now l.sink h i.going i.sound part (drop (k + 1) left) one is
    c.end_line.new.kept c.end_line.new.state.progress.counts c.end_line.new.listener c.end_line.new.sink c.end_line.new.state.unfinished tells

pub returns-in_err-end_line : goal.returns-in_err-end_line
returns-in_err-end_line g c = λ before first unheard old follows.
    let l = c.loop-end in
    let i = l.invariant in
    let h = i.front.2 before first unheard old follows in
    let left = l.left.now in
    let k = c.in-Some.end in
    let part = c.split_at.result.0.now in
    let one : lines_of part ≡ part ∷ [] = subst (λ p. lines_of p ≡ p ∷ []) (sym c.split_at.ensures.front) (first_line left k c.in-Some.ensures.0) in
    let is : i.front.0 ++ ((part ++ 10 ∷ []) ++ drop (k + 1) left) ≡ c.args.piece.now =
    ap (λ p. i.front.0 ++ ((p ++ 10 ∷ []) ++ drop (k + 1) left)) c.split_at.ensures.front ∙ ap (λ x. i.front.0 ++ x) (line_parts left k c.in-Some.ensures.0 c.in-Some.ensures.1) ∙ i.front.1 in
    let error = err_from_is_err_and c.from_residual.result c.from_residual.ensures.1 in
    let tells = rw c.in_err-end_line.was at c.end_line.ensures.tells in
    rw (error.1, error.2) (piece_failed (g.E.PerLine.says c.args.each.now) (g.E.PerLine.finds c.args.each.now) (g.E.PerLine.text c.args.each.now) g.E.PerLine.takes g.E.PerLine.ends g.B.FollowListener.heard g.B.FollowListener.is_ended g.W.Sink.contents g.W.Sink.is_stalled g.W.Sink.stall_count g.W.Sink.failure_count
    before i.front.0 c.args.piece.now l.state.unfinished first l.kept l.state.progress.counts unheard l.listener old c.args.sink.now l.sink h i.going i.sound part (drop (k + 1) left) one is
    c.end_line.new.kept c.end_line.new.state.progress.counts c.end_line.new.listener c.end_line.new.sink c.end_line.new.state.unfinished c.end_line.new.state.progress.counts _ tells)

pub loop-end-preserved : goal.loop-end-preserved
loop-end-preserved g c =
    let l = c.loop-end in
    let i = l.invariant in
    let left = l.left.now in
    let k = c.in-Some.end in
    let part = c.split_at.result.0.now in
    let one : lines_of part ≡ part ∷ [] = subst (λ p. lines_of p ≡ p ∷ []) (sym c.split_at.ensures.front) (first_line left k c.in-Some.ensures.0) in
    let is : i.front.0 ++ ((part ++ 10 ∷ []) ++ drop (k + 1) left) ≡ c.args.piece.now =
    ap (λ p. i.front.0 ++ ((p ++ 10 ∷ []) ++ drop (k + 1) left)) c.split_at.ensures.front ∙ ap (λ x. i.front.0 ++ x) (line_parts left k c.in-Some.ensures.0 c.in-Some.ensures.1) ∙ i.front.1 in
    let behind = c.split_at-in-Some.result.1.now in
    let new : drop (k + 1) left ≡ behind = sym (drop-drop 1 k left) ∙ sym (c.split_at-in-Some.ensures.back ∙ ap (drop 1) c.split_at.ensures.back) in
    let size : length behind + 1 ≤ length left = omega (arith, ap length new, length-drop (k + 1) left, c.in-Some.ensures.0.high) in
    let room : IsCounted (length behind + 1) l.state.progress.counts =
    record { lines = omega (arith, i.counted.lines, size); datagrams = i.counted.datagrams; refused = i.counted.refused; bad_lines = i.counted.bad_lines } in
    let told : c.end_line.result ≡ Ok true = search rules in
    let tells = rw told at c.end_line.ensures.tells in
    let cleared : c.end_line.new.state.unfinished ≡ Some [] = c.in_ok-end_line.ensures.cleared in
    record {
      front = (
        i.front.0 ++ (part ++ 10 ∷ []),
        append_assoc i.front.0 (part ++ 10 ∷ []) behind ∙ ap (λ x. i.front.0 ++ ((part ++ 10 ∷ []) ++ x)) (sym new) ∙ is,
        λ before first unheard old follows.
            let h = i.front.2 before first unheard old follows in
            rw cleared (piece_more (g.E.PerLine.says c.args.each.now) (g.E.PerLine.finds c.args.each.now) (g.E.PerLine.text c.args.each.now) g.E.PerLine.takes g.E.PerLine.ends g.B.FollowListener.heard g.B.FollowListener.is_ended g.W.Sink.contents g.W.Sink.is_stalled g.W.Sink.stall_count g.W.Sink.failure_count
            before i.front.0 c.args.piece.now l.state.unfinished first l.kept l.state.progress.counts unheard l.listener old c.args.sink.now l.sink h i.going i.sound part (drop (k + 1) left) one is
            c.end_line.new.kept c.end_line.new.state.progress.counts c.end_line.new.listener c.end_line.new.sink tells.told).0,
      );
      going = goes_more (g.E.PerLine.says c.args.each.now) (g.E.PerLine.finds c.args.each.now) (g.E.PerLine.text c.args.each.now) g.E.PerLine.takes g.E.PerLine.ends g.B.FollowListener.heard g.B.FollowListener.is_ended
          (with_part l.state.unfinished part) l.kept c.end_line.new.kept l.state.progress.counts c.end_line.new.state.progress.counts l.listener c.end_line.new.listener
          (g.W.Sink.contents l.sink) (g.W.Sink.contents c.end_line.new.sink) (said_of (g.E.PerLine.says c.args.each.now) (with_part l.state.unfinished part)) tells.told i.going;
      counted = tells_counted (g.E.PerLine.says c.args.each.now) (g.E.PerLine.finds c.args.each.now) (g.E.PerLine.text c.args.each.now) g.E.PerLine.takes g.E.PerLine.ends g.B.FollowListener.heard g.B.FollowListener.is_ended
          (with_part l.state.unfinished part) (said_of (g.E.PerLine.says c.args.each.now) (with_part l.state.unfinished part)) true l.kept c.end_line.new.kept l.state.progress.counts c.end_line.new.state.progress.counts
          l.listener c.end_line.new.listener (g.W.Sink.contents l.sink) (g.W.Sink.contents c.end_line.new.sink) (length behind) room tells.told;
      short = omega (arith, size, i.short);
      sound = (tells.sound.0 ∙ i.sound.0, tells.sound.1 ∙ i.sound.1);
    }

pub returns-in_err-push : goal.returns-in_err-push
returns-in_err-push g c = λ before first unheard old follows.
    let l = c.loop-end in
    let i = l.invariant in
    let h = i.front.2 before first unheard old follows in
    let left = l.left.now in
    let one : lines_of left ≡ left ∷ [] = last_line left c.in_default.ensures in
    let error = err_from_is_err_and c.from_residual-in_err-push.result c.from_residual-in_err-push.ensures.1 in
    rw (error.1, error.2) (piece_lost (g.E.PerLine.says c.args.each.now) (g.E.PerLine.finds c.args.each.now) (g.E.PerLine.text c.args.each.now) g.E.PerLine.takes g.E.PerLine.ends g.B.FollowListener.heard g.B.FollowListener.is_ended g.W.Sink.contents g.W.Sink.is_stalled g.W.Sink.stall_count g.W.Sink.failure_count
    before i.front.0 c.args.piece.now l.state.unfinished first l.kept l.state.progress.counts unheard l.listener old c.args.sink.now l.sink h i.going i.sound left one i.front.1 c.push.new.self)

pub returns : goal.returns
returns g c = λ before first unheard old follows.
    let l = c.loop-end in
    let i = l.invariant in
    let h = i.front.2 before first unheard old follows in
    let left = l.left.now in
    let one : lines_of left ≡ left ∷ [] = last_line left c.in_default.ensures in
    piece_kept (g.E.PerLine.says c.args.each.now) (g.E.PerLine.finds c.args.each.now) (g.E.PerLine.text c.args.each.now) g.E.PerLine.takes g.E.PerLine.ends g.B.FollowListener.heard g.B.FollowListener.is_ended g.W.Sink.contents g.W.Sink.is_stalled g.W.Sink.stall_count g.W.Sink.failure_count
    before i.front.0 c.args.piece.now l.state.unfinished first l.kept l.state.progress.counts unheard l.listener old c.args.sink.now l.sink h i.going i.sound left one i.front.1 c.push.new.self (search rules)
