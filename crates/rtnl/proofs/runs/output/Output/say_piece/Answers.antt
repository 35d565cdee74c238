use Rattle.std.proofs.Common.{◌≡◌, ◌≤◌, ◌+◌, ◌++◌, ◌∷◌, [], ◌∙◌, ap, append_assoc, arith, drop, length, length-drop, refl, subst, sym}
use Rattle.rtnl.proofs.Common.{drop-drop, lines_of, SaysInput}
use Rattle.rtnl.proofs.Cuts.{first_line, last_line, line_parts}
use Rattle.rtnl.proofs.Output.{line_said, part_kept}
use Rattle.rtnl.proofs.runs.output.Output.say_piece.Goals as goal

pub loop-end-preserved : goal.loop-end-preserved
loop-end-preserved g c =
    let l = c.loop-end in
    let i = l.invariant in
    let left = l.left.now in
    let k = c.in-Some.end in
    let part = c.split_at.result.0.now in
    let one : lines_of part ≡ part ∷ [] = subst (λ p. lines_of p ≡ p ∷ []) (sym c.split_at.ensures.front) (first_line left k c.in-Some.ensures.0) in
    let is : i.front.0 ++ ((part ++ 10 ∷ []) ++ drop (k + 1) left) ≡ c.args.piece.now =
    ap (λ p. i.front.0 ++ ((p ++ 10 ∷ []) ++ drop (k + 1) left)) c.split_at.ensures.front ∙ ap (λ x. i.front.0 ++ x) (line_parts left k c.in-Some.ensures.0 c.in-Some.ensures.1) ∙ i.front.1 in
    let behind = c.split_at-in-Some.result.1.now in
    let new : drop (k + 1) left ≡ behind = sym (drop-drop 1 k left) ∙ sym (c.split_at-in-Some.ensures.back ∙ ap (drop 1) c.split_at.ensures.back) in
    let size : length behind + 1 ≤ length left = omega (arith, ap length new, length-drop (k + 1) left, c.in-Some.ensures.0.high) in
    let ended = c.in_ok-end_line.ensures in
    record {
      front = (
        i.front.0 ++ (part ++ 10 ∷ []),
        append_assoc i.front.0 (part ++ 10 ∷ []) behind ∙ ap (λ x. i.front.0 ++ ((part ++ 10 ∷ []) ++ x)) (sym new) ∙ is,
        λ input said.
            let h = i.front.2 input said in
            subst (λ x. SaysInput (g.E.PerDatagram.finds c.args.each.now) (g.E.PerDatagram.text c.args.each.now) g.E.PerDatagram.takes x c.end_line.new.self) (append_assoc input i.front.0 (part ++ 10 ∷ []))
            (line_said (g.E.PerDatagram.finds c.args.each.now) (g.E.PerDatagram.text c.args.each.now) g.E.PerDatagram.takes (input ++ i.front.0) part l.self c.end_line.new.self one h ended.counted ended.ended (ended.said h.0 h.2 h.3)),
      );
      counted = omega (arith, ended.counted, size, i.counted);
    }

pub returns-clause-said : goal.returns-clause-said
returns-clause-said g c = λ input said.
    let l = c.loop-end in
    let i = l.invariant in
    let left = l.left.now in
    let one : lines_of left ≡ left ∷ [] = last_line left c.in_default.ensures in
    let all = append_assoc input i.front.0 left ∙ ap (λ x. input ++ x) i.front.1 in
    part_kept (g.E.PerDatagram.finds c.args.each.now) (g.E.PerDatagram.text c.args.each.now) g.E.PerDatagram.takes (input ++ i.front.0) left (input ++ c.args.piece.now) l.self _ all one c.in_ok-extend_from_slice.ensures.items
    refl refl refl refl refl (i.front.2 input said)
