use Rattle.rtnl.proofs.Common.{◌≡◌, ◌++◌, ◌+◌, ◌∷◌, [], ◌∙◌, drop, take, sym, ap, drop-drop}
use Rattle.rtnl.specs.Painted.{painted, painted_line}
use Rattle.rtnl.proofs.Painting.{line_written, painted_last}
use Rattle.rtnl.proofs.text.painting.push_in_colours.Goals as goal

pub loop-end-preserved : goal.loop-end-preserved
loop-end-preserved c =
    let l = c.loop-end in
    let left = l.left.now in
    let k = c.in-Some.end in
    let behind = c.split_at-in-Some.result.1.now in
    let rest : behind ≡ drop (k + 1) left = c.split_at-in-Some.ensures.back ∙ ap (drop 1) c.split_at.ensures.back ∙ drop-drop 1 k left in
    let line : c.push_line.new.out.items ≡ l.out.items ++ painted_line (take k left) = c.in_ok-push_line.ensures ∙ ap (λ x. l.out.items ++ painted_line x) c.split_at.ensures.front in
    let written : c.push.new.out.items ≡ (l.out.items ++ painted_line (take k left)) ++ (10 ∷ []) = c.in_ok-push.ensures ∙ ap (λ x. x ++ (10 ∷ [])) line in
    ap (λ x. x ++ painted behind) written ∙ ap (λ x. ((l.out.items ++ painted_line (take k left)) ++ (10 ∷ [])) ++ painted x) rest
    ∙ line_written l.out.items left k c.in-Some.ensures.0 c.in-Some.ensures.1 ∙ l.invariant

pub returns : goal.returns
returns c =
    let l = c.loop-end in
    let whole : c.args.out.now.items ++ painted c.args.text.now ≡ l.out.items ++ painted_line l.left.now =
    sym l.invariant ∙ ap (λ x. l.out.items ++ x) (painted_last l.left.now c.in_default.ensures) in
    rw whole c.push_line-2.ensures
