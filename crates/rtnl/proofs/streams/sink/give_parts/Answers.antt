use Rattle.std.proofs.Common.{◌≡◌, ◌<◌, ◌+◌, ◌++◌, ◌∙◌, ap, drop, get_or, length, rules, subst, sym, take}
use Rattle.rtnl.proofs.Common.{err_from_is_err_and, joined, AppendsPrefix}
use Rattle.rtnl.proofs.KnownBytes.{prefix_longer, prefix_more}
use Rattle.rtnl.proofs.Parts.{all_parts, first_parts}
use Rattle.rtnl.proofs.streams.sink.give_parts.Goals as goal

pub returns-in_err-give_all-clause-part : goal.returns-in_err-give_all-clause-part
returns-in_err-give_all-clause-part g c =
    let parts = c.args.parts.now in
    let k = c.loop-index.index in
    let part = c.index-parts-index.result in
    let below : k < length parts = search rules in
    let text : c.as_slice.result.now ≡ part.items = search rules in
    let here : get_or parts k part ≡ part = search rules in
    let front = prefix_more _ _ _ (joined (take k parts)) c.as_slice.result.now c.loop-index.invariant.front c.in_err-give_all.ensures.part in
    let all : (joined (take k parts) ++ c.as_slice.result.now) ++ joined (drop (k + 1) parts) ≡ joined parts =
    ap (λ t. (joined (take k parts) ++ t) ++ joined (drop (k + 1) parts)) (text ∙ ap (λ p. p.items) (sym here))
    ∙ ap (λ t. t ++ joined (drop (k + 1) parts)) (sym (first_parts parts k part below))
    ∙ all_parts parts (k + 1) in
    let error = err_from_is_err_and c.from_residual.result c.from_residual.ensures.1 in
    rw error.1 (subst (AppendsPrefix (g.W.Sink.contents c.args.sink.now) (g.W.Sink.contents c.give_all.new.sink)) all (prefix_longer _ _ _ (joined (drop (k + 1) parts)) front))
