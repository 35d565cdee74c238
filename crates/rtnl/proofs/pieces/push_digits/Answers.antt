use Rattle.rtnl.proofs.Common.{◌≡◌, ◌++◌, ◌∙◌, ap, sym, append_assoc, take-append-drop, encode_lower}
use Rattle.rtnl.proofs.Digits.{digits_append}
use Rattle.rtnl.proofs.pieces.push_digits.Goals as goal

pub loop-rest-preserved : goal.loop-rest-preserved
loop-rest-preserved c =
    let chunk = c.split_at.result.0.now in
    let others = c.split_at.result.1.now in
    let whole : chunk ++ others ≡ c.loop-rest.rest.now = rw (c.split_at.ensures.front, c.split_at.ensures.back) (take-append-drop 32 c.loop-rest.rest.now) in
    ap (λ l. l ++ encode_lower others) c.in_ok-push_chunk.ensures
    ∙ append_assoc c.loop-rest.out.items (encode_lower chunk) (encode_lower others)
    ∙ ap (λ l. c.loop-rest.out.items ++ l) (sym (digits_append chunk others) ∙ ap encode_lower whole)
    ∙ c.loop-rest.invariant
