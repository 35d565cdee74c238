use Rattle.nl_mirror.proofs.Common.{sym, ap, ◌∙◌, is_some, body_item, body_view}
use Rattle.nl_attr.proofs.Lemmas.Taping.{none_in}
use Rattle.nl_mirror.proofs.follower.Follower.overhear.Goals as goal

pub hear_other-requires : goal.hear_other-requires
hear_other-requires g c =
    let body = body_view c.args.message.now.body in
    none_in (body_item g.T.FromBody.family body) (sym c.if-is_of.false ∙ c.is_of.ensures ∙ ap (λ k. is_some (body_item k body)) c.kind.ensures)
