use Rattle.rtnl.proofs.Common.{refl, not, ap, ◌++◌, ◌∙◌, unbegun_by, where_so}
use Rattle.rtnl.proofs.runs.mirror.begin.Goals as goal

pub returns : goal.returns
returns g c = (
  c.begin.result,
  c.begin.ensures,
  refl,
  c.count_unbegun-kept.ensures ∙ ap (λ b. unbegun_by b c.args.kept.now.unbegun) c.is_begun-begun.ensures,
  c.in_ok-push_unbegun.ensures ∙ ap (λ b. c.args.out.now.items ++ where_so (not b) (g.F.MirrorFormat.telling.unbegun c.args.dump)) c.is_begun-begun.ensures,
)
