use Rattle.nl_mirror.proofs.Common.{◌≡◌, ◌∷◌, [], ◌++◌, ap, sym, ◌∙◌, append_assoc, key_by}
use Rattle.nl_mirror.proofs.OneMore.{same_more, told_more}
use Rattle.nl_mirror.proofs.telling.tell_all.Goals as goal

pub loop-change-preserved : goal.loop-change-preserved
loop-change-preserved g c =
    let i = c.loop-change.invariant in
    let told = i.told in
    let rest = c.next.new.self.rest.items in
    let split : c.loop-change.change-iterator.rest.items ≡ c.in-Some.change ∷ rest = c.in-Some.ensures.steps.0 in
    record {
      limits = same_more c.args.table.now c.loop-change.table c.tell_silently.new.table i.limits c.tell_silently.ensures.limits;
      told = (
        told.0 ++ c.in-Some.change ∷ [],
        append_assoc told.0 (c.in-Some.change ∷ []) rest ∙ ap (λ l. told.0 ++ l) (sym split) ∙ told.1,
        told_more (key_by g.T.FromBody.item) c.args.table.now c.loop-change.table c.tell_silently.new.table told.0 c.in-Some.change i.limits told.2 c.in_ok-tell_silently.ensures.told,
      );
    }
