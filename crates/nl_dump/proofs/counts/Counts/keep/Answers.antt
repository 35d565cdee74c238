use Rattle.nl_dump.proofs.Common.{◌≡◌, Bool, true, false, not, [], refl, sym, ap, ◌∙◌, put_from, keeping}
use Rattle.nl_attr.proofs.Lemmas.Putting.{put_one}
use Rattle.nl_dump.proofs.counts.Counts.keep.Goals as goal

kept_so : (b : Bool) → not b ≡ false → true ≡ b
kept_so true h = refl
kept_so false h = cc

pub returns-clause-events : goal.returns-clause-events
returns-clause-events c =
    let a = c.args in
    c.put.ensures ∙ sym (put_one a.self.events a.event a.out.now) ∙ ap (λ b. put_from a.self.events (keeping b a.event []) a.out.now) (kept_so a.self.keeps c.if-not-self.false)
