use Rattle.nl_frame.proofs.Common.{◌≡◌, ℕ, List, take, Option, None, Some, Result, Ok, Err, refl, ap, sym, subst, ◌∙◌, MatchOption, BuildError, OpenHead, BuilderTop, finish, finish_refusal, or_next, top, over, written, IsTheList}
use Rattle.nl_frame.proofs.Ends.{finishes}
use Rattle.nl_frame.proofs.building.Builder.finish.Goals as goal

-- a length is answered where nothing is refused
is_done : (r : Result ℕ BuildError) (n m : ℕ) (o : Option BuildError) → r ≡ Ok n → MatchOption o (r ≡ Ok m) (λ e. r ≡ Err e) → (o ≡ None) × (n ≡ m)
is_done r n m None i h = let both : Ok n ≡ Ok m = sym i ∙ h in (refl, cc)
is_done r n m (Some e) i h = absurd (cc)

pub returns-clause-puts : goal.returns-clause-puts
returns-clause-puts c =
    let p = c.args.self.now in
    let out = c.args.out.now in
    let answers = λ (x : BuilderTop). (hs : List OpenHead) → top hs ≡ x.head → MatchOption (or_next x.refusal (finish_refusal hs)) (c.finish.result ≡ Ok x.len) (λ e. c.finish.result ≡ Err e) in
    let done = is_done c.finish.result _ _ (finish (over p out)) c.in_ok-len.was (subst answers c.as_top.ensures.value c.finish.ensures p.heads refl) in
    let front : take c.in_ok-len.len out ≡ take p.len out = ap (λ k. take k out) done.1 in
    λ d L h. subst (λ (xs : List ℕ). (xs ≡ written L.shape.order d.ended) × IsTheList L xs d.ended) (sym front) (finishes (over p out) d L done.0 h)
