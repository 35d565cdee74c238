-- A table, as one change after another is told.
use Rattle.nl_mirror.proofs.Common.{◌≡◌, ℕ, List, [], ◌∷◌, ◌++◌, sym, ap, ◌∙◌, Order, Content, Change, Held, held_of, tell, tell_all, SameLimits}
use Rattle.nl_mirror.proofs.Pasts.{tell_all-append}

-- one more is told
pub told_more : {T : Type 0} (key_of : Order → T → List ℕ) (first before after : Content T) (done : List (Change T)) (c : Change T) → SameLimits first before
    → held_of before ≡ tell_all (key_of first.order) first.limit (held_of first) done → held_of after ≡ tell (key_of before.order) before.limit (held_of before) c
    → held_of after ≡ tell_all (key_of first.order) first.limit (held_of first) (done ++ c ∷ [])
told_more {T} key_of first before after done c same told step =
    step ∙ ap (λ o. tell (key_of o) before.limit (held_of before) c) same.0 ∙ ap (λ n. tell (key_of first.order) n (held_of before) c) same.1
    ∙ ap (λ (h : Held T). tell (key_of first.order) first.limit h c) told ∙ sym (tell_all-append (key_of first.order) first.limit (held_of first) done (c ∷ []))

pub same_more : {T : Type 0} (first before after : Content T) → SameLimits first before → SameLimits before after → SameLimits first after
same_more first before after p q = (q.0 ∙ p.0, q.1 ∙ p.1)
