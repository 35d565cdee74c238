-- What reading a datagram answers, and what is shown of it.
use Rattle.rtnl.proofs.Common.{◌≡◌, ◌≢◌, ◌<◌, ◌↔◌, ℕ, List, ◌++◌, length, map, Result, Ok, Err, IfOk, IfErr, refl, subst, ap, ◌∙◌, append_assoc, ReadError, IsFirstFault, whole, Layout, Bounds, message_view, Answers, Refuses}
use Rattle.std.specs.Global.{Vec}
use Rattle.nl_frame.specs.declared.body.Message.{Message}
use Rattle.nl_frame.specs.declared.reading.ReadError.TheVariants.{TooLarge, Layout as Fails, Memory}
use Rattle.nl_frame.specs.Outcomes.{IfFault}
use Rattle.nl_frame.proofs.Within.{within}

pub answers_messages : (b : Bounds) (d : List ℕ) (r : Result (Vec Message) ReadError) → (r ≡ Err TooLarge) ↔ (b.datagram < length d)
    → (v : Vec Message) → r ≡ Ok v → IfOk r (λ (x : Vec Message). Layout b.shape (map message_view x.items) d) → Answers b d (Ok (map message_view v.items))
answers_messages b d r large v is fits =
    (within r b.datagram (length d) large (λ e. cc), subst (λ x. IfOk x (λ (x : Vec Message). Layout b.shape (map message_view x.items) d)) is fits)

-- what a refusal says of it
pub refuses : {X : Type 0} (b : Bounds) (d : List ℕ) (r : Result X ReadError) → (r ≡ Err TooLarge) ↔ (b.datagram < length d)
    → (e : ReadError) → r ≡ Err e → e ≢ Memory → IfErr r (λ x. IfFault x (λ f. IsFirstFault b.shape (whole d) f.place f.reason)) → Refuses b d e
refuses b d r large TooLarge is other first = large.0 is
refuses b d r large (Fails f) is other first =
    (within r b.datagram (length d) large (λ h. cc), subst (λ x. IfErr x (λ y. IfFault y (λ g. IsFirstFault b.shape (whole d) g.place g.reason))) is first)
refuses b d r large Memory is other first = absurd (other refl)

-- one text after another
pub one_more : (old mid new x y : List ℕ) → mid ≡ old ++ x → new ≡ mid ++ y → new ≡ old ++ (x ++ y)
one_more old mid new x y first next = next ∙ ap (λ t. t ++ y) first ∙ append_assoc old x y
