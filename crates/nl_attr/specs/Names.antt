-- Names of values.
use Rattle.std.specs.Prelude.{◌≡◌, ◌≢◌, ℕ, List, Result, MatchResult, codes}
use Rattle.nl_attr.specs.declared.order.Order.{Order}
use Rattle.nl_attr.specs.declared.order.Order.TheVariants.{Little, Big}

-- the name of an order, as it stands on the command line
abbrev pub order_name : Order → List ℕ
order_name Little = codes "little"
order_name Big = codes "big"

-- what a text is read as where each value has a name: the value of this name, or a refusal where none has it
abbrev pub Parses : {X E : Type 0} → (X → List ℕ) → List ℕ → Result X E → Type 0
Parses {X} name text r = MatchResult r (λ x. name x ≡ text) (λ _. (x : X) → name x ≢ text)
