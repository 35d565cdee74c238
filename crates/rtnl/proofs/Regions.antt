-- The attributes of a region, one after another.
use Rattle.std.proofs.Common.{◌≡◌, ◌≤◌, ◌%◌, ◌∙◌, ℕ, zero, suc, List, [], ◌∷◌, length, drop, Option, Some, None, Ok, Err, refl, sym, ap, arith}
use Rattle.nl_attr.specs.Fixed.{NUMBERS}
use Rattle.nl_attr.specs.Numbers.{kind_of, span_of}
use Rattle.nl_attr.specs.Walk.{GivesPart, Region, broken_length, payload_of}
use Rattle.nl_attr.specs.declared.fault.Fault.{Fault}
use Rattle.nl_attr.specs.declared.fault.Reason.{Reason}
use Rattle.nl_attr.specs.declared.order.Order.{Order}
use Rattle.nl_attr.specs.declared.walk.attrs.Part.{Part as HeldPart}
use Rattle.nl_attr.proofs.Lemmas.Reading.{rest_shorter, sound_within}
use Rattle.rtnl.specs.Data.{Part, parts_at, parts_of, unless_broken}

-- two tails are the same where the header in front breaks no rule
if_sound : (r : Option Reason) (part : Part) (xs ys : List Part) → (r ≡ None → xs ≡ ys) → unless_broken r (part ∷ xs) ≡ unless_broken r (part ∷ ys)
if_sound None part xs ys same = ap (λ tail. part ∷ tail) (same refl)
if_sound (Some r) part xs ys same = refl

-- the bound of the recursion does not matter
enough : (o : Order) (n m : ℕ) (left : List ℕ) → length left ≤ n → length left ≤ m → parts_at o n left ≡ parts_at o m left
unfolding parts_at
enough o zero zero left h k = refl
enough o zero (suc m) [] h k = refl
enough o zero (suc m) (b ∷ bs) h k = absurd (omega (arith, h))
enough o (suc n) zero [] h k = refl
enough o (suc n) zero (b ∷ bs) h k = absurd (omega (arith, k))
enough o (suc n) (suc m) left h k =
    if_sound (broken_length o 4 2 left) (kind_of o left % NUMBERS, payload_of o 4 2 left) _ _ (λ sound.
    let within = sound_within o 4 2 left sound in
    enough o n m (drop (span_of o 2 left) left) (rest_shorter o 4 2 n left (omega arith) within h) (rest_shorter o 4 2 m left (omega arith) within k))

-- at the end there is none
none_left : (o : Order) (left : List ℕ) → left ≡ [] → parts_of o left ≡ []
unfolding parts_at
none_left o left is = ap (parts_of o) is

one_of : (o : Order) (n : ℕ) (left : List ℕ) → length left ≤ n → broken_length o 4 2 left ≡ None
    → parts_at o n left ≡ (kind_of o left % NUMBERS, payload_of o 4 2 left) ∷ parts_of o (drop (span_of o 2 left) left)
unfolding parts_at
one_of o zero [] h sound = absurd cc
one_of o zero (b ∷ bs) h sound = absurd (omega (arith, h))
one_of o (suc n) left h sound =
    let rest = drop (span_of o 2 left) left in
    ap (λ r. unless_broken r ((kind_of o left % NUMBERS, payload_of o 4 2 left) ∷ parts_at o n rest)) sound
    ∙ ap (λ tail. (kind_of o left % NUMBERS, payload_of o 4 2 left) ∷ tail)
    (enough o n (length rest) rest (rest_shorter o 4 2 n left (omega arith) (sound_within o 4 2 left sound) h) (omega arith))

none_of : (o : Order) (n : ℕ) (left : List ℕ) (r : Reason) → broken_length o 4 2 left ≡ Some r → parts_at o n left ≡ []
unfolding parts_at
none_of o zero left r broken = refl
none_of o (suc n) left r broken =
    ap (λ r. unless_broken r ((kind_of o left % NUMBERS, payload_of o 4 2 left) ∷ parts_at o n (drop (span_of o 2 left) left))) broken

-- a step of a walk gives the first attribute, and leaves the others
pub part_given : (r s : Region) (p : HeldPart) → GivesPart r (Some (Ok p)) s → parts_of r.order r.left ≡ (p.number, p.payload.now) ∷ parts_of s.order s.left
part_given r s p g =
    let held = g.2 in
    one_of r.order (length r.left) r.left (omega arith) g.1.0
    ∙ (λ i. (sym held.number i, sym held.payload i) ∷ parts_of r.order (drop (span_of r.order 2 r.left) r.left))
    ∙ ap (λ (t : Region). (p.number, p.payload.now) ∷ parts_of t.order t.left) (sym g.3)

-- a fault leaves none
pub fault_given : (r s : Region) (f : Fault) → GivesPart r (Some (Err f)) s → parts_of r.order r.left ≡ []
fault_given r s f g = none_of r.order (length r.left) r.left f.reason g.1

-- where nothing is given, nothing is left
pub nothing_given : (r s : Region) → GivesPart r None s → parts_of r.order r.left ≡ []
nothing_given r s g = none_left r.order r.left g.0

-- the order stays
pub order_kept : (r s : Region) (p : HeldPart) → GivesPart r (Some (Ok p)) s → s.order ≡ r.order
order_kept r s p g = ap (λ (t : Region). t.order) g.3
