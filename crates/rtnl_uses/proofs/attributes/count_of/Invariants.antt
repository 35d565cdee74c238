-- All that came so far is attributes, of which those of the number are counted.
use Rattle.std.proofs.Common.{◌≡◌, ◌≤◌, ◌+◌, ◌==◌, List, length, map, count_by, Ok}
use Rattle.nl_attr.specs.declared.walk.attrs.Part.{Part}
use Rattle.rtnl_uses.proofs.attributes.count_of.Given as goal

abbrev pub invariant-loop-part : goal.invariant-loop-part
invariant-loop-part l =
    (l.count + length l.part-iterator.left ≤ length l.fn.region)
    × (l.part-iterator.place + length l.part-iterator.left ≤ length l.fn.region)
    × ((parts : List Part) × (l.yielded ≡ map (λ p. Ok p) parts) × (l.count ≡ count_by (λ p. p.number == l.fn.number) parts))
