use Rattle.std.proofs.Common.{IfSome, Option, Some, None, option_map, refl, subst, sym, true, ◌≡◌}
use Rattle.nl_values.specs.Known.{attribute_of, attribute_view, is_word}
use Rattle.nl_values.specs.declared.set.Attribute.{Attribute}
use Rattle.nl_values.proofs.Ascii.{attributes}
use Rattle.nl_values.proofs.Words.{IsWord, word}
use Rattle.nl_values.proofs.set.Set.attribute.Goals as goal

pub attribute_in-requires : goal.attribute_in-requires
attribute_in-requires c = record { ascii = attributes }

pub returns-clause-row : goal.returns-clause-row
unfolding attribute_of
returns-clause-row c = c.attribute_in.ensures

of_view : (it : Option Attribute) → IsWord (option_map attribute_view it) → IfSome it (λ a. is_word a.name.now ≡ true)
of_view None w = tt
of_view (Some a) w = w

pub returns-clause-word : goal.returns-clause-word
unfolding attribute_of
returns-clause-word c = of_view c.attribute_in.result (subst IsWord (sym c.attribute_in.ensures) (word c.args.self c.args.number))
