use Rattle.rtnl.proofs.Common.{◌∙◌, ◌++◌, ◌∷◌, []}
use Rattle.nl_values.specs.declared.format.Format.TheVariants.{Integer}
use Rattle.rtnl.specs.declared.bytes.notation.Notation.TheVariants.{Meaning}
use Rattle.rtnl.specs.declared.bytes.parts.Extent.TheVariants.{Bytes}
use Rattle.rtnl.specs.ByteViews.{marks_in}
use Rattle.rtnl.specs.Kernel.{kernel_name}
use Rattle.rtnl.specs.Marks.{named}
use Rattle.rtnl.proofs.Inside.{counter_seen}
use Rattle.rtnl.proofs.bytes.inside.push_counters.Goals as goal

pub loop-place-preserved : goal.loop-place-preserved
loop-place-preserved c =
    counter_seen c.args.depth (kernel_name c.args.name) c.args.number c.args.names c.args.count c.loop-place.place _ _ _ c.loop-place-test.true
    (c.in_ok-push_whole.ensures
    ∙ (λ j. marks_in c.loop-place.pieces.items ++ named c.args.depth (Bytes (c.size.ensures.value j)) (c.place_name-own.ensures j) (Meaning (Integer c.args.number)) ∷ []))
    c.loop-place.invariant
