use Rattle.rtnl.proofs.Common.{◌∙◌, ◌++◌, ◌∷◌, [], ap}
use Rattle.nl_values.specs.Numbers.{size_of}
use Rattle.nl_values.specs.declared.format.Format.TheVariants.{Integer}
use Rattle.rtnl.specs.declared.bytes.notation.Notation.TheVariants.{Meaning}
use Rattle.rtnl.specs.declared.bytes.parts.Extent.TheVariants.{Bytes}
use Rattle.rtnl.specs.ByteViews.{marks_in}
use Rattle.rtnl.specs.Kernel.{kernel_name}
use Rattle.rtnl.specs.Marks.{named}
use Rattle.rtnl.proofs.Inside.{number_seen}
use Rattle.rtnl.proofs.bytes.inside.push_series.Goals as goal

pub loop-index-preserved : goal.loop-index-preserved
loop-index-preserved c =
    number_seen (named c.args.depth (Bytes (size_of c.args.number)) (kernel_name c.args.name) (Meaning (Integer c.args.number))) c.args.count c.loop-index._index _ _ _ c.loop-index-test.true
    (c.in_ok-push_whole.ensures ∙ ap (λ n. marks_in c.loop-index.pieces.items ++ named c.args.depth (Bytes n) (kernel_name c.args.name) (Meaning (Integer c.args.number)) ∷ []) c.size.ensures.value)
    c.loop-index.invariant
